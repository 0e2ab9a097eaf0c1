-- `letters::pack` meets its contract. The loop's invariant: the planes of the codes before start, which are whole bytes but for the last.
use Prim.Native.Nat.{◌-◌, ◌*◌, ◌≤◌, ◌<◌}
use mathlib.Core.Path.{◌≡◌}
use lib.ListN.{length, take}
use Rattle.elements.proofs.Codes.{planes_of}
use Rattle.elements.proofs.letters.pack.Given as goal

abbrev pub invariant-loop-start : goal.invariant-loop-start
invariant-loop-start l = (l.start ≤ length l.letters) × (l.start < length l.letters → l.start ≡ 8 * l.j) × (l.out ≡ planes_of (take l.start l.letters))

abbrev pub decreases-loop-start : goal.decreases-loop-start
decreases-loop-start l = length l.letters - l.start
