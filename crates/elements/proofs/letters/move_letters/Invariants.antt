-- `letters::move_letters` meets its contract. The loop's invariant: the first q codes stand at their targets.
use Prim.Native.Nat.{◌≤◌}
use mathlib.Core.Path.{◌≡◌}
use lib.ListN.{length}
use Rattle.elements.proofs.Codes.{Moved}
use Rattle.elements.proofs.letters.move_letters.Given as goal

abbrev pub invariant-loop-q : goal.invariant-loop-q
invariant-loop-q l = (l.q ≤ length l.from) × (length l.to ≡ length l.initial.to) × Moved l.perm l.from l.q l.to
