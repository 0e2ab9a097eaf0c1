-- `candidates::first_of` meets its contract. The loop's invariant: there is none in the words before i.
use Prim.Native.Nat.{◌≤◌}
use mathlib.Core.Bool.{false}
use lib.ListN.{length}
use Rattle.packed.proofs.Packing.{Between}
use Rattle.grid.proofs.candidates.first_of.Given as goal

abbrev pub invariant-loop-i : goal.invariant-loop-i
invariant-loop-i l = (l.i ≤ length l.left) × Between (λ q. false) 0 l.i l.left
