-- `candidates::is_alone` meets its contract. The loop's invariant: the words before i are those of the set of k alone.
use Prim.Native.Nat.{◌≤◌}
use lib.Dec.{eqb}
use lib.ListN.{length}
use Rattle.packed.proofs.Packing.{Between}
use Rattle.grid.proofs.candidates.is_alone.Given as goal

abbrev pub invariant-loop-i : goal.invariant-loop-i
invariant-loop-i l = (l.i ≤ length l.left) × Between (λ q. eqb q l.k) 0 l.i l.left
