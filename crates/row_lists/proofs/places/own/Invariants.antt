-- `places::own` meets its contract. The loop's invariant: the positions of the first k places have their owners, and no owner is too large.
use Prim.Native.Nat.{◌≤◌}
use Rattle.row_lists.proofs.Arranging.{Owning}
use Rattle.row_lists.proofs.places.own.Given as goal

abbrev pub invariant-loop-k : goal.invariant-loop-k
invariant-loop-k l = (l.k ≤ l.used) × Owning l.positions l.owners l.k
