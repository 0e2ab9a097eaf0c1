-- `places::place_rows` meets its contract. The loop's invariant: the rows asked for are in the first k places, and the places from k on wait for theirs.
use Prim.Native.Nat.{◌≤◌}
use Rattle.row_lists.proofs.Placing.{Placing}
use Rattle.row_lists.proofs.places.place_rows.Given as goal

abbrev pub invariant-loop-k : goal.invariant-loop-k
invariant-loop-k l = (l.k ≤ l.used) × Placing l.initial.positions l.initial.words l.used l.positions l.owners l.words l.k
