-- `fold::place_homes` meets its contract. The loop's invariant: the homes of the first i rows are written over, and the others stand.
use Prim.Native.Nat.{◌≤◌}
use Rattle.row_words.proofs.Arranged.{HomesPlaced}
use Rattle.row_words.proofs.fold.place_homes.Given as goal

abbrev pub invariant-loop-i : goal.invariant-loop-i
invariant-loop-i l = (l.i ≤ l.rows) × HomesPlaced l.owners l.initial.homes l.homes l.i
