-- `merging::merge_rows` meets its contract. The loop's invariant: the first i rows are merged.
use Prim.Native.Nat.{◌≤◌}
use Rattle.row_words.specs.Held.{Held}
use Rattle.row_words.proofs.merging.merge_rows.Given as goal

abbrev pub invariant-loop-i : goal.invariant-loop-i
invariant-loop-i l = (l.i ≤ l.rows) × Held l.words l.i l.used l.positions l.homes
