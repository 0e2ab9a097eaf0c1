-- `rows::clear_dropped` meets its contract. The loop's invariant: the first i rows are cleared where they are to be, and the others are as they were.
use Rattle.sector_parts.proofs.Passing.{RowsPassed}
use Rattle.row_lists.specs.Rows.{row_at, no_word}
use lib.Dec.{eqb}
use lib.ListN.{length, get_or}
use mathlib.Core.Bool.{cond}
use mathlib.Core.Path.{◌≡◌}
use Prim.Native.Nat.{◌≤◌}
use Rattle.sector_parts.proofs.rows.clear_dropped.Given as goal

abbrev pub invariant-loop-i : goal.invariant-loop-i
invariant-loop-i l = (l.i ≤ length l.sizes) × RowsPassed (λ j row. row ≡ cond (eqb (get_or l.sizes j 0) 0) no_word (row_at l.initial.representatives j)) l.initial.representatives l.representatives l.i
