-- `by_parts::rows_taken` meets its contract: where it is of no use the answer is no, and else that of the parts.
use mathlib.Core.Bool.{false≢true}
use Rattle.sector_rows.proofs.by_parts.rows_taken.Goals as goal

pub returns-then-not-is_worth : goal.returns-then-not-is_worth
returns-then-not-is_worth c = record {
  representatives = λ e. absurd (false≢true e);
  indices = λ e. absurd (false≢true e);
  sizes = λ e. absurd (false≢true e);
}
