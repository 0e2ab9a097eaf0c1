-- `by_parts::word_taken` meets its contract: where it is of no use the answer is no, and else that of the parts.
use mathlib.Core.Bool.{false≢true}
use Rattle.least_words.proofs.by_parts.word_taken.Goals as goal

pub returns-then-not-is_worth : goal.returns-then-not-is_worth
returns-then-not-is_worth c = record {
  word = λ e. absurd (false≢true e);
  index = λ e. absurd (false≢true e);
}
