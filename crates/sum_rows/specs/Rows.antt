-- The rows of a sum: each word's bytes with its coefficient.
use Rattle.std.specs.Prelude.{ℕ, List, Float}
use Rattle.action.specs.Lists.{same_numbers}
use Rattle.keyed.specs.Keyed.{Fold}
use Rattle.row_words.specs.Words.{less_bytes}
use Rattle.sum_rows.specs.declared.row_sum.RowSum.{RowSum}
use Rattle.sum_rows.specs.Sums.{sums_by}

-- sums by rows' bytes
abbrev pub byte_sums : Fold (List ℕ) Float RowSum
byte_sums = sums_by less_bytes same_numbers
