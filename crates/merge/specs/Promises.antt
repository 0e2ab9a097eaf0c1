-- What is promised of a folded sum: which rows it has, how many input rows each counts and what they come to; and what a refusal by 25 says. The
-- words here are in full. Then, when two sums are answered alike.
use Rattle.std.specs.Prelude.{ℕ, suc, ◌<◌, ◌≡◌, true, false, List, map, length, take, Float}
use Rattle.std.specs.Float.{binary64}
use Rattle.std.specs.Float.Ieee.{add}
use Rattle.pauli_word.specs.Word.{Word, less}
use Rattle.action.specs.Lists.{Member, total}
use Rattle.action.specs.Orbit.{is_representative}
use Rattle.group.specs.declared.Group.{Group}
use Rattle.group.specs.Value.{generators_of}
use Rattle.keyed.specs.Keyed.{Rising, key_of, contents_of, left_fold}
use Rattle.row_lists.specs.Rows.{row_at, rows_in}
use Rattle.sum_rows.specs.declared.row_sum.RowSum.{RowSum}
use Rattle.sum_rows.specs.Sums.{zero, finite}
use Rattle.merge.specs.Calls.{representative, representative_rows, word_sums, sum_outcome, words_after, sums_after, counts_after}

-- the rows of the sum, each with its representative
abbrev pub input_rows : Group → List ℕ → List Float → List (Word × Float)
input_rows g words cs = representative_rows g (rows_in words cs)

-- the coefficients of the rows that have representative w, in input order
abbrev pub coefficients_of : Group → List ℕ → List Float → Word → List Float
coefficients_of g words cs w = contents_of word_sums w (input_rows g words cs)

-- a row of the result: the least word of its own orbit, how many input rows have it, and their sum, added to 0.0 in input order
pub record FoldedRow (g : Group) (words : List ℕ) (cs : List Float) (w : Word) (s : RowSum) : Type 0 where
  pub canonical : is_representative (generators_of g) w ≡ true
  pub positive : 0 < s.rows
  pub counted : s.rows ≡ length (coefficients_of g words cs w)
  pub summed : s.coefficient ≡ left_fold (add binary64) zero (coefficients_of g words cs w)
  pub is_finite : finite s.coefficient ≡ true

-- the rows of the result: strictly rising words, those of the input rows' representatives and no other; no input row is lost
pub record FoldedTable (g : Group) (words : List ℕ) (cs : List Float) (table : List (Word × RowSum)) : Type 0 where
  pub in_order : Rising less (map key_of table)
  pub from_input : (w : Word) → Member w (map key_of table) → Member w (map key_of (input_rows g words cs))
  pub all_input : (w : Word) → Member w (map key_of (input_rows g words cs)) → Member w (map key_of table)
  pub row : (w : Word) (s : RowSum) → Member (w, s) table → FoldedRow g words cs w s
  pub all_counted : total (λ row. row.1.rows) table ≡ length cs

-- the running sum at input row i: 0.0 and the coefficients of the rows up to and with row i that have its representative, in input order
abbrev pub sum_at : Group → List ℕ → List Float → ℕ → Float
sum_at g words cs i =
    left_fold (add binary64) zero (contents_of word_sums (representative g (row_at words i)) (take (suc i) (input_rows g words cs)))

-- row i is the first that makes a sum not finite
pub record OverflowsAt (g : Group) (words : List ℕ) (cs : List Float) (i : ℕ) : Type 0 where
  pub inside : i < length cs
  pub fails : finite (sum_at g words cs i) ≡ false
  pub first : (j : ℕ) → j < i → finite (sum_at g words cs j) ≡ true

-- a sum of these words and a sum of those are answered alike, and leave the output lists alike
pub record Alike (g : Group) (words others : List ℕ) (cs : List Float) (representatives : List ℕ) (sums : List Float) (counts : List ℕ) : Type 0 where
  pub outcome : sum_outcome g words cs representatives sums counts ≡ sum_outcome g others cs representatives sums counts
  pub words_left : words_after g words cs representatives sums counts ≡ words_after g others cs representatives sums counts
  pub sums_left : sums_after g words cs representatives sums counts ≡ sums_after g others cs representatives sums counts
  pub counts_left : counts_after g words cs representatives sums counts ≡ counts_after g others cs representatives sums counts
