-- What the lists of a sum come to: coefficients added at their words' places are the fold of the rows by their words.
-- The fact that carries it: the values of the places are those of the rows' table (`values-table` of row_words).
use Prim.Native.Nat.{ℕ, ◌-◌, ◌*◌}
use native.Mathlib.Omega.{arith}
use native.Mathlib.Nat.{le_refl}
use mathlib.Core.Path.{◌≡◌, refl, sym, ◌∙◌, ap, ap₂}
use mathlib.Core.Bool.{not}
use mathlib.Core.List.{List, [], ◌∷◌, ◌++◌, map, map-map}
use lib.ListN.{length, replicate}
use lib.Ieee.{Float, nan}
use Rattle.outcome.specs.declared.Refusal.TheVariants as Refusal
use Rattle.outcome.specs.Outcome.{answer, rule, unless}
use Rattle.pauli_word.specs.Limits.{word_length}
use Rattle.pauli_word.proofs.Words.{map-append}
use Rattle.action.specs.Lists.{every}
use Rattle.keyed.specs.Keyed.{table_of, first_failing, placed, place_values}
use Rattle.keyed.proofs.Tables.{map-replicate}
use Rattle.row_lists.specs.Rows.{join_rows, rows_in}
use Rattle.row_words.specs.Words.{different_words, RowPlaces, words_filled, filled}
use Rattle.row_words.proofs.PlacedRows.{words-table, table-length, running-rows, values-table}
use Rattle.sum_rows.specs.declared.row_sum.RowSum.{RowSum}
use Rattle.sum_rows.specs.Sums.{no_rows, add_row, finite_sum, overflow, place_sums, fold_outcome, sums_filled, counts_filled}
use Rattle.sum_rows.specs.Rows.{byte_sums}
use Rattle.sum_rows.specs.Added.{Added}

module _ (words : List ℕ) (cs : List Float) where
  abbrev pub table_in : List (List ℕ × RowSum)
  table_in = table_of byte_sums (rows_in words cs)

  pub as_many : length (different_words words (length cs)) ≡ length table_in
  as_many = table-length no_rows add_row nan words cs

  pub words-filled : length words ≡ word_length * length cs
      → join_rows (different_words words (length cs)) ++ replicate (length words - word_length * length (different_words words (length cs))) 0
      ≡ words_filled (length cs) table_in
  words-filled long = words-table no_rows add_row nan words cs (length cs) long

  -- rows at the places of their words
  module _ {places : List ℕ} (p : RowPlaces words (length cs) places) where
    -- a part of each value
    part_filled : {A : Type 0} (part : RowSum → A) → map part (place_values place_sums (length cs) (placed nan places cs (length cs)))
        ≡ filled (part no_rows) (λ row. part row.1) (length cs) table_in
    part_filled part =
        ap (map part) (values-table no_rows add_row nan words cs p (length cs) (le_refl (length cs)))
        ∙ map-append part (map (λ row. row.1) table_in) (replicate (length cs - length table_in) no_rows)
        ∙ ap₂ ◌++◌ (map-map part (λ row. row.1) table_in) (map-replicate part (length cs - length table_in) no_rows)

    pub sums-filled : {sums : List Float} {counts : List ℕ} → Added places cs (length cs) sums counts → sums ≡ sums_filled (length cs) table_in
    sums-filled h = h.coefficients ∙ part_filled (λ s. s.coefficient)

    pub counts-filled : {sums : List Float} {counts : List ℕ} → Added places cs (length cs) sums counts → counts ≡ counts_filled (length cs) table_in
    counts-filled h = h.rows ∙ part_filled (λ s. s.rows)

    -- the running sums are those of the places
    pub fold-by-place : fold_outcome byte_sums (rows_in words cs) ≡ unless (overflow place_sums (placed nan places cs (length cs)) ∷ []) (answer table_in)
    unfolding fold_outcome
    fold-by-place =
        ap (λ (l : List RowSum). unless (rule (Refusal.SumNotFinite (first_failing finite_sum l)) (not (every finite_sum l)) ∷ []) (answer table_in))
        (sym (running-rows no_rows add_row nan words cs p))

-- ---- zeros alone

pub no_members : {A : Type 0} (z : A) (k : ℕ) {n : ℕ} → n ≡ k → replicate n z ≡ replicate (k - 0) z
no_members z k {n} e = let more : n ≡ k - 0 = omega arith in ap (λ (m : ℕ). replicate m z) more

pub no_words : (k : ℕ) → replicate (word_length * k) 0 ≡ words_filled {S = RowSum} k []
unfolding join_rows
no_words k = no_members 0 (word_length * k) refl
