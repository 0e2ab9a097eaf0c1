-- What rows of the old form mean: they are read as such, and a list of them is checked and read as the list of their words in full, which stays as
-- it is.
use Prim.Native.Nat.{ℕ, suc, ◌*◌, ◌≤◌}
use mathlib.Core.Path.{◌≡◌, refl, sym, ap, ap₂, ◌∙◌}
use mathlib.Core.Logic.{inr}
use mathlib.Core.Bool.{Bool, true, false, ◌&&◌, not}
use mathlib.Core.List.{List, ◌∷◌}
use native.Mathlib.Omega.{arith}
use lib.Dec.{eqb}
use lib.ListN.{length}
use Rattle.outcome.specs.declared.Refusal.TheVariants as Refusal
use Rattle.outcome.specs.Outcome.{Check, rule}
use Rattle.pauli_word.specs.Limits.{word_length, old_length, old_sites}
use Rattle.pauli_word.specs.Calls.{past_old}
use Rattle.pauli_word.proofs.Checks.{past_full, past_few}
use Rattle.row_lists.specs.Rows.{row_size, in_full_by, rows_in, rows_in_full}
use Rattle.row_lists.specs.Checks.{many_rows, row_checks, list_checks}
use Rattle.row_lists.proofs.InFull.{size-full, size-old, size-either, size-long, full-long, full_stays}
use Rattle.row_lists.proofs.ListChecks.{words-agree}

-- no rows count as in full
pub no_rows : row_size 0 0 ≡ word_length
no_rows = size-full 0 0 refl

-- and rows of the old form are none in full
pub old_size_lem : (words rows : ℕ) → words ≡ old_length * suc rows → row_size words (suc rows) ≡ old_length
old_size_lem words rows e = size-old words (suc rows) (λ f. omega arith)

-- where the words are of one form, the list of them in full is in full, and stays
module _ (k : ℕ) (words : List ℕ) (long : length words ≡ row_size (length words) k * k) where
  full-length : length (rows_in_full k words) ≡ word_length * k
  full-length = full-long (row_size (length words) k) (size-either (length words) k) k words long

  full_size : row_size (length (rows_in_full k words)) k ≡ word_length
  full_size = size-full (length (rows_in_full k words)) k full-length

  pub full-once : rows_in_full k (rows_in_full k words) ≡ rows_in_full k words
  full-once = ap (λ (size : ℕ). in_full_by size k (rows_in_full k words)) full_size ∙ full_stays k (rows_in_full k words) full-length

-- and its checks are those of the list as it is handed
module _ {C : Type 0} (own : ℕ → C → Check) (n : ℕ) (words : List ℕ) (cs : List C) (a b c : ℕ) where
  -- the checks, by whether the words' lengths agree and whether there are too many sites, and by the rows
  abbrev checks_by : Bool → Bool → List ℕ → List Check
  checks_by agree past full =
      rule Refusal.SumLists (not (agree && eqb a (word_length * length cs) && eqb b (length cs) && eqb c (length cs)))
      ∷ many_rows (length cs) ∷ rule Refusal.OldWordSites past ∷ row_checks own n 0 (rows_in full cs)

  pub checks-in-full : length words ≡ row_size (length words) (length cs) * length cs → past_old n (row_size (length words) (length cs)) ≡ false
      → list_checks own n (rows_in_full (length cs) words) cs a b c ≡ list_checks own n words cs a b c
  checks-in-full long fits =
      let k : ℕ = length cs in
      let full : List ℕ = rows_in_full k words in
      let size : row_size (length full) k ≡ word_length = full_size k words long in
      let full_long : length full ≡ row_size (length full) k * k = full-length k words long ∙ ap (λ (s : ℕ). s * k) (sym size) in
      ap₂ (λ (agree past : Bool). checks_by agree past (rows_in_full k full)) (words-agree (length full) k full_long) (past_full n (row_size (length full) k) size)
      ∙ ap (checks_by true false) (full-once k words long)
      ∙ sym (ap₂ (λ (agree past : Bool). checks_by agree past full) (words-agree (length words) k long) fits)

  pub old-checks : length words ≡ old_length * length cs → n ≤ old_sites
      → list_checks own n (rows_in_full (length cs) words) cs a b c ≡ list_checks own n words cs a b c
  old-checks long few = checks-in-full (size-long (length words) (length cs) (inr long)) (past_few n (row_size (length words) (length cs)) few)
