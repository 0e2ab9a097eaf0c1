-- The checks of the lists of a sum, whatever its contents are: 22, 23, 36, and then its rows in order, each for 17 and for a rule of its content.
-- And those of rows of words alone: 22, 23, 36, and then 17 of each row.
use Rattle.std.specs.Prelude.{ℕ, zero, suc, ◌*◌, ◌≤◌, ◌<◌, ◌≡◌, Bool, ◌&&◌, ◌||◌, not, List, [], ◌∷◌, ◌++◌, ltb, eqb, length}
use Rattle.outcome.specs.declared.Refusal.TheVariants as Refusal
use Rattle.outcome.specs.Outcome.{Check, rule}
use Rattle.pauli_word.specs.Limits.{word_length, old_length}
use Rattle.pauli_word.specs.Bytes.{AcceptedWord}
use Rattle.pauli_word.specs.Calls.{clear_above, past_old}
use Rattle.row_lists.specs.Rows.{max_rows, row_at, row_size, rows_in, rows_in_full}

-- whether all lists have as many rows, by their lengths: the input's words, all of one form, and contents, and the output's words, which are in full,
-- and its two other lists
abbrev pub rows_agree : ℕ → ℕ → ℕ → ℕ → ℕ → Bool
rows_agree words rows out_words first second =
    (eqb words (word_length * rows) || eqb words (old_length * rows)) && eqb out_words (word_length * rows) && eqb first rows && eqb second rows

-- 22: lists that disagree in rows, or a word list of another number of bytes a row
abbrev pub other_rows : ℕ → ℕ → ℕ → ℕ → ℕ → Check
other_rows words rows out_words first second = rule Refusal.SumLists (not (rows_agree words rows out_words first second))

-- 23: more rows than there may be
abbrev pub many_rows : ℕ → Check
many_rows rows = rule Refusal.TooManyRows (ltb max_rows rows)

-- 36: rows of the old form, and more sites than that form has
abbrev pub old_rows : ℕ → ℕ → ℕ → Check
old_rows n words rows = rule Refusal.OldWordSites (past_old n (row_size words rows))

-- 17 of row i, in full: a bit at or above the site count
abbrev pub bit_above_sites : ℕ → ℕ → List ℕ → Check
bit_above_sites n i bytes = rule (Refusal.RowBitAboveSites i) (not (clear_above n bytes))

-- of row i: 17, and then the rule of its content
abbrev pub row_rules : ℕ → ℕ → List ℕ → Check → List Check
row_rules n i bytes own = bit_above_sites n i bytes ∷ own ∷ []

-- of the rows from row i on, in order
abbrev pub row_checks : {C : Type 0} → (ℕ → C → Check) → ℕ → ℕ → List (List ℕ × C) → List Check
row_checks own n i [] = []
row_checks own n i (row ∷ rows) = row_rules n i row.0 (own i row.1) ++ row_checks own n (suc i) rows

-- of the lists: 22, 23, 36, and then the rows; the last three are the lengths of the output lists
abbrev pub list_checks : {C : Type 0} → (ℕ → C → Check) → ℕ → List ℕ → List C → ℕ → ℕ → ℕ → List Check
list_checks own n words cs out_words first second =
    other_rows (length words) (length cs) out_words first second ∷ many_rows (length cs) ∷ old_rows n (length words) (length cs)
    ∷ row_checks own n 0 (rows_in (rows_in_full (length cs) words) cs)

-- ---- words alone

-- 17 of the k rows from row i on, in order; the words are in full
abbrev pub bits_above_sites : ℕ → List ℕ → ℕ → ℕ → List Check
bits_above_sites n words i zero = []
bits_above_sites n words i (suc k) = bit_above_sites n i (row_at words i) ∷ bits_above_sites n words (suc i) k

-- of the lists of a call on k rows of words: 22, 23, 36, and then the rows; the last three are the lengths of the output lists
abbrev pub word_list_checks : ℕ → List ℕ → ℕ → ℕ → ℕ → ℕ → List Check
word_list_checks n words k out_words first second =
    other_rows (length words) k out_words first second ∷ many_rows k ∷ old_rows n (length words) k ∷ bits_above_sites n (rows_in_full k words) 0 k

-- ---- rows that pass

-- k rows of accepted words of n sites, in full
pub record AcceptedRows (n : ℕ) (words : List ℕ) (k : ℕ) : Type 0 where
  pub few : k ≤ max_rows
  pub long : length words ≡ word_length * k
  pub word : (i : ℕ) → i < k → AcceptedWord n (row_at words i)
