-- Rows at the places of their words: contents folded by place are the rows folded by their words, for any contents and any fold.
-- The fact that carries it: a row's place is that of its word among the different words (`named`), and these are the keys of the rows' table.
use Prim.Native.Nat.{ℕ, zero, suc, ◌-◌, ◌*◌, ◌≤◌, ◌<◌}
use native.Mathlib.Nat.{le_refl}
use native.Mathlib.Omega.{arith}
use mathlib.Core.Path.{◌≡◌, refl, sym, ◌∙◌, ap, ap₂}
use mathlib.Core.List.{List, [], ◌∷◌, ◌++◌, map, map-map}
use lib.ListN.{length, get_or, take, replicate, length-map, length-append}
use lib.Seq.{take_all}
use Rattle.pauli_word.specs.Limits.{word_length}
use Rattle.pauli_word.proofs.Words.{map-append}
use Rattle.action.specs.Lists.{Member}
use Rattle.action.proofs.Lists.{length-le}
use Rattle.keyed.specs.Keyed.{Rising, rising, key_of, renamed, fold_key, table_of, running, by_place, placed, place_values}
use Rattle.keyed.proofs.Rising.{rising-rising, rising_no_repeats, of-rising-member}
use Rattle.keyed.proofs.Tables.{value_of, table-keys}
use Rattle.keyed.proofs.Places.{placed_row, placed-inside, values-keys, running-keys}
use Rattle.row_lists.specs.Rows.{row_at, join_rows, rows_in}
use Rattle.row_lists.proofs.RowsIn.{rows-length, rows_next}
use Rattle.row_words.specs.Words.{less_bytes, by_bytes, word_rows, different_words, RowPlaces, words_filled, filled}
use Rattle.row_words.proofs.RowKeys.{byte_orders, byte_equality}

-- ---- the different words

module _ (words : List ℕ) where
  rows-counted : (k : ℕ) → length (word_rows words k) ≡ k
  unfolding word_rows
  rows-counted zero = refl
  rows-counted (suc k) = length-append (word_rows words k) (row_at words k ∷ []) ∙ omega (arith, rows-counted k)

  module _ (k : ℕ) where
    words-rising : Rising less_bytes (different_words words k)
    unfolding different_words
    words-rising = rising-rising less_bytes (word_rows words k)

    pub few_words : length (different_words words k) ≤ k
    unfolding different_words
    few_words =
        let keys = rising_no_repeats byte_orders (different_words words k) words-rising in
        omega (arith, length-le (different_words words k) (word_rows words k) keys (of-rising-member less_bytes (word_rows words k)), rows-counted k)

    pub places-inside : {places : List ℕ} → RowPlaces words k places → (i : ℕ) → i < k → get_or places i 0 < k
    places-inside p i h = omega (arith, p.inside i h, few_words)

-- ---- rows with contents

module _ {C S : Type 0} (start : S) (step : S → C → S) (d : C) (words : List ℕ) (cs : List C) where
  abbrev rows : List (List ℕ × C)
  rows = rows_in words cs

  abbrev table : List (List ℕ × S)
  table = table_of (by_bytes start step) (rows_in words cs)

  abbrev keys : List (List ℕ)
  keys = different_words words (length cs)

  all-rows : take (length cs) rows ≡ rows
  all-rows = take_all (length cs) rows (rw (rows-length words cs) (le_refl (length cs)))

  row_words : (k : ℕ) → k ≤ length cs → map key_of (take k rows) ≡ word_rows words k
  unfolding word_rows
  row_words zero h = refl
  row_words (suc k) h =
      ap (map key_of) (rows_next words cs k d h)
      ∙ map-append key_of (take k rows) ((row_at words k, get_or cs k d) ∷ [])
      ∙ ap (λ (ws : List (List ℕ)). ws ++ (row_at words k ∷ [])) (row_words k (omega arith))

  rows-different : rising less_bytes (map key_of rows) ≡ keys
  unfolding different_words
  rows-different = ap (rising less_bytes) (ap (map key_of) (sym all-rows) ∙ row_words (length cs) (le_refl (length cs)))

  pub table-words : map key_of (table_of (by_bytes start step) (rows_in words cs)) ≡ different_words words (length cs)
  table-words = table-keys (by_bytes start step) rows ∙ rows-different

  pub table-length : length (different_words words (length cs)) ≡ length (table_of (by_bytes start step) (rows_in words cs))
  table-length = ap length (sym table-words) ∙ length-map table key_of

  -- the words of the table, in a list of k rows
  pub words-table : (k : ℕ) → length words ≡ word_length * k
      → join_rows (different_words words (length cs)) ++ replicate (length words - word_length * length (different_words words (length cs))) 0
      ≡ words_filled k (table_of (by_bytes start step) (rows_in words cs))
  words-table k long =
      ap₂ (λ (ws : List (List ℕ)) (n : ℕ). join_rows ws ++ replicate n 0) (sym table-words) (ap₂ (λ (a b : ℕ). a - word_length * b) long table-length)

  -- ---- and the places of their words

  module _ {places : List ℕ} (p : RowPlaces words (length cs) places) where
    abbrev rows_p : List (ℕ × C)
    rows_p = placed d places cs (length cs)

    placed-rows : (k : ℕ) → k ≤ length cs → map (renamed (λ q. get_or keys q [])) (placed d places cs k) ≡ take k rows
    unfolding placed
    placed-rows zero h = refl
    placed-rows (suc k) h =
        map-append (renamed (λ q. get_or keys q [])) (placed d places cs k) (placed_row d places cs k ∷ [])
        ∙ ap₂ (λ (l : List (List ℕ × C)) (w : List ℕ). l ++ ((w, get_or cs k d) ∷ [])) (placed-rows k (omega arith)) (p.own k h)
        ∙ sym (rows_next words cs k d h)

    named : map (renamed (λ q. get_or keys q [])) rows_p ≡ rows
    named = placed-rows (length cs) (le_refl (length cs)) ∙ all-rows

    inside : (a : ℕ) → Member a (map key_of rows_p) → a < length keys
    inside = placed-inside d places cs (length keys) (length cs) p.inside

    pub running-rows : running (by_place start step) (placed d places cs (length cs)) ≡ running (by_bytes start step) (rows_in words cs)
    running-rows =
        running-keys (by_bytes start step) byte_orders byte_equality keys [] (words-rising words (length cs)) rows_p rows named inside

    -- the values of n places are the table's, and after them those of no rows
    pub values-table : (n : ℕ) → length cs ≤ n
        → place_values (by_place start step) n (placed d places cs (length cs))
        ≡ filled start (λ row. row.1) n (table_of (by_bytes start step) (rows_in words cs))
    unfolding table_of
    values-table n h =
        values-keys (by_bytes start step) byte_orders byte_equality keys [] (words-rising words (length cs)) rows_p rows named inside n
        (omega (arith, few_words words (length cs)))
        ∙ ap₂ ◌++◌
        (ap (map (λ k. fold_key (by_bytes start step) k rows)) (sym rows-different)
        ∙ sym (map-map (λ row. row.1) (value_of (by_bytes start step) rows) (rising less_bytes (map key_of rows))))
        (ap (λ (m : ℕ). replicate (n - m) start) table-length)

-- what is filled in does not depend on how keys are named
pub filled-renamed : {K J S A : Type 0} (φ : K → J) (z : A) (part : S → A) (k : ℕ) (table : List (K × S))
    → filled z (λ row. part row.1) k (map (renamed φ) table) ≡ filled z (λ row. part row.1) k table
filled-renamed {A = A} φ z part k table =
    ap₂ (λ (parts : List A) (l : ℕ). parts ++ replicate (k - l) z) (map-map (λ row. part row.1) (renamed φ) table) (length-map table (renamed φ))
