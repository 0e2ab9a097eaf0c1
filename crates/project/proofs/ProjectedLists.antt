-- What the output lists hold once the turned rows are folded: the table of the projected sum.
-- The fact that carries it: a table of two parts is, part by part, the table of each (`table-through`), and words are compared as their bytes are.
use Prim.Native.Nat.{ℕ, ◌-◌, ◌*◌, ◌≤◌, ◌<◌}
use mathlib.Core.Path.{◌≡◌, refl, sym, ap, ap₂, subst, ◌∙◌}
use mathlib.Core.List.{List, [], ◌++◌, map, map-map}
use native.Mathlib.Omega.{arith}
use lib.IntN.{ℤ, pos, ◌+ℤ◌}
use lib.ListN.{length, get_or, take, replicate, length-map}
use lib.Seq.{ext_get_or, length-take-le, get_or-take}
use Rattle.pauli_word.specs.Limits.{max_sites, word_length}
use Rattle.pauli_word.specs.Word.{Word, less, same}
use Rattle.pauli_word.specs.Bytes.{bytes_of}
use Rattle.action.specs.Lists.{Member}
use Rattle.keyed.specs.Keyed.{Fold, key_of, renamed, table_of, placed, place_values}
use Rattle.keyed.proofs.Tables.{get_d_map, table-renamed}
use Rattle.keyed.proofs.Places.{placed-take}
use Rattle.keyed.proofs.Commuting.{table-through}
use Rattle.row_lists.specs.Rows.{row_at, join_rows, rows_in}
use Rattle.row_lists.proofs.RowsIn.{rows-length, rows_at}
use Rattle.row_words.specs.Words.{different_words, RowPlaces, words_filled, filled}
use Rattle.row_words.proofs.PlacedRows.{words-table, values-table, filled-renamed}
use Rattle.row_words.proofs.WordBytes.{less-bytes, same_bytes}
use Rattle.projection.specs.Projection.{Parts, no_parts, add_parts, part_sums}
use Rattle.project.specs.Rows.{whole_sums, whole_rows}

-- ---- the first rows of the lists, folded

module _ (out : List ℕ) (xs : List ℤ) (kept k : ℕ) (inside : kept ≤ length xs) where
  abbrev cs : List ℤ
  cs = take kept xs

  as_long : length cs ≡ kept
  as_long = length-take-le kept xs inside

  pub part-folded : {places : List ℕ} → RowPlaces out kept places → kept ≤ k
      → place_values whole_sums k (placed (pos 0) places xs kept) ≡ filled (pos 0) (λ row. row.1) k (table_of whole_rows (rows_in out (take kept xs)))
  part-folded {places} p h =
      ap (place_values whole_sums k) (sym (placed-take (pos 0) places xs kept kept (omega arith)) ∙ ap (placed (pos 0) places cs) (sym as_long))
      ∙ values-table (pos 0) ◌+ℤ◌ (pos 0) out cs (subst (λ (m : ℕ). RowPlaces out m places) (sym as_long) p) k (omega (arith, as_long))

  pub words-folded : length out ≡ word_length * k
      → join_rows (different_words out kept) ++ replicate (length out - word_length * length (different_words out kept)) 0
      ≡ words_filled k (table_of whole_rows (rows_in out (take kept xs)))
  words-folded e =
      ap (λ (m : ℕ). join_rows (different_words out m) ++ replicate (length out - word_length * length (different_words out m)) 0) (sym as_long)
      ∙ words-table (pos 0) ◌+ℤ◌ (pos 0) out cs k e

-- ---- the turned rows, one part of each

-- sums of whole numbers by word
abbrev word_whole : Fold Word ℤ ℤ
word_whole = record { less = less; same = same; start = pos 0; step = ◌+ℤ◌ }

-- rows of which one part is taken, by a function that adds as parts do
module _ (part : Parts → ℤ) (none : part no_parts ≡ pos 0) (adds : (p q : Parts) → part (add_parts p q) ≡ part p +ℤ part q)
    (n : ℕ) (few : n ≤ max_sites) (rows : List (Word × Parts)) (long : (w : Word) → Member w (map key_of rows) → length w ≡ n) where
  abbrev taken : Word × Parts → Word × ℤ
  taken row = (row.0, part row.1)

  abbrev table : List (Word × Parts)
  table = table_of part_sums rows

  keys-taken : map key_of (map taken rows) ≡ map key_of rows
  keys-taken = map-map key_of taken rows

  -- the table of the rows' bytes
  bytes-table : table_of whole_rows (map (renamed bytes_of) (map taken rows)) ≡ map (renamed bytes_of) (map taken table)
  bytes-table =
      table-renamed bytes_of word_whole whole_rows refl refl (less-bytes n few) (same_bytes n few) (map taken rows)
      (λ w m. long w (rw keys-taken at m))
      ∙ ap (map (renamed bytes_of)) (table-through part_sums (pos 0) ◌+ℤ◌ part part none adds rows)

  module _ (out : List ℕ) (xs : List ℤ) (inside : length rows ≤ length xs)
      (word : (j : ℕ) → j < length rows → row_at out j ≡ bytes_of (get_or rows j ([], no_parts)).0)
      (own : (j : ℕ) → j < length rows → get_or xs j (pos 0) ≡ part (get_or rows j ([], no_parts)).1) where
    abbrev first : List ℤ
    first = take (length rows) xs

    first-long : length first ≡ length rows
    first-long = length-take-le (length rows) xs inside

    -- the rows that the lists hold
    held_rows : rows_in out first ≡ map (renamed bytes_of) (map taken rows)
    held_rows =
        ext_get_or ([], pos 0) (rows_in out first) (map (renamed bytes_of) (map taken rows))
        (rows-length out first ∙ first-long ∙ sym (length-map (map taken rows) (renamed bytes_of) ∙ length-map rows taken)) at
      where
        at : (j : ℕ) → j < length (rows_in out first) → get_or (rows_in out first) j ([], pos 0) ≡ get_or (map (renamed bytes_of) (map taken rows)) j ([], pos 0)
        at j h =
            let short : j < length first = omega (arith, rows-length out first) in
            let l : j < length rows = omega (arith, first-long) in
            rows_at out first j (pos 0) ([], pos 0) short
            ∙ ap₂ (λ (b : List ℕ) (z : ℤ). (b, z)) (word j l) (get_or-take (length rows) xs j (pos 0) l ∙ own j l)
            ∙ sym
            (get_d_map (renamed bytes_of) (map taken rows) j ([], pos 0) ([], pos 0) (omega (arith, length-map rows taken))
            ∙ ap (renamed bytes_of) (get_d_map taken rows j ([], pos 0) ([], no_parts) l))

    same-table : table_of whole_rows (rows_in out first) ≡ map (renamed bytes_of) (map taken table)
    same-table = ap (table_of whole_rows) held_rows ∙ bytes-table

    pub part-list : (k : ℕ) → filled (pos 0) (λ row. row.1) k (table_of whole_rows (rows_in out (take (length rows) xs))) ≡ filled (pos 0) (λ row. part row.1) k (table_of part_sums rows)
    part-list k =
        ap (filled (pos 0) (λ row. row.1) k) same-table
        ∙ filled-renamed bytes_of (pos 0) (λ z. z) k (map taken table)
        ∙ ap₂ (λ (zs : List ℤ) (m : ℕ). zs ++ replicate (k - m) (pos 0)) (map-map (λ row. row.1) taken table) (length-map table taken)

    pub word-list : (k : ℕ) → words_filled k (table_of whole_rows (rows_in out (take (length rows) xs))) ≡ words_filled k (map (renamed bytes_of) (table_of part_sums rows))
    word-list k =
        ap (words_filled k) same-table
        ∙ ap₂ (λ (ws : List (List ℕ)) (m : ℕ). join_rows ws ++ replicate (word_length * k - word_length * m) 0)
        (map-map key_of (renamed bytes_of) (map taken table) ∙ map-map (λ row. bytes_of row.0) taken table ∙ sym (map-map key_of (renamed bytes_of) table))
        (length-map (map taken table) (renamed bytes_of) ∙ length-map table taken ∙ sym (length-map table (renamed bytes_of)))
