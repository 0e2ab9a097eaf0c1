-- The rows that are read and written: a row in full is the part where it stands, and a dropped row's zeros are the bytes of a word without letters, so that rows
-- are written as words are (`row-bytes`). Lists that are known row by row, and one word as rows of one.
use Prim.Native.Nat.{ℕ, ◌+◌, ◌-◌, ◌*◌, ◌≤◌, ◌<◌}
use mathlib.Core.Path.{◌≡◌, refl, sym, ap, ap₂, ◌∙◌}
use mathlib.Core.Bool.{Bool, true, false, cond}
use mathlib.Core.List.{List, [], ◌∷◌, ◌++◌, map, map-map, append-nil}
use native.Mathlib.Omega.{arith}
use borrow.Author.Tests.{ne_eqb}
use lib.Dec.{eqb}
use lib.IntN.{ℤ}
use lib.ListN.{length, get_or, take, drop}
use Rattle.pauli_word.specs.Limits.{word_length}
use Rattle.pauli_word.specs.Word.{Word}
use Rattle.pauli_word.specs.Bytes.{AcceptedWord, letters_in, in_full}
use Rattle.pauli_word.proofs.Forms.{full_same}
use Rattle.action.specs.Lists.{from, below}
use Rattle.action.specs.Permutation.{Generator, Valid}
use Rattle.action.specs.Sector.{keeps, dropped_by}
use Rattle.action.proofs.Below.{map-below-of}
use Rattle.elements.specs.HeldGroup.{encode_all}
use Rattle.row_lists.specs.Rows.{row_by, row_at, in_full_by, join_rows}
use Rattle.row_lists.proofs.Rows.{part_by, length-by}
use Rattle.least_words.specs.Rows.{row_letters}
use Rattle.least_words.proofs.Answers.{rows_of, one-row}
use Rattle.decisions.specs.declared.placement.Placement.TheVariants as Placement
use Rattle.decisions.specs.Decisions.{Decision, kept, dropped, Row, decision, row_word, row_index, row_orbit}
use Rattle.decisions.specs.Placements.{placement_of}
use Rattle.decisions.proofs.Placing.{written_letters, row-bytes}
use Rattle.sector_parts.proofs.Joining.{size-positive}
use Rattle.sector_rows.specs.Rows.{decided_rows, sector_words, sector_indices, sector_sizes}

-- ---- the rows that are read

-- a row in full is inside the list, and is the part where it stands
module _ {size : ℕ} (e : size ≡ word_length) (words : List ℕ) (i : ℕ) (inside : size * i + size ≤ length words) where
  pub row_within : word_length * i + word_length ≤ length words
  row_within = rw (← e) inside

  pub row-stands : take (word_length * i + word_length - word_length * i) (drop (word_length * i) words) ≡ in_full (row_by size words i)
  row-stands =
      part_by word_length words i
      ∙ sym (full_same (row_by word_length words i) (length-by word_length words i row_within))
      ∙ ap (λ (k : ℕ). in_full (row_by k words i)) (sym e)

-- ---- the rows that are written

rows_written : (ds : List (Decision Row)) → encode_all (map written_letters ds) ≡ sector_words ds
unfolding encode_all join_rows
rows_written [] = refl
rows_written (d ∷ ds) = ap₂ ◌++◌ (sym (row-bytes d)) (rows_written ds)

-- the output lists, row by row
module _ (gs : List Generator) (ks : List ℤ) (n : ℕ) (words : List ℕ) (k : ℕ) where
  abbrev pub decided_row : ℕ → Decision Row
  decided_row i = decision gs ks (row_letters n words i)

  pub decided-words : encode_all (map (λ i. written_letters (decided_row i)) (below k)) ≡ sector_words (decided_rows gs ks n words k)
  unfolding decided_rows
  decided-words = ap encode_all (sym (map-map written_letters decided_row (below k))) ∙ rows_written (map decided_row (below k))

  pub decided-indices : map (λ i. row_index (decided_row i)) (below k) ≡ sector_indices (decided_rows gs ks n words k)
  unfolding decided_rows
  decided-indices = sym (map-map row_index decided_row (below k))

  pub decided-sizes : map (λ i. row_orbit (decided_row i)) (below k) ≡ sector_sizes (decided_rows gs ks n words k)
  unfolding decided_rows
  decided-sizes = sym (map-map row_orbit decided_row (below k))

-- ---- lists that are known row by row

module _ (gs : List Generator) (ks : List ℤ) (n : ℕ) (words : List ℕ) (k : ℕ) where
  abbrev decided : ℕ → Decision Row
  decided = decided_row gs ks n words k

  pub words-by-row : {rows : List ℕ} → length rows ≡ word_length * k → ((i : ℕ) → i < k → row_at rows i ≡ row_word (decided i))
      → rows ≡ sector_words (decided_rows gs ks n words k)
  words-by-row {rows} long h =
      rows_of (λ i. written_letters (decided i)) k rows long (λ i l. h i l ∙ row-bytes (decided i)) ∙ decided-words gs ks n words k

  pub indices-by-row : {indices : List ℕ} → length indices ≡ k → ((i : ℕ) → i < k → get_or indices i 0 ≡ row_index (decided i))
      → indices ≡ sector_indices (decided_rows gs ks n words k)
  indices-by-row {indices} long h = map-below-of (λ i. row_index (decided i)) k 0 indices long h ∙ decided-indices gs ks n words k

  pub sizes-by-row : {sizes : List ℕ} → length sizes ≡ k → ((i : ℕ) → i < k → get_or sizes i 0 ≡ row_orbit (decided i))
      → sizes ≡ sector_sizes (decided_rows gs ks n words k)
  sizes-by-row {sizes} long h = map-below-of (λ i. row_orbit (decided i)) k 0 sizes long h ∙ decided-sizes gs ks n words k

-- ---- one word

module _ {n : ℕ} {word : List ℕ} (ok : AcceptedWord n word) (gs : List Generator) (ks : List ℤ) where
  -- its row alone
  only : decided_rows gs ks n (in_full_by word_length 1 word) 1 ≡ decision gs ks (letters_in n word) ∷ []
  unfolding decided_rows below from
  only = ap (λ (l : List ℕ). decision gs ks (letters_in n l) ∷ []) (one-row ok)

  pub one_word : sector_words (decided_rows gs ks n (in_full_by word_length 1 word) 1) ≡ row_word (decision gs ks (letters_in n word))
  unfolding join_rows
  one_word = ap sector_words only ∙ append-nil (row_word (decision gs ks (letters_in n word)))

  pub one_index : get_or (sector_indices (decided_rows gs ks n (in_full_by word_length 1 word) 1)) 0 0 ≡ row_index (decision gs ks (letters_in n word))
  one_index = ap (λ (ds : List (Decision Row)). get_or (sector_indices ds) 0 0) only

  pub one_size : get_or (sector_sizes (decided_rows gs ks n (in_full_by word_length 1 word) 1)) 0 0 ≡ row_orbit (decision gs ks (letters_in n word))
  one_size = ap (λ (ds : List (Decision Row)). get_or (sector_sizes ds) 0 0) only

-- ---- a decision by its index and its orbit size, which is 0 where the word is dropped

told_by : (b : Bool) (r : Row) (i : ℕ) → 0 < r.size
    → cond (eqb (row_orbit (cond b (kept r) (dropped i))) 0) (Placement.Dropped (row_index (cond b (kept r) (dropped i)))) (Placement.Kept (row_index (cond b (kept r) (dropped i))) (row_orbit (cond b (kept r) (dropped i))))
    ≡ placement_of (cond b (kept r) (dropped i))
told_by true r i h = rw (ne_eqb r.size 0 (λ e. omega arith))
told_by false r i h = refl

pub decided_told : {n : ℕ} {gs : List Generator} → Valid n gs → (ks : List ℤ) (w : Word) → length w ≡ n
    → cond (eqb (row_orbit (decision gs ks w)) 0) (Placement.Dropped (row_index (decision gs ks w))) (Placement.Kept (row_index (decision gs ks w)) (row_orbit (decision gs ks w)))
    ≡ placement_of (decision gs ks w)
unfolding decision
decided_told {gs = gs} v ks w long = told_by (keeps gs ks w) _ (dropped_by gs ks w) (size-positive v w long)
