-- What rows of words are answered: the output lists row by row, lists that are known row by row, and one word as rows of one.
use Prim.Native.Nat.{ℕ, zero, suc, ◌+◌, ◌-◌, ◌*◌, ◌≤◌, ◌<◌}
use mathlib.Core.Path.{◌≡◌, refl, sym, ap, ap₂, subst, ◌∙◌}
use mathlib.Core.List.{List, [], ◌∷◌, ◌++◌, map, map-map, append-nil}
use native.Mathlib.Nat.{add-zero, mul-suc}
use native.Mathlib.Omega.{arith}
use lib.ListN.{length, get_or, take, drop, replicate, length-replicate, length-drop, take-append-drop}
use lib.Seq.{take_all, length-take-le}
use Rattle.pauli_word.specs.Limits.{word_length}
use Rattle.pauli_word.specs.Word.{Word}
use Rattle.pauli_word.specs.Bytes.{AcceptedWord, letters_in, bytes_of}
use Rattle.action.specs.Lists.{from, below}
use Rattle.permutation.specs.Limits.{max_generators}
use Rattle.action.specs.Permutation.{Generator}
use Rattle.action.specs.Orbit.{least, index_back}
use Rattle.action.proofs.Below.{map-below-of}
use Rattle.elements.specs.HeldGroup.{encode_all}
use Rattle.row_lists.specs.Rows.{in_full_by, row_at}
use Rattle.row_lists.specs.Checks.{AcceptedRows}
use Rattle.row_lists.proofs.Rows.{row_first, row-behind}
use Rattle.row_lists.proofs.InFull.{full_stays}
use Rattle.least_words.specs.Rows.{row_letters, least_with_index, answered_rows, words_of, indices_of}

-- ---- the output lists

module _ (gs : List Generator) (n : ℕ) (words : List ℕ) (k : ℕ) where
  -- the bytes of the least words, and the indices, row by row
  pub answered-words : encode_all (map (λ i. least gs (row_letters n words i)) (below k)) ≡ words_of (answered_rows gs n words k)
  unfolding answered_rows
  answered-words = ap encode_all (sym (map-map (λ row. row.0) (λ i. least_with_index gs (row_letters n words i)) (below k)))

  pub answered-indices : map (λ i. index_back gs (row_letters n words i)) (below k) ≡ indices_of (answered_rows gs n words k)
  unfolding answered_rows
  answered-indices = sym (map-map (λ row. row.1) (λ i. least_with_index gs (row_letters n words i)) (below k))

-- ---- lists that are known row by row

rows-from : (f : ℕ → Word) (k a : ℕ) (list : List ℕ) → length list ≡ word_length * k → ((i : ℕ) → i < k → row_at list i ≡ bytes_of (f (a + i)))
    → list ≡ encode_all (map f (from a k))
unfolding encode_all from
rows-from f zero a [] long h = refl
rows-from f zero a (x ∷ list) long h = absurd (omega arith)
rows-from f (suc k) a list long h =
    sym (take-append-drop word_length list)
    ∙ ap₂ ◌++◌
    (sym (row_first list) ∙ h 0 (omega arith) ∙ ap (λ (i : ℕ). bytes_of (f i)) (add-zero a))
    (rows-from f k (suc a) (drop word_length list) (omega (arith, length-drop word_length list, mul-suc word_length k))
    (λ i l. let next : a + suc i ≡ suc a + i = omega arith in row-behind list i ∙ h (suc i) (omega arith) ∙ ap (λ (j : ℕ). bytes_of (f j)) next))

module _ (f : ℕ → Word) (k : ℕ) (list : List ℕ) (long : length list ≡ word_length * k) where
  -- the list of words whose bytes the rows are
  pub rows_of : ((i : ℕ) → i < k → row_at list i ≡ bytes_of (f i)) → list ≡ encode_all (map f (below k))
  unfolding below
  rows_of h = rows-from f k 0 list long (λ i l. let same : i ≡ 0 + i = omega arith in h i l ∙ ap (λ (j : ℕ). bytes_of (f j)) same)

-- lists with the least words of k rows, and with their indices
module _ (gs : List Generator) (n : ℕ) (words : List ℕ) (k : ℕ) where
  pub words-by-row : {rows : List ℕ} → length rows ≡ word_length * k → ((i : ℕ) → i < k → row_at rows i ≡ bytes_of (least gs (row_letters n words i)))
      → rows ≡ words_of (answered_rows gs n words k)
  words-by-row {rows} long h = rows_of (λ i. least gs (row_letters n words i)) k rows long h ∙ answered-words gs n words k

  pub indices-by-row : {indices : List ℕ} → length indices ≡ k → ((i : ℕ) → i < k → get_or indices i 0 ≡ index_back gs (row_letters n words i))
      → indices ≡ indices_of (answered_rows gs n words k)
  indices-by-row {indices} long h = map-below-of (λ i. index_back gs (row_letters n words i)) k 0 indices long h ∙ answered-indices gs n words k

-- ---- one word

module _ {n : ℕ} {word : List ℕ} (ok : AcceptedWord n word) where
  pub one-long : length word ≡ word_length * 1
  one-long = omega (arith, ok.long)

  one-full : in_full_by word_length 1 word ≡ word
  one-full = full_stays 1 word one-long

  pub one-row : row_at (in_full_by word_length 1 word) 0 ≡ word
  one-row = ap (λ (l : List ℕ). row_at l 0) one-full ∙ row_first word ∙ take_all word_length word (omega (arith, ok.long))

  pub one-rows : AcceptedRows n (in_full_by word_length 1 word) 1
  one-rows = record {
    few = omega arith;
    long = ap length one-full ∙ one-long;
    word = λ i h. let first : 0 ≡ i = omega arith in subst (AcceptedWord n) (sym one-row ∙ ap (row_at (in_full_by word_length 1 word)) first) ok;
  }

  pub one_word : (gs : List Generator) → words_of (answered_rows gs n (in_full_by word_length 1 word) 1) ≡ bytes_of (least gs (letters_in n word))
  unfolding answered_rows below from encode_all
  one_word gs = append-nil (bytes_of (least gs (row_letters n (in_full_by word_length 1 word) 0))) ∙ ap (λ (l : List ℕ). bytes_of (least gs (letters_in n l))) one-row

  pub one_index : (gs : List Generator) → get_or (indices_of (answered_rows gs n (in_full_by word_length 1 word) 1)) 0 0 ≡ index_back gs (letters_in n word)
  unfolding answered_rows below from
  one_index gs = ap (λ (l : List ℕ). index_back gs (letters_in n l)) one-row

-- ---- room

-- the first k places of room for the labels
pub labels_length : (k : ℕ) → k ≤ max_generators → length (take (k - 0) (replicate {A = ℕ} max_generators 0)) ≡ k
labels_length k few = length-take-le (k - 0) (replicate max_generators 0) (omega (arith, length-replicate {A = ℕ} max_generators 0)) ∙ omega arith
