-- Words one after the other in a list of bytes: row i is the bytes of word i, in full; the words that a sum is handed may all be of the old form.
-- Rows written over, exchanged, put into another order, and with contents from another list.
use Rattle.std.specs.Prelude.{ℕ, zero, suc, ◌+◌, ◌-◌, ◌*◌, cond, List, [], ◌∷◌, ◌++◌, map, eqb, length, take, drop, replicate}
use Rattle.pauli_word.specs.Limits.{word_length, old_length}
use Rattle.pauli_word.specs.Bytes.{in_full}

-- the most rows of a sum
abbrev pub max_rows : ℕ
max_rows = 4096

-- ---- the rows that a sum is handed

-- the bytes of row i, of rows of `size` bytes
unfoldable pub row_by : ℕ → List ℕ → ℕ → List ℕ
row_by size words i = take size (drop (size * i) words)

-- the bytes of such a row, by the length of the words and how many rows there are: a word in full, or one of the old form; no rows count as in full
unfoldable pub row_size : ℕ → ℕ → ℕ
row_size words rows = cond (eqb words (word_length * rows)) word_length old_length

-- k rows of `size` bytes, the word of each in full
unfoldable pub in_full_by : ℕ → ℕ → List ℕ → List ℕ
in_full_by size zero words = []
in_full_by size (suc k) words = in_full (take size words) ++ in_full_by size k (drop size words)

-- the words of the k rows of a sum, in full
abbrev pub rows_in_full : ℕ → List ℕ → List ℕ
rows_in_full k words = in_full_by (row_size (length words) k) k words

-- ---- words in full

-- the bytes where there is no word
abbrev pub no_word : List ℕ
no_word = replicate word_length 0

-- the bytes of row i
unfoldable pub row_at : List ℕ → ℕ → List ℕ
row_at words i = take word_length (drop (word_length * i) words)

-- the list with row i written over
unfoldable pub with_row : List ℕ → ℕ → List ℕ → List ℕ
with_row words i bytes = take (word_length * i) words ++ (bytes ++ drop (word_length * i + word_length) words)

-- the list with rows a and b exchanged
unfoldable pub rows_swapped : List ℕ → ℕ → ℕ → List ℕ
unfolding with_row row_at
rows_swapped words a b = with_row (with_row words a (row_at words b)) b (row_at words a)

-- rows one after the other
unfoldable pub join_rows : List (List ℕ) → List ℕ
join_rows [] = []
join_rows (r ∷ rs) = r ++ join_rows rs

-- the rows at these positions, in this order, and zeros after them
unfoldable pub arranged_words : List ℕ → List ℕ → List ℕ
unfolding join_rows row_at
arranged_words words ps = join_rows (map (row_at words) ps) ++ replicate (length words - word_length * length ps) 0

-- the rows of a list of words and a list of contents: each content with the bytes of its word
unfoldable pub rows_in : {C : Type 0} → List ℕ → List C → List (List ℕ × C)
rows_in words [] = []
rows_in words (c ∷ cs) = (take word_length words, c) ∷ rows_in (drop word_length words) cs
