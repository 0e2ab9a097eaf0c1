-- The words of rows: their order, which is that of their bits, the different words in rising order, and where each row's word stands among them.
use Rattle.std.specs.Prelude.{ℕ, zero, suc, ◌-◌, ◌*◌, ◌<◌, ◌≡◌, Bool, List, [], ◌∷◌, ◌++◌, map, length, get_or, replicate}
use Rattle.pauli_word.specs.Limits.{word_length}
use Rattle.pauli_word.specs.Word.{less_bits}
use Rattle.pauli_word.specs.Bytes.{plane_bits}
use Rattle.action.specs.Lists.{same_numbers}
use Rattle.keyed.specs.Keyed.{Fold, rising, key_of}
use Rattle.row_lists.specs.Rows.{max_rows, row_at, join_rows}

-- the order of rows: at the first bit that differs the lesser has 0
unfoldable pub less_bytes : List ℕ → List ℕ → Bool
unfolding less_bits plane_bits
less_bytes a b = less_bits (plane_bits a) (plane_bits b)

-- a fold whose keys are the bytes of rows
abbrev pub by_bytes : {C S : Type 0} → S → (S → C → S) → Fold (List ℕ) C S
by_bytes start step = record { less = less_bytes; same = same_numbers; start = start; step = step }

-- the words of the first k rows
unfoldable pub word_rows : List ℕ → ℕ → List (List ℕ)
unfolding row_at
word_rows words zero = []
word_rows words (suc k) = word_rows words k ++ (row_at words k ∷ [])

-- the different words of the first k rows, in rising order
unfoldable pub different_words : List ℕ → ℕ → List (List ℕ)
unfolding rising word_rows
different_words words k = rising less_bytes (word_rows words k)

-- member i of the list is the place of row i's word among the different words, for the first k rows
pub record RowPlaces (words : List ℕ) (k : ℕ) (places : List ℕ) : Type 0 where
  pub long : length places ≡ max_rows
  pub inside : (i : ℕ) → i < k → get_or places i 0 < length (different_words words k)
  pub own : (i : ℕ) → i < k → get_or (different_words words k) (get_or places i 0) [] ≡ row_at words i

-- ---- the lists of a table, k rows in all: its rows, and zeros after them

abbrev pub words_filled : {S : Type 0} → ℕ → List (List ℕ × S) → List ℕ
words_filled k table = join_rows (map key_of table) ++ replicate (word_length * k - word_length * length table) 0

-- one part of each row; z is its zero
abbrev pub filled : {R A : Type 0} → A → (R → A) → ℕ → List R → List A
filled z part k table = map part table ++ replicate (k - length table) z
