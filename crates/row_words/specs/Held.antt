-- What the lists hold while the words of rows are merged: the first positions are the rows that have a word first, in rising order of their words,
-- and each row's home is the one of them that has its word.
use Rattle.std.specs.Prelude.{ℕ, ◌+◌, ◌*◌, ◌/◌, ◌≤◌, ◌<◌, ◌≡◌, List, map, length, get_or, take, Result, Ok, Err}
use Rattle.pauli_word.specs.Limits.{word_length}
use Rattle.pauli_word.specs.Bytes.{Bytes}
use Rattle.action.specs.Lists.{Member}
use Rattle.keyed.specs.Keyed.{Rising, Slot, found, free}
use Rattle.row_lists.specs.Rows.{max_rows, row_at}
use Rattle.row_words.specs.Words.{less_bytes, different_words}

-- the first i rows are merged
pub record Held (words : List ℕ) (i used : ℕ) (positions homes : List ℕ) : Type 0 where
  pub few : length words / word_length ≤ max_rows
  pub small : Bytes words
  pub places : length positions ≡ max_rows
  pub home_places : length homes ≡ max_rows
  pub merged : word_length * i ≤ length words
  pub different : used ≤ i
  pub earlier : (k : ℕ) → k < used → get_or positions k 0 < i
  pub keys : map (row_at words) (take used positions) ≡ different_words words i
  pub homed : (r : ℕ) → r < i → Member (get_or homes r 0) (take used positions)
  pub own : (r : ℕ) → r < i → row_at words (get_or homes r 0) ≡ row_at words r

-- what a search in the first `used` positions is owed: their rows and row i are in the list, and their words are in rising order
pub record Places (words positions : List ℕ) (used i : ℕ) : Type 0 where
  pub enough : used ≤ length positions
  pub few : length positions ≡ max_rows
  pub small : Bytes words
  pub inside : word_length * i + word_length ≤ length words
  pub all : (k : ℕ) → k < used → word_length * get_or positions k 0 + word_length ≤ length words
  pub rising : Rising less_bytes (map (row_at words) (take used positions))

-- the slot that an answer names
abbrev pub slot_found : Result ℕ ℕ → Slot
slot_found (Ok k) = found k
slot_found (Err k) = free k
