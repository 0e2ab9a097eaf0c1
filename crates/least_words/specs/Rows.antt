-- What rows of words are answered: of each its least word, and the index that leads back; and the lists that hold these.
use Rattle.std.specs.Prelude.{ℕ, List, map}
use Rattle.pauli_word.specs.Word.{Word}
use Rattle.pauli_word.specs.Bytes.{letters_in}
use Rattle.action.specs.Lists.{below}
use Rattle.action.specs.Permutation.{Generator}
use Rattle.action.specs.Orbit.{least, index_back}
use Rattle.elements.specs.HeldGroup.{encode_all}
use Rattle.row_lists.specs.Rows.{row_at}

-- the letters of row i, of words in full
abbrev pub row_letters : ℕ → List ℕ → ℕ → Word
row_letters n words i = letters_in n (row_at words i)

-- what a word is answered: the least of its orbit, and the index that leads from there back to it
abbrev pub least_with_index : List Generator → Word → Word × ℕ
least_with_index gs w = (least gs w, index_back gs w)

-- what the first k rows are answered, of words in full
unfoldable pub answered_rows : List Generator → ℕ → List ℕ → ℕ → List (Word × ℕ)
answered_rows gs n words k = map (λ i. least_with_index gs (row_letters n words i)) (below k)

-- the output lists beside an answer: the bytes of the words, in full, and the indices
abbrev pub words_of : List (Word × ℕ) → List ℕ
words_of rows = encode_all (map (λ row. row.0) rows)

abbrev pub indices_of : List (Word × ℕ) → List ℕ
indices_of rows = map (λ row. row.1) rows
