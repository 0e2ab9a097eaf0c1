-- The support of a word, which its weight counts.
use Rattle.std.specs.Prelude.{ℕ, not, List, length, get_or}
use Rattle.pauli_word.specs.Word.{I, Word, same_letter}
use Rattle.action.specs.Lists.{below, select}

-- the sites whose letter is other than I
unfoldable pub support : Word → List ℕ
unfolding below select
support w = select (λ q. not (same_letter (get_or w q I) I)) (below (length w))
