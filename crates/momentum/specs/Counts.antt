-- What demand 3 counts, at what a caller hands over: mode lists, and accepted words as their bytes.
use Rattle.std.specs.Prelude.{ℕ, Bool, true, false, List, [], ◌∷◌, ◌++◌, map}
use Rattle.outcome.specs.Outcome.{Outcome, refused, answer}
use Rattle.pauli_word.specs.Word.{Word}
use Rattle.action.specs.Count.{all_words}
use Rattle.orbit.specs.Calls.{word_of}
use Rattle.decisions.specs.Decisions.{Decision, kept, dropped, Row}
use Rattle.pauli_word.specs.Bytes.{bytes_of}
use Rattle.action.specs.Lists.{same_numbers}

-- the accepted words of n sites, as their bytes
unfoldable pub accepted_words : ℕ → List (List ℕ)
unfolding all_words
accepted_words n = map bytes_of (all_words n)

-- whether a call of canonicalize_with_index answers with the word that it was handed
abbrev pub is_own : List ℕ → Outcome (Word × ℕ) → Bool
is_own bytes (refused k vs) = false
is_own bytes (answer p) = same_numbers (word_of p) bytes

-- whether a call of canonicalize_in_sector answers that the word is kept
abbrev pub is_kept : Outcome (Decision Row) → Bool
is_kept (refused k vs) = false
is_kept (answer (kept r)) = true
is_kept (answer (dropped i)) = false

-- each member of a list with each member of another
unfoldable pub pairs : {A B : Type 0} → List A → List B → List (A × B)
pairs [] ys = []
pairs (x ∷ xs) ys = map (λ y. (x, y)) ys ++ pairs xs ys
