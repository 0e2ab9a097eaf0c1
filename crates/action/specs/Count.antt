-- What demand 3 counts: the mode lists that keep a word, and the pairs of a mode list and a representative that it keeps.
use Rattle.std.specs.Prelude.{ℕ, Bool, List, [], ◌∷◌, map, ℤ, pos, replicate}
use Rattle.pauli_word.specs.Word.{I, X, Y, Z, Word}
use Rattle.action.specs.Lists.{below, choices, count, select, total}
use Rattle.action.specs.Permutation.{Generator}
use Rattle.action.specs.Orbit.{is_representative}

-- all words of n letters
unfoldable pub all_words : ℕ → List Word
unfolding choices
all_words n = choices (replicate n (I ∷ X ∷ Y ∷ Z ∷ []))

-- all mode lists: for each generator a mode from 0 to its order less 1
unfoldable pub all_modes : List Generator → List (List ℤ)
unfolding choices below
all_modes gs = choices (map (λ g. map pos (below g.order)) gs)

-- the representatives among the words of n letters
unfoldable pub representatives : List Generator → ℕ → List Word
unfolding select is_representative all_words
representatives gs n = select (is_representative gs) (all_words n)

-- how many mode lists keep a word, by a test that says which do
unfoldable pub kept_lists : (List ℤ → Word → Bool) → List Generator → Word → ℕ
unfolding count all_modes
kept_lists kept gs w = count (λ ks. kept ks w) (all_modes gs)

-- how many pairs there are of a mode list and a representative of n letters that it keeps, by such a test
unfoldable pub kept_pairs : (List ℤ → Word → Bool) → List Generator → ℕ → ℕ
unfolding total kept_lists representatives
kept_pairs kept gs n = total (kept_lists kept gs) (representatives gs n)
