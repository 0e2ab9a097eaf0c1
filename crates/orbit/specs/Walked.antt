-- A walk over several steps: where it stands, and the words that it gives. And what is promised of a least word and of a walk value.
use Rattle.std.specs.Prelude.{ℕ, zero, suc, ◌<◌, ◌≡◌, true, false, List, [], ◌∷◌, ◌++◌}
use Rattle.outcome.specs.Outcome.{Outcome, answer, or_else}
use Rattle.pauli_word.specs.Word.{Word, less}
use Rattle.pauli_word.specs.Bytes.{EitherWord}
use Rattle.action.specs.Permutation.{Generator}
use Rattle.action.specs.Index.{order_of, inverse}
use Rattle.action.specs.Orbit.{reach, orbit, is_in}
use Rattle.orbit.specs.declared.Walk.{Walk}
use Rattle.orbit.specs.Calls.{begin_outcome, Entry, entry, finished, entry_word, after_entry, next_outcome}

-- the walk after a step: a call that is refused leaves it as it is
abbrev pub step_on : Walk → Walk
step_on v = or_else (after_entry v) v (next_outcome v)

-- the walk after k steps
unfoldable pub walked : ℕ → Walk → Walk
walked zero v = v
walked (suc k) v = step_on (walked k v)

-- the word that an entry gives; the end gives none
abbrev pub word_given : Walk → Entry → List (List ℕ)
word_given v (entry i) = entry_word v (entry i) ∷ []
word_given v finished = []

-- the words that k steps give
unfoldable pub words_given : ℕ → Walk → List (List ℕ)
words_given zero v = []
words_given (suc k) v = words_given k v ++ or_else (word_given (walked k v)) [] (next_outcome (walked k v))

-- a walk that steps lead to from an accepted beginning
pub record Reached (v : Walk) : Type 0 where
  pub bytes : List ℕ
  pub accepted : EitherWord v.group.sites bytes
  pub start : Walk
  pub begun : begin_outcome v.group v.group.sites bytes ≡ answer start
  pub steps : ℕ
  pub reached : walked steps start ≡ v

-- an answer by a word of the orbit than which none is less, and by the inverse of the first index that reaches it, which leads back
pub record CanonicalAnswer (gs : List Generator) (w : Word) (outcome : Outcome (Word × ℕ)) : Type 0 where
  pub word : Word
  pub index : ℕ
  pub first : ℕ
  pub answered : outcome ≡ answer (word, index)
  pub in_orbit : is_in word (orbit gs w) ≡ true
  pub none_less : (u : Word) → is_in u (orbit gs w) ≡ true → less u word ≡ false
  pub inverted : index ≡ inverse gs first
  pub below : first < order_of gs
  pub reaches : reach gs first w ≡ word
  pub none_earlier : (j : ℕ) → j < first → reach gs j w ≡ word → ⊥
  pub leads_back : reach gs index word ≡ w
