-- Candidates for the least word of an orbit: index k, which leads from the word that it gives back to the word.
use Rattle.std.specs.Prelude.{ℕ, ◌-◌, ◌<◌, ◌≤◌, ◌≡◌, Bool, true, false, cond, List, ltb}
use Rattle.pauli_word.specs.Word.{Word, less}
use Rattle.action.specs.Permutation.{Generator}
use Rattle.action.specs.Index.{order_of, inverse}
use Rattle.action.specs.Orbit.{reach}
use Rattle.packed.specs.Packed.{LessAt}
use Rattle.grid.specs.Grid.{further}

-- the word that candidate k gives: k leads from it to w
abbrev pub candidate : List Generator → Word → ℕ → Word
candidate gs w k = reach gs (inverse gs k) w

-- bit t of the word that candidate k gives, in the order of words: the X bits of n sites and then their Z bits
abbrev pub candidate_bit : List Generator → ℕ → (ℕ → Bool) → (ℕ → Bool) → ℕ → ℕ → Bool
candidate_bit gs n x z k t = cond (ltb t n) (x (further gs k t)) (z (further gs k (t - n)))

-- of o candidates with bits F, those whose first t bits are the least of all are those in S
pub record Left (o : ℕ) (F : ℕ → ℕ → Bool) (t : ℕ) (S : ℕ → Bool) : Type 0 where
  pub inside : (k : ℕ) → S k ≡ true → k < o
  pub some : (k : ℕ) × (S k ≡ true)
  pub ties : (j k : ℕ) → S j ≡ true → S k ≡ true → (p : ℕ) → p < t → F j p ≡ F k p
  pub rest : (j k : ℕ) → S j ≡ true → k < o → S k ≡ false → LessAt t (F j) (F k)

-- every candidate that is not in S gives a greater word than those in S
pub record Among (gs : List Generator) (w : Word) (S : ℕ → Bool) : Type 0 where
  pub inside : (k : ℕ) → S k ≡ true → k < order_of gs
  pub some : (k : ℕ) × (S k ≡ true)
  pub rest : (j k : ℕ) → S j ≡ true → k < order_of gs → S k ≡ false → less (candidate gs w j) (candidate gs w k) ≡ true

-- the candidates in S give the least word, and no others do
pub record Leading (gs : List Generator) (w : Word) (S : ℕ → Bool) : Type 0 where
  pub among : Among gs w S
  pub ties : (j k : ℕ) → S j ≡ true → S k ≡ true → candidate gs w j ≡ candidate gs w k
