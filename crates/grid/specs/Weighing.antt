-- Candidates whose words are compared one after the other.
use Rattle.std.specs.declared.cmp.Ordering.{Ordering}
use Rattle.std.specs.declared.cmp.Ordering.TheVariants.{Less, Equal, Greater}
use Rattle.std.specs.Prelude.{ℕ, ◌<◌, ◌≡◌, ◌↔◌, Bool, true, false, ◌||◌, List}
use Rattle.pauli_word.specs.Word.{Word, less}
use Rattle.action.specs.Permutation.{Generator}
use Rattle.action.specs.Orbit.{reach}
use Rattle.grid.specs.Candidates.{candidate}

-- whether a number is among those found, after one more was compared with the best so far: whether it is that one, and whether it was among them before
abbrev pub found : Ordering → Bool → Bool → Bool
found Less own before = own
found Equal own before = own || before
found Greater own before = before

-- the index that is known to fix the word, after one more candidate was compared with the best so far: that one's difference from it where the two are the
-- same, and the one before otherwise
abbrev pub shifted : Ordering → ℕ → ℕ → ℕ
shifted Less own before = before
shifted Equal own before = own
shifted Greater own before = before

-- of the candidates in S, u is the word of one, no candidate below k gives a lesser word, and those in F are the ones below k that give u
pub record Weighed (gs : List Generator) (w : Word) (S : ℕ → Bool) (k : ℕ) (u : Word) (F : ℕ → Bool) : Type 0 where
  pub given : (b : ℕ) × (S b ≡ true) × (candidate gs w b ≡ u)
  pub none : (j : ℕ) → j < k → S j ≡ true → less (candidate gs w j) u ≡ false
  pub exactly : (j : ℕ) → (F j ≡ true) ↔ ((j < k) × (S j ≡ true) × (candidate gs w j ≡ u))

-- candidate lead gives u, and the word stays where the shift is reached
pub record Knows (gs : List Generator) (w u : Word) (lead shift : ℕ) : Type 0 where
  pub leads : candidate gs w lead ≡ u
  pub fixed : reach gs shift w ≡ w
