-- What is known of the candidates that are left when refining stops.
use Rattle.std.specs.Prelude.{ℕ, ◌≤◌, ◌≡◌, Bool, true, false, List, eqb}
use Rattle.pauli_word.specs.Word.{Word}
use Rattle.action.specs.Permutation.{Generator}
use Rattle.grid.specs.declared.candidates.Round.{Round}
use Rattle.grid.specs.declared.candidates.Round.TheVariants as Round
use Rattle.grid.specs.declared.refine.Stage.{Stage}
use Rattle.grid.specs.declared.refine.Stage.TheVariants.{Alone, Through, Tired}
use Rattle.grid.specs.Candidates.{Left, Among, Leading}

-- how many rounds in a row may strike out no candidate
abbrev pub patience : ℕ
patience = 16

-- whether refining stopped before its end
abbrev pub is_tired : Stage → Bool
is_tired (Alone k) = false
is_tired Through = false
is_tired Tired = true

-- of a round: the one that is left
abbrev pub AloneIn : Round → (ℕ → Bool) → Type 0
AloneIn (Round.Alone k) S = (j : ℕ) → S j ≡ eqb j k
AloneIn Round.Struck S = Unit {0}
AloneIn Round.Stale S = Unit {0}

-- by bits, where up to bit t is refined: one is left, all these bits are read, or some of them are
abbrev pub Refined : Stage → ℕ → (ℕ → ℕ → Bool) → ℕ → (ℕ → Bool) → Type 0
Refined (Alone k) o F t S = Left o F t S × ((j : ℕ) → S j ≡ eqb j k)
Refined Through o F t S = Left o F t S
Refined Tired o F t S = (u : ℕ) × (u ≤ t) × Left o F u S

-- by words, where all bits were to be read
abbrev pub Staged : Stage → List Generator → Word → (ℕ → Bool) → Type 0
Staged (Alone k) gs w S = Leading gs w S × ((j : ℕ) → S j ≡ eqb j k)
Staged Through gs w S = Leading gs w S
Staged Tired gs w S = Among gs w S
