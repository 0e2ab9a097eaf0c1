-- Sites under other numbers: m of n sites, number a standing for one of them, and what generators do to the numbers.
use Rattle.std.specs.Prelude.{ℕ, ◌<◌, ◌≡◌, List, [], ◌∷◌, map, get_or}
use Rattle.pauli_word.specs.Word.{I, Word}
use Rattle.action.specs.Lists.{below}
use Rattle.action.specs.Permutation.{Generator, target}

-- each of m numbers stands for one of n sites, and no two for the same
pub record Numbering (n m : ℕ) (site : ℕ → ℕ) : Type 0 where
  pub inside : (a : ℕ) → a < m → site a < n
  pub apart : (a b : ℕ) → a < m → b < m → site a ≡ site b → a ≡ b

-- the letters of a word at the sites of m numbers
unfoldable pub read_by : ℕ → (ℕ → ℕ) → Word → Word
unfolding below
read_by m site w = map (λ a. get_or w (site a) I) (below m)

-- generators of numbers that do what generators of sites do: of the same orders, each sends a number to that of the site that its site is sent to
abbrev pub Carried : ℕ → (ℕ → ℕ) → List Generator → List Generator → Type 0
Carried m site [] [] = Unit {0}
Carried m site [] (h ∷ hs) = ⊥
Carried m site (g ∷ gs) [] = ⊥
Carried m site (g ∷ gs) (h ∷ hs) =
    (h.order ≡ g.order) × ((a : ℕ) → a < m → site (target h.perm a) ≡ target g.perm (site a)) × Carried m site gs hs
