-- A group in two parts: its generators are those of two lists, put together in any order, and no site is moved by a generator of each.
use Rattle.std.specs.Prelude.{ℕ, ◌+◌, ◌*◌, ◌/◌, ◌%◌, ◌<◌, ◌≡◌, ◌⊎◌, Bool, true, false, ◌||◌, not, cond, List, [], ◌∷◌, map, eqb, get_or}
use Rattle.pauli_word.specs.Word.{I, Word}
use Rattle.action.specs.Lists.{below, Member}
use Rattle.action.specs.Permutation.{Generator, target}

-- the generators of two lists, put together so that each list keeps its order
pub data Interleaved : List Generator → List Generator → List Generator → Type 0 where
  none : Interleaved [] [] []
  first : {g : Generator} {gs fs hs : List Generator} → Interleaved gs fs hs → Interleaved (g ∷ gs) (g ∷ fs) hs
  second : {g : Generator} {gs fs hs : List Generator} → Interleaved gs fs hs → Interleaved (g ∷ gs) fs (g ∷ hs)

-- the index of the whole that has the digits of index i of the first part and of index j of the second
unfoldable pub joined : {gs fs hs : List Generator} → Interleaved gs fs hs → ℕ → ℕ → ℕ
joined none i j = 0
joined (first {g = g} s) i j = i % g.order + g.order * joined s (i / g.order) j
joined (second {g = g} s) i j = j % g.order + g.order * joined s i (j / g.order)

-- what belongs to the first part of a list with an entry for each generator, and what to the second
unfoldable pub of_first : {A : Type 0} {gs fs hs : List Generator} → Interleaved gs fs hs → List A → List A
of_first none xs = []
of_first (first s) [] = []
of_first (first s) (x ∷ xs) = x ∷ of_first s xs
of_first (second s) [] = []
of_first (second s) (x ∷ xs) = of_first s xs

unfoldable pub of_second : {A : Type 0} {gs fs hs : List Generator} → Interleaved gs fs hs → List A → List A
of_second none xs = []
of_second (first s) [] = []
of_second (first s) (x ∷ xs) = of_second s xs
of_second (second s) [] = []
of_second (second s) (x ∷ xs) = x ∷ of_second s xs

-- no site is moved by a generator of each
abbrev pub Independent : ℕ → List Generator → List Generator → Type 0
Independent n fs hs = (f h : Generator) → Member f fs → Member h hs → (q : ℕ) → q < n → (target f.perm q ≡ q) ⊎ (target h.perm q ≡ q)

-- whether some generator moves site q
unfoldable pub moved : List Generator → ℕ → Bool
moved [] q = false
moved (g ∷ gs) q = not (eqb (target g.perm q) q) || moved gs q

-- the letters of v at the sites that pass a test, and those of u at the others
unfoldable pub mixed : ℕ → (ℕ → Bool) → Word → Word → Word
unfolding below
mixed n p u v = map (λ q. cond (p q) (get_or v q I) (get_or u q I)) (below n)
