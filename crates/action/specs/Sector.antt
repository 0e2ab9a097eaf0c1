-- Characters of the group, and which words a list of modes keeps.
use Rattle.std.specs.Prelude.{ℕ, ◌+◌, ◌-◌, ◌*◌, ◌/◌, ◌%◌, ◌<◌, ◌≡◌, Bool, true, ◌||◌, ◌&&◌, not, List, [], ◌∷◌, map, eqb, ℤ, pos, negsuc}
use Rattle.pauli_word.specs.Word.{Word}
use Rattle.action.specs.Arithmetic.{lcm_all}
use Rattle.action.specs.Lists.{below, every, first_of}
use Rattle.action.specs.Permutation.{Generator}
use Rattle.action.specs.Index.{order_of, digits, add}
use Rattle.action.specs.Orbit.{fixes}

-- the phase modulus: the least common multiple of the orders
unfoldable pub modulus : List Generator → ℕ
unfolding lcm_all
modulus gs = lcm_all (map (λ g. g.order) gs)

-- a mode, a signed number, reduced to 0 .. o - 1: -1 becomes o - 1
unfoldable pub reduced : ℕ → ℤ → ℕ
reduced o (pos k) = k % o
reduced o (negsuc k) = o - 1 - k % o

-- the sum of (k c mod o) (m / o) over the generators, for a common multiple m of the orders
unfoldable pub phases : ℕ → List Generator → List ℤ → List ℕ → ℕ
unfolding reduced
phases m [] ks cs = 0
phases m (g ∷ gs) [] cs = 0
phases m (g ∷ gs) (k ∷ ks) [] = 0
phases m (g ∷ gs) (k ∷ ks) (c ∷ cs) = reduced g.order k * (c % g.order) % g.order * (m / g.order) + phases m gs ks cs

-- the numerator of a counter: its character under the modes is numerator / modulus of a turn
unfoldable pub numerator : List Generator → List ℤ → List ℕ → ℕ
unfolding phases modulus
numerator gs ks cs = phases (modulus gs) gs ks cs % modulus gs

-- each mode reduced to 0 .. o - 1
unfoldable pub reduced_modes : List Generator → List ℤ → List ℤ
reduced_modes [] ks = []
reduced_modes (g ∷ gs) [] = []
reduced_modes (g ∷ gs) (k ∷ ks) = pos (reduced g.order k) ∷ reduced_modes gs ks

-- each digit reduced to 0 .. o - 1
unfoldable pub reduced_digits : List Generator → List ℕ → List ℕ
reduced_digits [] cs = []
reduced_digits (g ∷ gs) [] = []
reduced_digits (g ∷ gs) (c ∷ cs) = c % g.order ∷ reduced_digits gs cs

-- a mode for each generator, from 0 to its order less 1
abbrev pub Modes : List Generator → List ℤ → Type 0
Modes [] [] = Unit {0}
Modes [] (k ∷ ks) = ⊥
Modes (g ∷ gs) [] = ⊥
Modes (g ∷ gs) (pos k ∷ ks) = (k < g.order) × Modes gs ks
Modes (g ∷ gs) (negsuc k ∷ ks) = ⊥

-- a character of the group: it maps the indices below the order to numbers below the phase modulus, and sums to sums modulo it
pub record Character (gs : List Generator) (f : ℕ → ℕ) : Type 0 where
  pub inside : (i : ℕ) → i < order_of gs → f i < modulus gs
  pub additive : (i j : ℕ) → i < order_of gs → j < order_of gs → f (add gs i j) ≡ (f i + f j) % modulus gs

-- whether the character of index i is 1
unfoldable pub trivial : List Generator → List ℤ → ℕ → Bool
unfolding numerator digits
trivial gs ks i = eqb (numerator gs ks (digits gs i)) 0

-- whether the modes keep w: every index that fixes it has numerator 0. Else they drop it
unfoldable pub keeps : List Generator → List ℤ → Word → Bool
unfolding every fixes trivial below order_of
keeps gs ks w = every (λ i. not (fixes gs w i) || trivial gs ks i) (below (order_of gs))

-- whether index i breaks w: it fixes it, and its numerator is not 0
unfoldable pub breaks : List Generator → List ℤ → Word → ℕ → Bool
unfolding fixes trivial
breaks gs ks w i = fixes gs w i && not (trivial gs ks i)

-- what drops w: the first index below the order that breaks it; 0, which breaks no word, if the modes keep w
unfoldable pub dropped_by : List Generator → List ℤ → Word → ℕ
unfolding first_of breaks below order_of
dropped_by gs ks w = first_of 0 (breaks gs ks w) (below (order_of gs))

-- index i drops w: it is below the order and fixes w, its numerator is not 0, and no smaller index does both
pub record Drops (gs : List Generator) (ks : List ℤ) (w : Word) (i : ℕ) : Type 0 where
  pub inside : i < order_of gs
  pub fixed : fixes gs w i ≡ true
  pub phased : numerator gs ks (digits gs i) ≡ 0 → ⊥
  pub none_earlier : (j : ℕ) → j < i → fixes gs w j ≡ true → numerator gs ks (digits gs j) ≡ 0
