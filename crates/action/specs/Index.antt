-- Indices of group elements: i stands for the digits c0, c1, .. with i = c0 + o0 c1 + o0 o1 c2 + .., digit g below order o_g, so that
-- generator 0 is the fastest.
use Rattle.std.specs.Prelude.{ℕ, ◌+◌, ◌-◌, ◌*◌, ◌/◌, ◌%◌, ◌<◌, Bool, true, ◌&&◌, List, [], ◌∷◌, ltb}
use Rattle.action.specs.Permutation.{Generator}

-- the order of the group: the product of the orders, so that two equal generators count as two
unfoldable pub order_of : List Generator → ℕ
order_of [] = 1
order_of (g ∷ gs) = g.order * order_of gs

-- the digits of an index
unfoldable pub digits : List Generator → ℕ → List ℕ
digits [] i = []
digits (g ∷ gs) i = i % g.order ∷ digits gs (i / g.order)

-- a digit for each generator, below its order
abbrev pub Digits : List Generator → List ℕ → Type 0
Digits [] [] = Unit {0}
Digits [] (c ∷ cs) = ⊥
Digits (g ∷ gs) [] = ⊥
Digits (g ∷ gs) (c ∷ cs) = (c < g.order) × Digits gs cs

-- whether each digit is below its generator's order
unfoldable pub digits_below : List Generator → List ℕ → Bool
digits_below [] cs = true
digits_below (g ∷ gs) [] = true
digits_below (g ∷ gs) (c ∷ cs) = ltb c g.order && digits_below gs cs

-- the index of digits
unfoldable pub index : List Generator → List ℕ → ℕ
index [] cs = 0
index (g ∷ gs) [] = 0
index (g ∷ gs) (c ∷ cs) = c + g.order * index gs cs

-- digit by digit (c + d) mod o
unfoldable pub add_digits : List Generator → List ℕ → List ℕ → List ℕ
add_digits [] cs ds = []
add_digits (g ∷ gs) [] ds = []
add_digits (g ∷ gs) (c ∷ cs) [] = []
add_digits (g ∷ gs) (c ∷ cs) (d ∷ ds) = (c + d) % g.order ∷ add_digits gs cs ds

-- the sum of two indices
unfoldable pub add : List Generator → ℕ → ℕ → ℕ
unfolding digits index add_digits
add gs i j = index gs (add_digits gs (digits gs i) (digits gs j))

-- digit by digit (o - c) mod o
unfoldable pub inverse_digits : List Generator → List ℕ → List ℕ
inverse_digits [] cs = []
inverse_digits (g ∷ gs) [] = []
inverse_digits (g ∷ gs) (c ∷ cs) = (g.order - c) % g.order ∷ inverse_digits gs cs

-- the inverse of an index
unfoldable pub inverse : List Generator → ℕ → ℕ
unfolding digits index inverse_digits
inverse gs i = index gs (inverse_digits gs (digits gs i))
