-- What is promised of the square of a permutation: examples, computed.
use mathlib.Core.Path.{◌≡◌, refl}
use mathlib.Core.List.{[], ◌∷◌}
use Rattle.at_index.specs.Powers.{squared}

-- two sites on, round a ring of four
ring-squared : squared (1 ∷ 2 ∷ 3 ∷ 0 ∷ []) ≡ 2 ∷ 3 ∷ 0 ∷ 1 ∷ []
unfolding squared
ring-squared = refl

-- a ring of three turns the other way, two sites that change places are back, and a site that stays stays
cycles_squared : squared (1 ∷ 2 ∷ 0 ∷ 4 ∷ 3 ∷ 5 ∷ []) ≡ 2 ∷ 0 ∷ 1 ∷ 3 ∷ 4 ∷ 5 ∷ []
unfolding squared
cycles_squared = refl

-- of no sites, none
none_squared : squared [] ≡ []
unfolding squared
none_squared = refl
