-- Lattices, by the generators that shift them along their axes: any list of sides, and the four that have names.
use Rattle.std.specs.Prelude.{ℕ, ◌+◌, ◌*◌, ◌/◌, ◌%◌, List, [], ◌∷◌, map}
use Rattle.action.specs.Lists.{below}
use Rattle.action.specs.Permutation.{Generator}

-- where a shift along one axis sends site q. The axis has `side` places, `stride` sites apart, so that site q is at place
-- (q / stride) mod side; the shift moves it on by one place, round at the end, and leaves its other coordinates
unfoldable pub shifted : ℕ → ℕ → ℕ → ℕ
shifted stride side q = q % stride + stride * ((q / stride % side + 1) % side) + stride * side * (q / (stride * side))

-- the shift along one axis of a lattice of n sites
unfoldable pub shift : ℕ → ℕ → ℕ → Generator
unfolding shifted below
shift n stride side = record { perm = map (shifted stride side) (below n); order = side }

-- the shifts along the axes with these sides, from the fastest coordinate on: a place of the first axis is `stride` sites from the next, and a
-- place of each further axis a whole round of the axis before it
unfoldable pub shifts : ℕ → ℕ → List ℕ → List Generator
unfolding shift
shifts n stride [] = []
shifts n stride (side ∷ sides) = shift n stride side ∷ shifts n (stride * side) sides

-- a ring of n sites: generator 0 moves site j to j + 1, the last one to 0
unfoldable pub chain : ℕ → List Generator
unfolding shifts
chain n = shifts n 1 (n ∷ [])

-- legs of l sites each, site j of a leg at leg * l + j: generator 0 moves every leg along its length, j to j + 1, and no leg to another
unfoldable pub ladder : ℕ → ℕ → List Generator
unfolding shifts
ladder l legs = shifts (l * legs) 1 (l ∷ [])

-- lx by ly sites, (i, j) at j * lx + i: generator 0 moves i to i + 1, generator 1 moves j to j + 1
unfoldable pub torus2 : ℕ → ℕ → List Generator
unfolding shifts
torus2 lx ly = shifts (lx * ly) 1 (lx ∷ ly ∷ [])

-- lx by ly by lz sites, (i, j, k) at k * lx * ly + j * lx + i: generator 0 moves i to i + 1, generator 1 moves j and generator 2 moves k
unfoldable pub torus3 : ℕ → ℕ → ℕ → List Generator
unfolding shifts
torus3 lx ly lz = shifts (lx * ly * lz) 1 (lx ∷ ly ∷ lz ∷ [])
