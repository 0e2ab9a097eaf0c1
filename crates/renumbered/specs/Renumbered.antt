-- Which groups act freely, and tables of other numbers under which a group is a grid.
use Rattle.std.specs.Prelude.{ℕ, ◌/◌, ◌%◌, ◌<◌, ◌≡◌, List, [], ◌∷◌, map, length, get_or}
use Rattle.pauli_word.specs.Limits.{max_sites}
use Rattle.action.specs.Permutation.{Generator, after}
use Rattle.action.specs.Index.{order_of}
use Rattle.action.specs.Lattice.{shifts}
use Rattle.parts.specs.Numbered.{Carried}

-- what number a stands for in a table
abbrev pub at : List ℕ → ℕ → ℕ
at table a = get_or table a 0

-- the generators of a grid of n sites that shift along axes with the same orders
abbrev pub grid_of : ℕ → List Generator → List Generator
grid_of n gs = shifts n 1 (map (λ g. g.order) gs)

-- two tables, the sites of the numbers and the numbers of the sites: each undoes the other, the sites are blocks of as many as the group has indices, and
-- the generators do to the numbers what those of a grid do, which shift along axes with the same orders
pub record Renumbered (n : ℕ) (gs : List Generator) (site place : List ℕ) : Type 0 where
  pub site_long : length site ≡ max_sites
  pub place_long : length place ≡ max_sites
  pub whole : n % order_of gs ≡ 0
  pub site_inside : (a : ℕ) → a < n → at site a < n
  pub place_inside : (q : ℕ) → q < n → at place q < n
  pub placed : (a : ℕ) → a < n → at place (at site a) ≡ a
  pub sited : (q : ℕ) → q < n → at site (at place q) ≡ q
  pub carried : Carried n (at site) gs (grid_of n gs)

-- where index i sends site q: each generator as often as its digit says
unfoldable pub sent : List Generator → ℕ → ℕ → ℕ
unfolding after
sent [] i q = q
sent (g ∷ gs) i q = sent gs (i / g.order) (after g.perm (i % g.order) q)

-- a group that acts freely: no two of its indices send a site to the same site
abbrev pub Free : ℕ → List Generator → Type 0
Free n gs = (i j q : ℕ) → i < order_of gs → j < order_of gs → q < n → sent gs i q ≡ sent gs j q → i ≡ j
