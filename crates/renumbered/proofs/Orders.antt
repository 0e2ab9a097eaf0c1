-- What the orders of generators alone decide: the order of the group, sums and inverses of indices, and which number is further on. The shifts of a grid with
-- the same orders have all these in common with the generators.
use Prim.Native.Nat.{ℕ, ◌+◌, ◌-◌, ◌*◌, ◌/◌, ◌%◌, ◌<◌}
use mathlib.Core.Path.{◌≡◌, refl, sym, ap, ◌∙◌}
use mathlib.Core.Logic.{inl, inr}
use mathlib.Core.List.{List, [], ◌∷◌, map}
use native.Mathlib.Nat.{div-add-mod, one-mul}
use native.Mathlib.Omega.{arith}
use lib.ListN.{length}
use Rattle.action.specs.Arithmetic.{product}
use Rattle.action.specs.Lists.{Member}
use Rattle.action.specs.Permutation.{Generator, Valid}
use Rattle.action.specs.Index.{order_of, digits, index, add_digits, add, inverse_digits, inverse}
use Rattle.action.specs.Lattice.{shifted, shift, shifts}
use Rattle.action.proofs.Below.{map-below-length}
use Rattle.action.proofs.Lattice.{shifts_order, shifts_valid}
use Rattle.grid.specs.Grid.{Grid, further}
use Rattle.renumbered.specs.Renumbered.{grid_of}

-- the orders of generators
abbrev pub orders_of : List Generator → List ℕ
orders_of gs = map (λ g. g.order) gs

module _ (n : ℕ) where
  -- shifts have their sides as orders
  pub shifts_orders : (s : ℕ) (sides : List ℕ) → orders_of (shifts n s sides) ≡ sides
  unfolding shifts shift
  shifts_orders s [] = refl
  shifts_orders s (a ∷ sides) = ap (λ (l : List ℕ). a ∷ l) (shifts_orders (s * a) sides)

  shifts-add : (s : ℕ) (gs : List Generator) (i j : ℕ) → add (shifts n s (orders_of gs)) i j ≡ add gs i j
  unfolding shifts shift add digits index add_digits
  shifts-add s [] i j = refl
  shifts-add s (g ∷ gs) i j =
      ap (λ (r : ℕ). (i % g.order + j % g.order) % g.order + g.order * r) (shifts-add (s * g.order) gs (i / g.order) (j / g.order))

  shifts-inverse : (s : ℕ) (gs : List Generator) (i : ℕ) → inverse (shifts n s (orders_of gs)) i ≡ inverse gs i
  unfolding shifts shift inverse digits index inverse_digits
  shifts-inverse s [] i = refl
  shifts-inverse s (g ∷ gs) i =
      ap (λ (r : ℕ). (g.order - i % g.order) % g.order + g.order * r) (shifts-inverse (s * g.order) gs (i / g.order))

  shifts-whole : (s : ℕ) (gs : List Generator) → order_of (shifts n s (orders_of gs)) ≡ order_of gs
  unfolding shifts shift order_of
  shifts-whole s [] = refl
  shifts-whole s (g ∷ gs) = ap (λ (r : ℕ). g.order * r) (shifts-whole (s * g.order) gs)

  -- each shift has a target for each site
  pub shifts-long : (s : ℕ) (sides : List ℕ) (h : Generator) → Member h (shifts n s sides) → length h.perm ≡ n
  unfolding shifts shift
  shifts-long s [] h m = absurd m
  shifts-long s (a ∷ sides) h (inl e) = rw e (map-below-length (shifted s a) n)
  shifts-long s (a ∷ sides) h (inr m) = shifts-long (s * a) sides h m

  module _ (gs : List Generator) where
    -- the grid with the same orders
    pub grid-order : order_of (grid_of n gs) ≡ order_of gs
    grid-order = shifts-whole 1 gs

    pub grid-add : (i j : ℕ) → add (grid_of n gs) i j ≡ add gs i j
    grid-add = shifts-add 1 gs

    pub grid-inverse : (i : ℕ) → inverse (grid_of n gs) i ≡ inverse gs i
    grid-inverse = shifts-inverse 1 gs

    pub grid-further : (k q : ℕ) → further (grid_of n gs) k q ≡ further gs k q
    unfolding further
    grid-further k q = rw grid-order (ap (λ (r : ℕ). order_of gs * (q / order_of gs) + r) (grid-add (q % order_of gs) k))

    -- it is a grid where its blocks make up the sites
    pub grid-grid : n % order_of gs ≡ 0 → Grid n (grid_of n gs)
    grid-grid whole = record { shifts = ap (shifts n 1) (sym (shifts_orders 1 (orders_of gs))); whole = rw grid-order whole }

    -- and valid, where there is a site
    pub grid-some : 0 < n → n % order_of gs ≡ 0 → Valid n (grid_of n gs)
    grid-some some whole =
        let o : product (orders_of gs) ≡ order_of gs = sym (shifts_order n 1 (orders_of gs)) ∙ grid-order in
        let e : 1 * product (orders_of gs) * (n / order_of gs) ≡ n =
        ap (λ (p : ℕ). 1 * p * (n / order_of gs)) o ∙ ap (λ (p : ℕ). p * (n / order_of gs)) (one-mul (order_of gs)) ∙ omega (arith, div-add-mod n (order_of gs)) in
        shifts_valid some 1 (orders_of gs) (n / order_of gs) e
