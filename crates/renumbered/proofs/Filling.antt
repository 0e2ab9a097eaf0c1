-- Axes written one after the other into the lists of strides and rests.
use Prim.Native.Nat.{ℕ, zero, suc, ◌+◌, ◌-◌, ◌*◌, ◌≤◌, ◌<◌}
use mathlib.Core.Path.{◌≡◌}
use mathlib.Core.List.{List}
use native.Mathlib.Nat.{mul-suc}
use native.Mathlib.Omega.{arith}
use borrow.Author.Count.{below_more}
use lib.ListN.{length, get_or, set, take}
use lib.Seq.{get_or-set_same, get_or-set_other}
use Rattle.pauli_word.specs.Limits.{max_sites}
use Rattle.permutation.specs.Limits.{max_generators}
use Rattle.action.specs.Arithmetic.{product}
use Rattle.action.specs.Index.{order_of}
use Rattle.elements.specs.HeldGroup.{generators_in, Tables}
use Rattle.grid.specs.Grid.{Axis, Axes}
use Rattle.grid.proofs.Grids.{place-next, place-within, axes-by}

-- a step along an axis and what is left of its round
pub round_rest : (place order : ℕ) → 0 < order → place + place * (order - 1) ≡ place * order
round_rest place zero h = absurd (omega arith)
round_rest place (suc m) h = let e : suc m - 1 ≡ m = omega arith in rw e (omega (arith, mul-suc place m))

pub round_more : (place order : ℕ) → 0 < order → place ≤ place * order
round_more place order h = omega (arith, round_rest place order h)

-- a round of an axis is no more than the group's order
pub round_within : {k n : ℕ} {targets orders : List ℕ} → Tables k n targets orders → (g : ℕ) → g < k
    → product (take g orders) * get_or orders g 0 ≤ order_of (generators_in k n targets orders)
round_within t g h = rw (← place-next t g h) (place-within t (g + 1) (omega arith))

-- a rotation that shifts along the axis of generator g, inside blocks that are not too large
pub record Shifting (orders : List ℕ) (g stride rest : ℕ) : Type 0 where
  pub axis : Axis (product (take g orders)) (get_or orders g 0) stride rest
  pub some : 0 < rest
  pub small : stride + rest ≤ max_sites + max_sites

-- the first g are written
abbrev pub Filled : List ℕ → List ℕ → List ℕ → ℕ → Type 0
Filled orders strides rests g = (j : ℕ) → j < g → Shifting orders j (get_or strides j 0) (get_or rests j 0)

-- one more
pub filled_next : {orders : List ℕ} (strides rests : List ℕ) (g : ℕ) {s r : ℕ} → g < length strides → g < length rests → Filled orders strides rests g → Shifting orders g s r
    → Filled orders (set strides g s) (set rests g r) (g + 1)
filled_next strides rests g {s} {r} sl rl all one =
    below_more _ g
    (λ j h. rw (get_or-set_other strides g j s 0 (omega arith), get_or-set_other rests g j r 0 (omega arith)) (all j h))
    (rw (get_or-set_same strides g s 0 sl, get_or-set_same rests g r 0 rl) one)

-- all of them are axes
pub filled-axes : {k n : ℕ} {targets orders : List ℕ} → Tables k n targets orders → {strides rests : List ℕ} → length strides ≡ max_generators → length rests ≡ max_generators
    → {g : ℕ} → k ≤ g → Filled orders strides rests g → Axes k orders strides rests
filled-axes t sl rl {g} over all =
    axes-by t sl rl (λ j h. (all j (omega arith)).some) (λ j h. (all j (omega arith)).small) (λ j h. (all j (omega arith)).axis)
