-- Products of orders: what the product of the first orders comes to as one more is taken in, and whether it fits 64 bits.
-- What carries it: no order is 0, so the product of the first orders is at most the product of all.
use Prim.Native.Nat.{ℕ, zero, suc, ◌*◌, ◌/◌, ◌≤◌, ◌<◌}
use mathlib.Core.Path.{◌≡◌, ap}
use mathlib.Core.List.{List, [], ◌∷◌}
use native.Mathlib.Nat.{mul_assoc, mul-le-mul_left, mul-pos, zero-lt-suc, not-suc-le-zero, le_of_suc-le-suc, le_of_lt, le_refl, mul-le-mul_right, div-lt_iff_lt-mul}
use native.Mathlib.Omega.{arith}
use lib.ListN.{length, get_or, take}
use lib.Seq.{take-nil, take-length}
use borrow.Author.Tests.{lt-ltb, le-ltb}
use Rattle.outcome.specs.declared.Refusal.TheVariants as Refusal
use Rattle.outcome.specs.Outcome.{answer, refusal_of}
use Rattle.permutation.specs.Limits.{max_wide}
use Rattle.action.specs.Arithmetic.{product}
use Rattle.permutation.specs.Parts.{product_outcome}

-- the product of the first orders, and one more
pub product-next : (orders : List ℕ) (g : ℕ) → g < length orders → product (take (suc g) orders) ≡ product (take g orders) * get_or orders g 0
unfolding product
product-next [] g h = absurd (not-suc-le-zero h)
product-next (o ∷ orders) zero h = omega arith
product-next (o ∷ orders) (suc g) h = rw (mul_assoc, product-next orders g (le_of_suc-le-suc h))

product-positive : (orders : List ℕ) (k : ℕ) → k ≤ length orders → ((g : ℕ) → g < k → 0 < get_or orders g 0) → 0 < product (take k orders)
unfolding product
product-positive [] k l h = rw take-nil (zero-lt-suc 0)
product-positive (o ∷ orders) zero l h = zero-lt-suc 0
product-positive (o ∷ orders) (suc k) l h = mul-pos (h 0 (zero-lt-suc k)) (product-positive orders k (le_of_suc-le-suc l) (λ g m. h (suc g) (omega arith)))

-- the first orders have a product that is at most that of more of them
product_grows :
    (orders : List ℕ) (g k : ℕ) → g ≤ k → k ≤ length orders → ((j : ℕ) → j < k → 0 < get_or orders j 0)
    → product (take g orders) ≤ product (take k orders)
unfolding product
product_grows orders zero k m l h = product-positive orders k l h
product_grows [] (suc g) k m l h = absurd (omega arith)
product_grows (o ∷ orders) (suc g) zero m l h = absurd (not-suc-le-zero m)
product_grows (o ∷ orders) (suc g) (suc k) m l h =
    mul-le-mul_left o (product_grows orders g k (le_of_suc-le-suc m) (le_of_suc-le-suc l) (λ j n. h (suc j) (omega arith)))

-- the product of the first orders is beyond what the next order may be multiplied with
pub product-overflow :
    (orders : List ℕ) (k : ℕ) → k ≤ length orders → ((g : ℕ) → g < k → 0 < get_or orders g 0)
    → (g : ℕ) → g < k → max_wide / get_or orders g 0 < product (take g orders) → product_outcome (take k orders) ≡ refusal_of Refusal.GroupOrderOverflow
unfolding product_outcome
product-overflow orders k long positive g h over =
    let beyond = (div-lt_iff_lt-mul (positive g h)).0 over in
    let next = product-next orders g (omega arith) in
    simp (lt-ltb max_wide (product (take k orders)) (omega (arith, product_grows orders (suc g) k h long positive)))

pub product_fits : (orders : List ℕ) → product orders ≤ max_wide → product_outcome orders ≡ answer (product orders)
unfolding product_outcome
product_fits orders h = simp (le-ltb max_wide (product orders) h)

-- an order is at most the product
pub product-holds :
    (orders : List ℕ) → ((g : ℕ) → g < length orders → 0 < get_or orders g 0) → (g : ℕ) → g < length orders → get_or orders g 0 ≤ product orders
product-holds orders positive g h =
    let o : ℕ = get_or orders g 0 in
    omega (
      arith,
      mul-le-mul_right o (product-positive orders g (le_of_lt h) (λ j l. positive j (omega arith))),
      product-next orders g h,
      product_grows orders (suc g) (length orders) h (le_refl (length orders)) positive,
      ap product (take-length orders),
    )
