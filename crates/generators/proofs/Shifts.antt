-- Lattices: what the sides come to, the sizes of the numbers that a shift is made of, and the targets of a shift.
-- What carries the sizes: a place is below its side, and a stride times a side is at most the sites.
use Prim.Native.Nat.{ℕ, ◌+◌, ◌*◌, ◌/◌, ◌%◌, ◌≤◌, ◌<◌}
use mathlib.Core.Path.{◌≡◌, sym, ◌∙◌}
use mathlib.Core.List.{List, map}
use native.Mathlib.Nat.{mod-lt, mul-pos, mul-div-le, mul-le-mul_left, le-mul_of_pos_right, mul_comm, le_trans, div-lt_iff_lt-mul, le-div_iff_mul-le}
use native.Mathlib.Omega.{arith}
use lib.ListN.{length, length-map}
use lib.Seq.{ext_get_or}
use borrow.Author.Tests.{lt-ltb, le-ltb}
use Rattle.pauli_word.specs.Limits.{max_sites}
use Rattle.action.specs.Lists.{below}
use Rattle.action.specs.Lattice.{shifted, shift}
use Rattle.action.proofs.Lists.{length-below}
use Rattle.action.proofs.Lattice.{target-shift}
use Rattle.outcome.specs.declared.Refusal.TheVariants as Refusal
use Rattle.outcome.specs.Outcome.{answer, refusal_of}
use Rattle.generators.specs.Parts.{sides_outcome}
use Rattle.generators.proofs.Stores.{Holds}

-- ---- sides

module _ (a b c : ℕ) where
  pub sides-zero : a * b * c ≡ 0 → sides_outcome a b c ≡ refusal_of Refusal.ZeroSide
  unfolding sides_outcome
  sides-zero e = simp (le-ltb 0 (a * b * c) (omega arith))

  large : max_sites < a * b * c → sides_outcome a b c ≡ refusal_of Refusal.SidesTooLarge
  unfolding sides_outcome
  large h = simp (lt-ltb 0 (a * b * c) (omega arith), lt-ltb max_sites (a * b * c) h)

-- two sides, and then the third: a quotient tells whether the product exceeds max_sites
module _ (a b c : ℕ) (some : 0 < a) (more : 0 < b) (most : 0 < c) where
  pub two-large : max_sites / a < b → sides_outcome a b c ≡ refusal_of Refusal.SidesTooLarge
  two-large h =
      large a b c (omega (arith, (div-lt_iff_lt-mul some).0 h, mul_comm a b, le-mul_of_pos_right (a * b) most))

  pub two-fit : b ≤ max_sites / a → a * b ≤ max_sites
  two-fit h = omega (arith, (le-div_iff_mul-le some).0 h, mul_comm a b)

  pub two-positive : 0 < a * b
  two-positive = mul-pos some more

  pub three-large : max_sites / (a * b) < c → sides_outcome a b c ≡ refusal_of Refusal.SidesTooLarge
  three-large h = large a b c (omega (arith, (div-lt_iff_lt-mul two-positive).0 h, mul_comm c (a * b)))

  pub three-fit : c ≤ max_sites / (a * b) → a * b * c ≤ max_sites
  three-fit h = omega (arith, (le-div_iff_mul-le two-positive).0 h, mul_comm c (a * b))

  pub sides-fit : c ≤ max_sites / (a * b) → sides_outcome a b c ≡ answer (a * b * c)
  unfolding sides_outcome
  sides-fit h = simp (lt-ltb 0 (a * b * c) (mul-pos two-positive most), le-ltb max_sites (a * b * c) (three-fit h))

-- ---- the numbers that a shift is made of

module _ (stride side q : ℕ) (strides : 0 < stride) (sides : 0 < side) (m : ℕ) (small : stride * side ≤ m) where
  pub place-small : q / stride % side < m
  place-small = omega (arith, mod-lt (q / stride) sides, le-mul_of_pos_right side strides, mul_comm stride side)

  pub low_small : q % stride < m
  low_small = omega (arith, mod-lt q strides, le-mul_of_pos_right stride sides)

  pub axis-small : stride * ((q / stride % side + 1) % side) ≤ m
  axis-small = le_trans (mul-le-mul_left stride (omega (arith, mod-lt (q / stride % side + 1) sides))) small

  pub high_small : stride * side * (q / (stride * side)) ≤ q
  high_small = mul-div-le q (stride * side)

  pub shifted-small : q < m → shifted stride side q < m + m + m
  unfolding shifted
  shifted-small h = omega (arith, low_small, axis-small, high_small)

-- a list that holds where each site is sent is the shift
pub shift-stored :
    (stride side : ℕ) (row : List ℕ) (n q : ℕ) → length row ≡ n → n ≤ q
    → Holds (shifted stride side) row q → row ≡ map (shifted stride side) (below n)
unfolding shift
shift-stored stride side row n q long all holds =
    ext_get_or 0 row (map (shifted stride side) (below n)) (long ∙ sym (length-map (below n) (shifted stride side) ∙ length-below n))
    (λ i h. holds i (omega arith) ∙ sym (target-shift n stride side i (omega arith)))
