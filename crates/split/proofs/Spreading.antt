-- The index of the whole by that of a part, one generator after the other: what is written, and the place times that of what is left.
use Prim.Native.Nat.{ℕ, ◌+◌, ◌*◌, ◌/◌, ◌%◌, ◌≤◌, ◌<◌}
use mathlib.Core.Path.{◌≡◌, refl, sym, ◌∙◌, ap, subst}
use mathlib.Core.Bool.{Bool, true, cond}
use mathlib.Core.List.{List}
use native.Mathlib.Nat.{mul-add, mul_assoc, mul_comm, mul-zero}
use native.Mathlib.Numerals.{add-one}
use native.Mathlib.Omega.{arith}
use borrow.Author.Tests.{eq-eqb, ne_eqb}
use lib.Dec.{eqb}
use lib.ListN.{length, get_or, drop, drop_of_length-le}
use lib.Seq.{drop-cons}
use Rattle.action.specs.Permutation.{Generator}
use Rattle.action.specs.Index.{order_of}
use Rattle.action.proofs.Index.{Positive, valid_positive}
use Rattle.permutation.specs.Limits.{max_order}
use Rattle.elements.specs.HeldGroup.{generators_in, Tables}
use Rattle.elements.proofs.TableRows.{generators-length, rest_at}
use Rattle.parts.specs.Labels.{spread}
use Rattle.parts.proofs.Labelled.{spread-below}

module _ {k n : ℕ} {targets orders : List ℕ} (t : Tables k n targets orders) (labels : List ℕ) (long : length labels ≡ k) (part : ℕ) where
  -- the index with the digits of i at what is left from generator g on
  abbrev pub left : ℕ → ℕ → ℕ
  left g i = spread (λ l. eqb l part) (drop g labels) (drop g (generators_in k n targets orders)) i

  left-small : (i : ℕ) → left 0 i ≤ max_order
  left-small i =
      omega (arith, t.small, spread-below (λ l. eqb l part) labels (generators_in k n targets orders) (long ∙ sym (generators-length t)) (valid_positive t.valid) i)

  left_at : (g i : ℕ) → g < k
      → left g i ≡ cond (eqb (get_or labels g 0) part) (i % get_or orders g 0 + get_or orders g 0 * left (g + 1) (i / get_or orders g 0)) (get_or orders g 0 * left (g + 1) i)
  unfolding spread
  left_at g i h = rw (rest_at t g h, drop-cons labels g 0 (omega arith), add-one g)

  -- a digit more
  pub left-own : (out place g rest x : ℕ) → g < k → get_or labels g 0 ≡ part → out + place * left g rest ≡ x
      → out + rest % get_or orders g 0 * place + place * get_or orders g 0 * left (g + 1) (rest / get_or orders g 0) ≡ x
  left-own out place g rest x h own e =
      let o : ℕ = get_or orders g 0 in
      let r : ℕ = left (g + 1) (rest / o) in
      let s : left g rest ≡ rest % o + o * r = left_at g rest h ∙ rw (eq-eqb (get_or labels g 0) part own) in
      omega (arith, ap (λ (y : ℕ). place * y) s, mul-add place (rest % o) (o * r), mul_comm (rest % o) place, mul_assoc place o r)

  -- and it fits
  pub left-room : (out place g rest i : ℕ) → g < k → get_or labels g 0 ≡ part → out + place * left g rest ≡ left 0 i → out + rest % get_or orders g 0 * place ≤ max_order
  left-room out place g rest i h own e = omega (arith, left-small i, left-own out place g rest (left 0 i) h own e)

  pub left_other : (out place g rest x : ℕ) → g < k → (get_or labels g 0 ≡ part → ⊥) → out + place * left g rest ≡ x
      → out + place * get_or orders g 0 * left (g + 1) rest ≡ x
  left_other out place g rest x h other e =
      let o : ℕ = get_or orders g 0 in
      let r : ℕ = left (g + 1) rest in
      let s : left g rest ≡ o * r = left_at g rest h ∙ rw (ne_eqb (get_or labels g 0) part other) in
      omega (arith, ap (λ (y : ℕ). place * y) s, mul_assoc place o r)

  left_none : (g i : ℕ) → k ≤ g → left g i ≡ 0
  unfolding spread
  left_none g i h = rw (drop_of_length-le labels {i = g} (rw long h))

  pub left_end : (out place g rest x : ℕ) → k ≤ g → out + place * left g rest ≡ x → out ≡ x
  left_end out place g rest x h e = omega (arith, ap (λ (y : ℕ). place * y) (left_none g rest h), mul-zero place)
