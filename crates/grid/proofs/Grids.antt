-- Which groups are grids: generators of tables that rotate sites inside blocks, each of which shifts along an axis of its own.
-- What carries it: the places of an axis are as far apart as the product of the orders before its own, and an axis whose shift takes no site past the
-- sites has whole rounds (`axis-rounds`).
use Prim.Native.Nat.{ℕ, zero, suc, ◌+◌, ◌*◌, ◌/◌, ◌%◌, ◌≤◌, ◌<◌, ◌∣◌}
use mathlib.Core.Path.{◌≡◌, sym, ap, ap₂, ◌∙◌}
use mathlib.Core.Logic.{inl, inr, ◌⊎◌}
use mathlib.Core.List.{List, ◌∷◌, map}
use native.Mathlib.Nat.{
  div-div-eq-div-mul,
  dvd-mul_left,
  dvd-mul_right,
  dvd_of_mod-eq-zero,
  dvd_trans,
  eq-or-lt_of_le,
  le_of_dvd,
  le_refl,
  mod-add-div,
  mod-eq_of_lt,
  mod-eq-zero_of_dvd,
  mod-lt,
  mod-one,
  mod_self,
  mul_assoc,
  mul-div_right,
  mul-mod_right,
  mul-one,
  mul-suc,
  one-mul,
  pos_of_dvd_of_pos,
  zero-mod,
}
use native.Mathlib.Numerals.{add-one}
use native.Mathlib.Omega.{arith}
use lib.ListN.{length, get_or, take, drop}
use Rattle.pauli_word.specs.Limits.{max_sites}
use Rattle.action.specs.Arithmetic.{product}
use Rattle.action.specs.Permutation.{Generator, target}
use Rattle.action.specs.Index.{order_of}
use Rattle.action.specs.Lattice.{shifted, shift, shifts}
use Rattle.action.proofs.Below.{map-below-cong}
use Rattle.action.proofs.Index.{valid_positive, order_of_positive}
use Rattle.action.proofs.Lattice.{target-shift}
use Rattle.permutation.specs.Limits.{max_generators, max_order}
use Rattle.permutation.proofs.Products.{product-next}
use Rattle.elements.specs.HeldGroup.{generators_in, Tables}
use Rattle.elements.proofs.Indices.{factor-small, order-next, order-end}
use Rattle.elements.proofs.TableRows.{generator_at, rest_at, rest_end, order-positive-at}
use Rattle.packed.specs.Packed.{rotated}
use Rattle.rotation.specs.Rotation.{rotation, Shapes}
use Rattle.rotation.proofs.Rotations.{rotated-zero, rotated-inside, target-rotation}
use Rattle.rotation.proofs.Promises.{shift_rotates}
use Rattle.grid.specs.Grid.{Grid, Axis, Axes}

-- ---- one axis

-- the identity shifts along an axis of one place
pub axis_one : (place : ℕ) {order stride rest : ℕ} → order ≡ 1 → stride ≡ 0 → rest ≡ 1 → Axis place order stride rest
unfolding shifted
axis_one place o s r = rw (o, s, r) record {
  whole = mod-one (place * 1);
  shifts = λ q. rotated-zero 1 q ∙ sym (simp (mod-one, mul-one) (omega (arith, mod-add-div q place)));
}

-- a rotation by the distance of two places inside blocks of a round shifts along the axis
pub axis_round : {place order stride rest : ℕ} → 0 < place → 0 < order → stride ≡ place → stride + rest ≡ place * order → Axis place order stride rest
axis_round {place} {order} {stride} {rest} apart some e round = record {
  whole = rw round (mod_self (place * order));
  shifts = λ q.
      let h : q < suc q = omega arith in
      ap₂ (λ (s b : ℕ). rotated s b q) e round
      ∙ sym (target-rotation (suc q) place (place * order) q h)
      ∙ ap (λ (p : List ℕ). target p q) (sym (shift_rotates (suc q) place order apart some))
      ∙ target-shift (suc q) place order q h;
}

-- where a shift takes the first site of a place
shifted-place : (place order j : ℕ) → 0 < place → shifted place order (place * j) ≡ place * ((j % order + 1) % order) + place * order * (j / order)
unfolding shifted
shifted-place place order j apart =
    rw (← div-div-eq-div-mul (place * j) place order, mul-mod_right place j, mul-div_right j apart) (omega arith)

-- an axis whose shift takes no site past the sites has whole rounds: it takes the last place to the first
pub axis_rounds : (n place order : ℕ) → 0 < place → 0 < order → n % place ≡ 0 → ((q : ℕ) → q < n → shifted place order q < n)
    → n % (place * order) ≡ 0
axis_rounds n place order apart some whole inside = go (n / place) (omega (arith, mod-add-div n place))
  where
    last : (j : ℕ) → n ≡ place * suc j → (suc (j % order) ≡ order) ⊎ (suc (j % order) < order) → n % (place * order) ≡ 0
    last j e (inl full) =
        let rounds : suc j ≡ order * suc (j / order) = omega (arith, mod-add-div j order, mul-suc order (j / order)) in
        let all : n ≡ place * order * suc (j / order) = e ∙ ap (λ (m : ℕ). place * m) rounds ∙ sym (mul_assoc place order (suc (j / order))) in
        rw all (mul-mod_right (place * order) (suc (j / order)))
    last j e (inr more) =
        let next : (j % order + 1) % order ≡ j % order + 1 = mod-eq_of_lt (omega arith) in
        absurd (omega (
          arith,
          inside (place * j) (omega (arith, mul-suc place j)),
          shifted-place place order j apart,
          ap (λ (m : ℕ). place * m) next,
          ap (λ (m : ℕ). place * m) (mod-add-div j order),
          mul-suc place j,
        ))

    go : (m : ℕ) → n ≡ place * m → n % (place * order) ≡ 0
    go zero e = let none : n ≡ 0 = omega arith in rw none (zero-mod (place * order))
    go (suc j) e = last j e (eq-or-lt_of_le (mod-lt j some))

-- ---- the axes of tables

module _ {k n : ℕ} {targets orders : List ℕ} (t : Tables k n targets orders) where
  abbrev gs : List Generator
  gs = generators_in k n targets orders

  -- the first orders and one more
  orders-next : (g : ℕ) → g < k → product (take (suc g) orders) ≡ product (take g orders) * get_or orders g 0
  orders-next g h = product-next orders g (omega (arith, t.few, t.declared_orders))

  -- the product of the first orders, times what is left of the group order
  orders-part : (g : ℕ) → g ≤ k → product (take g orders) * order_of (drop g gs) ≡ order_of gs
  unfolding product
  orders-part zero h = one-mul (order_of gs)
  orders-part (suc g) h =
      rw (orders-next g h, ← add-one g) (order-next t (product (take g orders)) g h (orders-part g (omega arith)))

  -- the product of the orders is the group order
  pub axes-order : product (take k orders) ≡ order_of (generators_in k n targets orders)
  axes-order = order-end t (product (take k orders)) k (le_refl k) (orders-part k (le_refl k))

  -- the product of the first orders divides that of all
  orders-divide : (g : ℕ) → g ≤ k → product (take g orders) ∣ product (take k orders)
  orders-divide g h = rw (axes-order, ← orders-part g h) (dvd-mul_right (product (take g orders)) (order_of (drop g gs)))

  -- it is not 0
  pub place-positive : (g : ℕ) → g ≤ k → 0 < product (take g orders)
  place-positive g h =
      pos_of_dvd_of_pos (orders-divide g h) (rw axes-order (order_of_positive gs (valid_positive t.valid)))

  -- it is no more than that of all
  pub place-within : (g : ℕ) → g ≤ k → product (take g orders) ≤ order_of (generators_in k n targets orders)
  place-within g h = rw (← axes-order) (le_of_dvd (place-positive k (le_refl k)) (orders-divide g h))

  -- the distance of two places of the next axis, as code counts
  pub place-next : (g : ℕ) → g < k → product (take (g + 1) orders) ≡ product (take g orders) * get_or orders g 0
  place-next g h = rw (add-one g) (orders-next g h)

  -- a round of an axis is no more than a group may have
  pub place-times : (g : ℕ) → g < k → product (take g orders) * get_or orders g 0 ≤ max_order
  place-times g h = rw (← orders-next g h) (factor-small t (product (take (suc g) orders)) (suc g) (orders-part (suc g) h))

  -- nor is an order
  pub order-small : (g : ℕ) → g < k → get_or orders g 0 ≤ max_order
  order-small g h = omega (arith, le_of_dvd (rw (← orders-next g h) (place-positive (suc g) h)) (dvd-mul_left (get_or orders g 0) (product (take g orders))), place-times g h)

  -- rotations each of which shifts along an axis are axes
  pub axes-by : {strides rests : List ℕ} → length strides ≡ max_generators → length rests ≡ max_generators → ((g : ℕ) → g < k → 0 < get_or rests g 0)
      → ((g : ℕ) → g < k → get_or strides g 0 + get_or rests g 0 ≤ max_sites + max_sites)
      → ((g : ℕ) → g < k → Axis (product (take g orders)) (get_or orders g 0) (get_or strides g 0) (get_or rests g 0)) → Axes k orders strides rests
  axes-by {strides} {rests} stride_count rest_count some small each = record {
    stride_count = stride_count;
    rest_count = rest_count;
    some = some;
    small = small;
    whole = λ g h.
        let b : ℕ = get_or strides g 0 + get_or rests g 0 in
        let one : b ∣ product (take (suc g) orders) = rw (orders-next g h) (dvd_of_mod-eq-zero b (each g h).whole) in
        mod-eq-zero_of_dvd b (dvd_trans b one (orders-divide (suc g) h));
    shifts = λ g h. (each g h).shifts;
  }

  module _ {strides rests : List ℕ} (s : Shapes k n targets strides rests) where
    -- generators each of which shifts along an axis are axes
    pub axes-all :
        ((g : ℕ) → g < k → Axis (product (take g orders)) (get_or orders g 0) (get_or strides g 0) (get_or rests g 0)) → Axes k orders strides rests
    axes-all =
        axes-by s.stride_count s.rest_count (λ g h. omega (arith, (s.each g h).blocks.inside)) (λ g h. (s.each g h).blocks.small)

    module _ (a : Axes k orders strides rests) where
      -- an axis takes no site past the sites
      axis-inside : (g : ℕ) → g < k → (q : ℕ) → q < n → shifted (product (take g orders)) (get_or orders g 0) q < n
      axis-inside g h q l =
          let b : ℕ = get_or strides g 0 + get_or rests g 0 in
          rw (a.shifts g h q) at (rotated-inside n b (omega (arith, a.some g h)) (s.each g h).blocks.whole (get_or strides g 0) q l)

      -- the sites are whole rounds of the first axes
      rounds-whole : (g : ℕ) → g ≤ k → n % product (take g orders) ≡ 0
      unfolding product
      rounds-whole zero h = mod-one n
      rounds-whole (suc g) h =
          rw (orders-next g h)
          (axis_rounds n (product (take g orders)) (get_or orders g 0) (place-positive g (omega arith)) (order-positive-at t g h) (rounds-whole g (omega arith)) (axis-inside g h))

      -- a generator is the shift along its axis
      generator-shift : (g : ℕ) → g < k → generator_at n targets orders g ≡ shift n (product (take g orders)) (get_or orders g 0)
      unfolding shift rotation
      generator-shift g h =
          ap (λ (perm : List ℕ). record { perm = perm; order = get_or orders g 0 }) ((s.each g h).turns ∙ map-below-cong _ _ n 0 (λ q l. a.shifts g h q))

      -- so are those from g on
      rest-shifts : (f g : ℕ) → f + g ≡ k → drop g gs ≡ shifts n (product (take g orders)) (map (λ x. x.order) (drop g gs))
      unfolding shifts
      rest-shifts zero g e = rw (rest_end t g (omega arith))
      rest-shifts (suc f) g e =
          let h : g < k = omega arith in
          let os : List ℕ = map (λ x. x.order) (drop (g + 1) gs) in
          rw (rest_at t g h)
          (ap₂ ◌∷◌ (generator-shift g h) (rest-shifts f (g + 1) (omega arith) ∙ ap (λ (p : ℕ). shifts n p os) (place-next g h)))

      -- generators that shift along axes make a grid
      pub grid-of : Grid n (generators_in k n targets orders)
      unfolding product
      grid-of = record {
        shifts = rest-shifts k 0 (omega arith);
        whole = rw (← axes-order) (rounds-whole k (le_refl k));
      }
