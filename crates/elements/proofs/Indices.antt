-- The loops over the generators of tables, one generator after the other: the group order, the phase modulus, the digits of an index, its
-- inverse and the sum of two, each by what is left from generator g on.
use Prim.Native.Nat.{ℕ, ◌+◌, ◌-◌, ◌*◌, ◌/◌, ◌%◌, ◌≤◌, ◌<◌, ◌∣◌}
use mathlib.Core.Path.{◌≡◌, sym, ◌∙◌}
use mathlib.Core.Logic.{inl, inr}
use mathlib.Core.List.{List, [], ◌∷◌, ◌++◌, map, append_assoc}
use native.Mathlib.Nat.{dvd-mul_left, dvd-mul_right, dvd_trans, le-mul_of_pos_right, le_of_dvd, mul_assoc, mul_comm, mul-add, mul-zero, mul-one, pos_of_dvd_of_pos}
use native.Mathlib.Numerals.{add-one}
use native.Mathlib.Omega.{arith}
use lib.ListN.{length, get_or, set, take, drop, take-append-drop}
use lib.Seq.{take-suc-set, drop-set-lt}
use Rattle.action.specs.Arithmetic.{gcd, lcm, lcm_all}
use Rattle.action.specs.Lists.{Member}
use Rattle.action.specs.Permutation.{Generator}
use Rattle.action.specs.Index.{order_of, digits, index, add_digits, add, inverse_digits, inverse}
use Rattle.action.specs.Sector.{modulus}
use Rattle.action.proofs.Arithmetic.{gcd-left, lcm_all_divides}
use Rattle.action.proofs.Lists.{of-member-map}
use Rattle.action.proofs.Index.{valid_positive, order_of_positive, add-below, inverse-below}
use Rattle.permutation.specs.Limits.{max_order}
use Rattle.elements.specs.HeldGroup.{generators_in, Tables}
use Rattle.elements.proofs.TableRows.{member_drop, rest_at, rest_end, rest-positive, order-positive-at}

-- an order divides the group order
order_divides : (gs : List Generator) (g : Generator) → Member g gs → g.order ∣ order_of gs
unfolding order_of
order_divides [] g m = absurd m
order_divides (f ∷ gs) g (inl e) = rw e (dvd-mul_right f.order (order_of gs))
order_divides (f ∷ gs) g (inr m) = dvd_trans g.order (order_divides gs g m) (dvd-mul_left (order_of gs) f.order)

-- the least common multiple of the orders, of which the phase modulus is that of all
abbrev pub multiple : List Generator → ℕ
multiple gs = lcm_all (map (λ g. g.order) gs)

-- that of what is left divides the group order
multiple_divides : (g : ℕ) (gs : List Generator) → multiple (drop g gs) ∣ order_of gs
multiple_divides g gs =
    lcm_all_divides (map (λ g. g.order) (drop g gs)) (order_of gs)
    (λ a m. let (f, k, e) = of-member-map (λ g. g.order) (drop g gs) a m in rw e (order_divides gs f (member_drop g gs f k)))

pub multiple_all : (g : ℕ) (gs : List Generator) → g ≤ 0 → multiple (drop g gs) ≡ modulus gs
unfolding modulus
multiple_all g gs h = let e : g ≡ 0 = omega arith in rw e

module _ {k n : ℕ} {targets orders : List ℕ} (t : Tables k n targets orders) where
  group-positive : 0 < order_of (generators_in k n targets orders)
  group-positive = order_of_positive (generators_in k n targets orders) (valid_positive t.valid)

  -- a factor beside what is left of the group order
  pub factor-small : (p g : ℕ) → p * order_of (drop g (generators_in k n targets orders)) ≡ order_of (generators_in k n targets orders) → p ≤ max_order
  factor-small p g e =
      omega (arith, le-mul_of_pos_right p (order_of_positive (drop g (generators_in k n targets orders)) (rest-positive t g)), t.small)

  pub order-next : (p g : ℕ) → g < k → p * order_of (drop g (generators_in k n targets orders)) ≡ order_of (generators_in k n targets orders)
      → p * get_or orders g 0 * order_of (drop (g + 1) (generators_in k n targets orders)) ≡ order_of (generators_in k n targets orders)
  unfolding order_of
  order-next p g h e = mul_assoc p (get_or orders g 0) (order_of (drop (g + 1) (generators_in k n targets orders))) ∙ (rw (rest_at t g h) at e)

  pub order-end : (p g : ℕ) → k ≤ g → p * order_of (drop g (generators_in k n targets orders)) ≡ order_of (generators_in k n targets orders)
      → p ≡ order_of (generators_in k n targets orders)
  unfolding order_of
  order-end p g h e = sym (mul-one p) ∙ (rw (rest_end t g h) at e)

  pub multiple-small : (g : ℕ) → multiple (drop g (generators_in k n targets orders)) ≤ max_order
  multiple-small g =
      omega (arith, le_of_dvd group-positive (multiple_divides g (generators_in k n targets orders)), t.small)

  -- one generator more, from the last one on
  pub multiple-next : (g m d : ℕ) → 0 < g → g ≤ k → m ≡ multiple (drop g (generators_in k n targets orders)) → d ≡ gcd (get_or orders (g - 1) 0) m
      → get_or orders (g - 1) 0 / d * m ≡ multiple (drop (g - 1) (generators_in k n targets orders))
  unfolding lcm_all lcm
  multiple-next g m d p h em ed =
      let e : g - 1 + 1 ≡ g = omega arith in
      rw (rest_at t (g - 1) (omega arith), e, ed, em)

  pub multiple-end : (g : ℕ) → k ≤ g → multiple (drop g (generators_in k n targets orders)) ≡ 1
  unfolding lcm_all
  multiple-end g h = rw (rest_end t g h)

  pub gcd-positive : (g m : ℕ) → g < k → 0 < gcd (get_or orders g 0) m
  gcd-positive g m h = pos_of_dvd_of_pos (gcd-left (get_or orders g 0) m) (order-positive-at t g h)

  digits-next : (g rest : ℕ) → g < k
      → digits (drop g (generators_in k n targets orders)) rest
      ≡ rest % get_or orders g 0 ∷ digits (drop (g + 1) (generators_in k n targets orders)) (rest / get_or orders g 0)
  unfolding digits
  digits-next g rest h = rw (rest_at t g h)

  digits_end : (g rest : ℕ) → k ≤ g → digits (drop g (generators_in k n targets orders)) rest ≡ []
  unfolding digits
  digits_end g rest h = rw (rest_end t g h)

  -- what is written of an inverse, and the place times that of what is left: one digit more
  pub inverse-next : (out place g rest i : ℕ) → g < k
      → out + place * inverse (drop g (generators_in k n targets orders)) rest ≡ inverse (generators_in k n targets orders) i
      → out + (get_or orders g 0 - rest % get_or orders g 0) % get_or orders g 0 * place
      + place * get_or orders g 0 * inverse (drop (g + 1) (generators_in k n targets orders)) (rest / get_or orders g 0)
      ≡ inverse (generators_in k n targets orders) i
  unfolding inverse digits inverse_digits index
  inverse-next out place g rest i h e =
      let o : ℕ = get_or orders g 0 in
      let d : ℕ = (o - rest % o) % o in
      let r : ℕ = inverse (drop (g + 1) (generators_in k n targets orders)) (rest / o) in
      omega (arith, rw (rest_at t g h) at e, mul-add place d (o * r), mul_comm d place, mul_assoc place o r)

  pub inverse-small : (out x i : ℕ) → out + x ≡ inverse (generators_in k n targets orders) i → out ≤ max_order
  inverse-small out x i e = omega (arith, inverse-below (generators_in k n targets orders) (valid_positive t.valid) i, t.small)

  pub inverse-end : (out place g rest i : ℕ) → k ≤ g
      → out + place * inverse (drop g (generators_in k n targets orders)) rest ≡ inverse (generators_in k n targets orders) i
      → out ≡ inverse (generators_in k n targets orders) i
  unfolding inverse digits inverse_digits index
  inverse-end out place g rest i h e = omega (arith, rw (rest_end t g h) at e, mul-zero place)

  -- what is written of a sum, and the place times that of what is left: one digit more
  pub sum-next : (out place g a b i j : ℕ) → g < k
      → out + place * add (drop g (generators_in k n targets orders)) a b ≡ add (generators_in k n targets orders) i j
      → out + (a % get_or orders g 0 + b % get_or orders g 0) % get_or orders g 0 * place
      + place * get_or orders g 0 * add (drop (g + 1) (generators_in k n targets orders)) (a / get_or orders g 0) (b / get_or orders g 0)
      ≡ add (generators_in k n targets orders) i j
  unfolding add digits add_digits index
  sum-next out place g a b i j h e =
      let o : ℕ = get_or orders g 0 in
      let d : ℕ = (a % o + b % o) % o in
      let r : ℕ = add (drop (g + 1) (generators_in k n targets orders)) (a / o) (b / o) in
      omega (arith, rw (rest_at t g h) at e, mul-add place d (o * r), mul_comm d place, mul_assoc place o r)

  pub sum-small : (out x i j : ℕ) → out + x ≡ add (generators_in k n targets orders) i j → out ≤ max_order
  sum-small out x i j e = omega (arith, add-below (generators_in k n targets orders) (valid_positive t.valid) i j, t.small)

  pub sum-end : (out place g a b i j : ℕ) → k ≤ g
      → out + place * add (drop g (generators_in k n targets orders)) a b ≡ add (generators_in k n targets orders) i j
      → out ≡ add (generators_in k n targets orders) i j
  unfolding add digits add_digits index
  sum-end out place g a b i j h e = omega (arith, rw (rest_end t g h) at e, mul-zero place)

  -- the counter with one digit more, and the digits that are left
  pub counter_next : (g rest : ℕ) (counter : List ℕ) → g < k → k ≤ length counter
      → take (g + 1) (set counter g (rest % get_or orders g 0))
      ++ (digits (drop (g + 1) (generators_in k n targets orders)) (rest / get_or orders g 0) ++ drop k (set counter g (rest % get_or orders g 0)))
      ≡ take g counter ++ (digits (drop g (generators_in k n targets orders)) rest ++ drop k counter)
  counter_next g rest counter h l =
      rw (add-one g, take-suc-set counter g (rest % get_or orders g 0) (omega arith), drop-set-lt k counter g (rest % get_or orders g 0) h, append_assoc, digits-next g rest h, add-one g)

  pub counter-end : (g rest : ℕ) (counter : List ℕ) → k ≤ g → g ≤ k
      → take g counter ++ (digits (drop g (generators_in k n targets orders)) rest ++ drop k counter) ≡ counter
  counter-end g rest counter h l =
      let e : g ≡ k = omega arith in
      rw (digits_end g rest h, e) (take-append-drop k counter)
