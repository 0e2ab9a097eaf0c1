-- The shifts along the axes of a lattice, axis by axis: their targets and orders stored one after the other over zeros.
-- What carries it: the shifts along one axis more are those before and the shift whose stride is the product of the sides before; and where the
-- product of the sides is not 0, no side is, so that the product of the first sides is at most that of all.
use Prim.Native.Nat.{ℕ, zero, suc, ◌+◌, ◌-◌, ◌*◌, ◌≤◌, ◌<◌}
use mathlib.Core.Path.{◌≡◌, refl, sym, ap, ap₂, ◌∙◌}
use mathlib.Core.List.{List, [], ◌∷◌, ◌++◌, map, append_assoc, map-append}
use native.Mathlib.Nat.{add-sub_cancel_left, zero-mul, mul-one, one-mul, mul_comm, mul_assoc, zero-lt-suc, not-suc-le-zero, le_of_suc-le-suc, le-mul_of_pos_right}
use native.Mathlib.Numerals.{add-one}
use native.Mathlib.Omega.{arith}
use lib.ListN.{length, get_or, take, drop, set, replicate, length-map, length-append}
use lib.Seq.{take-suc, take_all, length-take-le, set_at}
use Rattle.pauli_word.specs.Limits.{max_sites}
use Rattle.action.specs.Arithmetic.{product}
use Rattle.action.specs.Lists.{below}
use Rattle.action.specs.Permutation.{Generator}
use Rattle.action.specs.Lattice.{shifted, shift, shifts}
use Rattle.action.proofs.Lists.{length-below}
use Rattle.permutation.specs.Limits.{max_generators, target_places}
use Rattle.permutation.proofs.Products.{product-next}
use Rattle.generators.specs.Tables.{filled, placed, placed_all}
use Rattle.generators.proofs.Zeros.{blank}
use Rattle.generators.proofs.Placed.{filled-length, placed-next, placed-next-length}
use Rattle.generators.proofs.Rows.{row_long, part_at, part-row}

-- ---- products of sides

left-positive : (a b : ℕ) → 0 < a * b → 0 < a
left-positive zero b h = absurd (omega (arith, zero-mul b))
left-positive (suc a) b h = zero-lt-suc a

right_positive : (a b : ℕ) → 0 < a * b → 0 < b
right_positive a b h = left-positive b a (rw (mul_comm b a) h)

-- the product of a list is that of its first k members times that of the others
pub product_parts : (k : ℕ) (xs : List ℕ) → product xs ≡ product (take k xs) * product (drop k xs)
unfolding product
product_parts zero xs = sym (one-mul (product xs))
product_parts (suc k) [] = refl
product_parts (suc k) (x ∷ xs) = rw mul_assoc (ap (λ (p : ℕ). x * p) (product_parts k xs))

-- sides none of which is 0
module _ (sides : List ℕ) (some : 0 < product sides) where
  pub first-positive : (k : ℕ) → 0 < product (take k sides)
  first-positive k = left-positive (product (take k sides)) (product (drop k sides)) (rw (product_parts k sides) at some)

  pub first_small : (k : ℕ) → product (take k sides) ≤ product sides
  first_small k =
      let rest = right_positive (product (take k sides)) (product (drop k sides)) (rw (product_parts k sides) at some) in
      rw (product_parts k sides) (le-mul_of_pos_right (product (take k sides)) rest)

  module _ (g : ℕ) (more : g < length sides) where
    pub side-positive : 0 < get_or sides g 0
    side-positive = right_positive (product (take g sides)) (get_or sides g 0) (rw (product-next sides g more) at (first-positive (suc g)))

    pub stride-small : product (take g sides) * get_or sides g 0 ≤ product sides
    stride-small = rw (product-next sides g more) at (first_small (suc g))

    pub side-small : get_or sides g 0 ≤ product sides
    side-small =
        omega (
          arith,
          stride-small,
          le-mul_of_pos_right (get_or sides g 0) (first-positive g),
          mul_comm (get_or sides g 0) (product (take g sides)),
        )

three : (a b c : ℕ) → product (a ∷ b ∷ c ∷ []) ≡ a * b * c
unfolding product
three a b c = ap (λ (k : ℕ). a * (b * k)) (mul-one c) ∙ sym (mul_assoc a b c)

-- the first of three sides: where the product of all is not 0, theirs is neither 0 nor larger
pub sides_within :
    (a b c k : ℕ) → 0 < a * b * c → (0 < product (take k (a ∷ b ∷ c ∷ []))) × (product (take k (a ∷ b ∷ c ∷ [])) ≤ a * b * c)
sides_within a b c k some =
    let sides = a ∷ b ∷ c ∷ [] in
    let all : 0 < product sides = omega (arith, three a b c) in
    (first-positive sides all k, omega (arith, first_small sides all k, three a b c))

-- ---- one axis more

-- the targets of generators, and their orders
abbrev pub perms_in : List Generator → List (List ℕ)
perms_in gs = map (λ g. g.perm) gs

abbrev pub orders_in : List Generator → List ℕ
orders_in gs = map (λ g. g.order) gs

pub shifts-next :
    (n stride : ℕ) (sides : List ℕ) (g : ℕ) → g < length sides
    → shifts n stride (take (suc g) sides) ≡ shifts n stride (take g sides) ++ (shift n (stride * product (take g sides)) (get_or sides g 0) ∷ [])
unfolding shifts product
shifts-next n stride [] g h = absurd (not-suc-le-zero h)
shifts-next n stride (side ∷ sides) zero h = ap (λ (s : ℕ). shift n s side ∷ []) (sym (mul-one stride))
shifts-next n stride (side ∷ sides) (suc g) h =
    ap (λ (gs : List Generator). shift n stride side ∷ gs)
    (shifts-next n (stride * side) sides g (le_of_suc-le-suc h)
    ∙ ap (λ (s : ℕ). shifts n (stride * side) (take g sides) ++ (shift n s (get_or sides g 0) ∷ [])) (mul_assoc stride side (product (take g sides))))

-- the orders of shifts are the sides
pub shifts_orders : (n stride : ℕ) (sides : List ℕ) → orders_in (shifts n stride sides) ≡ sides
unfolding shifts shift
shifts_orders n stride [] = refl
shifts_orders n stride (side ∷ sides) = ap (λ (l : List ℕ). side ∷ l) (shifts_orders n (stride * side) sides)

-- one member more, stored over the first of the zeros
pub filled_next : (k : ℕ) (xs : List ℕ) (v g : ℕ) → length xs ≡ g → g < k → set (filled k xs) g v ≡ filled k (xs ++ (v ∷ []))
filled_next k xs v g long room =
    let here : k - length xs ≡ suc (k - suc g) = omega arith in
    let rest : k - suc g ≡ k - length (xs ++ (v ∷ [])) = omega (arith, length-append xs (v ∷ [])) in
    ap (λ (j : ℕ). set (xs ++ blank j) g v) here
    ∙ set_at xs 0 (blank (k - suc g)) v g long
    ∙ sym (append_assoc xs (v ∷ []) (blank (k - suc g)))
    ∙ ap (λ (j : ℕ). (xs ++ (v ∷ [])) ++ blank j) rest

-- ---- the shifts along the first g axes, stored

-- the generators of the first g axes
abbrev pub axes : ℕ → List ℕ → ℕ → List Generator
axes sites sides g = shifts sites 1 (take g sides)

-- their targets and orders are stored over zeros, and the next stride is the product of their sides
pub record Stored (sides : List ℕ) (sites : ℕ) (targets orders : List ℕ) (stride g : ℕ) : Type 0 where
  pub within : g ≤ length sides
  pub strides : stride ≡ product (take g sides)
  pub long : length (placed (perms_in (axes sites sides g))) ≡ max_sites * g
  pub targeted : targets ≡ placed_all (perms_in (axes sites sides g))
  pub ordered : orders ≡ filled max_generators (take g sides)

pub stored_none :
    (sides : List ℕ) (sites : ℕ) (targets orders : List ℕ) → targets ≡ replicate target_places 0 → orders ≡ replicate max_generators 0
    → Stored sides sites targets orders 1 0
unfolding product shifts placed placed_all
stored_none sides sites targets orders t o = record { within = omega arith; strides = refl; long = refl; targeted = t; ordered = o }

module _
    {sides : List ℕ} {sites : ℕ} {targets orders : List ℕ} {stride g : ℕ} (s : Stored sides sites targets orders stride g)
    (few : length sides ≤ max_generators) where
  done-long : length (take g sides) ≡ g
  done-long = length-take-le g sides s.within

  pub targets-long : length targets ≡ target_places
  unfolding placed_all
  targets-long = ap length s.targeted ∙ filled-length target_places (placed (perms_in (axes sites sides g))) (omega (arith, s.long, s.within))

  pub orders-long : length orders ≡ max_generators
  orders-long = ap length s.ordered ∙ filled-length max_generators (take g sides) (omega (arith, done-long, s.within))

  pub stored-all :
      length sides ≤ g
      → (targets ≡ placed_all (perms_in (shifts sites 1 sides))) × (orders ≡ filled max_generators (orders_in (shifts sites 1 sides)))
  stored-all h =
      let all = take_all g sides h in (
        s.targeted ∙ ap (λ (l : List ℕ). placed_all (perms_in (shifts sites 1 l))) all,
        s.ordered ∙ ap (filled max_generators) (all ∙ sym (shifts_orders sites 1 sides)),
      )

  -- the next axis
  module _ (small : sites ≤ max_sites) (more : g < length sides) where
    pub part_room : max_sites * g + sites ≤ length targets
    part_room = omega (arith, targets-long)

    part-long : length (part_at sites targets g) ≡ sites
    part-long = ap length (part-row sites targets g) ∙ row_long sites targets g part_room

    -- what filling its row requires
    pub axis-fits :
        0 < product sides → product sides ≤ max_sites
        → (0 < stride) × (0 < get_or sides g 0) × (stride * get_or sides g 0 ≤ max_sites) × (length (part_at sites targets g) ≤ max_sites)
    axis-fits some most = (
      rw s.strides (first-positive sides some g),
      side-positive sides some g more,
      rw s.strides (omega (arith, stride-small sides some g more)),
      omega (arith, part-long),
    )

    next-axis : perms_in (axes sites sides (g + 1)) ≡ perms_in (axes sites sides g) ++ (map (shifted stride (get_or sides g 0)) (below sites) ∷ [])
    unfolding shift
    next-axis =
        ap perms_in
        (ap (axes sites sides) (add-one g)
        ∙ shifts-next sites 1 sides g more
        ∙ ap (λ (k : ℕ). axes sites sides g ++ (shift sites k (get_or sides g 0) ∷ [])) (one-mul (product (take g sides)) ∙ sym s.strides))
        ∙ map-append (λ (x : Generator). x.perm) (axes sites sides g) (shift sites stride (get_or sides g 0) ∷ [])

    next-long : length (map (shifted stride (get_or sides g 0)) (below sites)) ≡ sites
    next-long = length-map (below sites) (shifted stride (get_or sides g 0)) ∙ length-below sites

    pub stored_next :
        (row : List ℕ) → row ≡ map (shifted stride (get_or sides g 0)) (below (length (part_at sites targets g)))
        → Stored sides sites (take (max_sites * g) targets ++ (row ++ drop (max_sites * g + sites - max_sites * g) (drop (max_sites * g) targets)))
        (set orders g (get_or sides g 0)) (stride * get_or sides g 0) (g + 1)
    stored_next row e =
        let ps = perms_in (axes sites sides g) in
        let p = map (shifted stride (get_or sides g 0)) (below sites) in
        let end : length p ≤ max_sites = omega (arith, next-long) in
        let room : g < max_generators = omega arith in
        record {
          within = omega arith;
          strides = ap (λ (k : ℕ). k * get_or sides g 0) s.strides ∙ sym (ap (λ (k : ℕ). product (take k sides)) (add-one g) ∙ product-next sides g more);
          long = ap (λ (l : List (List ℕ)). length (placed l)) next-axis ∙ placed-next-length ps p g s.long room end;
          targeted = ap₂ (λ (r : List ℕ) (k : ℕ). take (max_sites * g) targets ++ (r ++ drop k (drop (max_sites * g) targets)))
              (e ∙ ap (λ (k : ℕ). map (shifted stride (get_or sides g 0)) (below k)) part-long)
              (add-sub_cancel_left (max_sites * g) sites ∙ sym next-long)
              ∙ ap (λ (l : List ℕ). take (max_sites * g) l ++ (p ++ drop (length p) (drop (max_sites * g) l))) s.targeted
              ∙ placed-next ps p g s.long room end
              ∙ ap placed_all (sym next-axis);
          ordered = ap (λ (l : List ℕ). set l g (get_or sides g 0)) s.ordered
              ∙ filled_next max_generators (take g sides) (get_or sides g 0) g done-long room
              ∙ ap (filled max_generators) (sym (ap (λ (k : ℕ). take k sides) (add-one g) ∙ take-suc sides g 0 more));
        }
