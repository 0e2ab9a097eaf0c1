-- The step from the sums with h to those with the next number: a digit of h that rolls over is carried to the next one, and each rotation along an axis adds
-- 1 to one digit. What carries it: while the digits of h below a place roll over, the sum with the next number has there those of the other summand.
use Prim.Native.Nat.{ℕ, suc, ◌+◌, ◌*◌, ◌/◌, ◌%◌, ◌<◌, ◌≤◌}
use mathlib.Core.Path.{◌≡◌, refl, sym, ap, ap₂, ◌∙◌}
use mathlib.Core.Bool.{Bool}
use mathlib.Core.List.{List, [], ◌∷◌}
use native.Mathlib.Nat.{
  add_comm,
  add-mod-mod,
  add-mod_right,
  add-mul-div_left,
  add-mul-mod_self_left,
  div-add-mod,
  div-div-eq-div-mul,
  div-eq_of_lt,
  div-one,
  mod-lt,
  mod-mod,
  mod-one,
  mul_comm,
  mul-pos,
  one-mul,
  zero-add,
  zero-lt-suc,
}
use native.Mathlib.Numerals.{add-one}
use native.Mathlib.Omega.{arith}
use lib.Arith.{digits_div, digits_mod, mod-mul}
use lib.ListN.{get_or, take, drop, length-map}
use lib.Seq.{length-take-le}
use Rattle.action.specs.Arithmetic.{product}
use Rattle.action.specs.Lists.{below}
use Rattle.action.specs.Permutation.{Generator}
use Rattle.action.specs.Index.{order_of, add, digits, index, add_digits}
use Rattle.action.specs.Lattice.{shifted}
use Rattle.action.proofs.Lists.{length-below}
use Rattle.permutation.specs.Generators.{row_at, rows_of}
use Rattle.permutation.proofs.Products.{product-next}
use Rattle.permutation.proofs.Rules.{product_order}
use Rattle.elements.specs.HeldGroup.{generators_in, Tables}
use Rattle.elements.proofs.TableRows.{rest_at, rest_end, order-positive-at}
use Rattle.packed.specs.Packed.{rotated, keep_at, Mask}
use Rattle.rotation.proofs.Rotations.{rotated-add, rotated-whole, rotated-inside}
use Rattle.rotation.proofs.Moved.{lent, lent-keep}
use Rattle.grid.specs.Grid.{Steps}

-- ---- one digit

-- a sum, by its first digit and the others
add_cons : (g : Generator) (gs : List Generator) (h k : ℕ)
    → add (g ∷ gs) h k ≡ (h % g.order + k % g.order) % g.order + g.order * add gs (h / g.order) (k / g.order)
unfolding add digits index add_digits
add_cons g gs h k = refl

-- a shift along an axis whose places are p apart adds 1 to the digit there
module _ (p o k : ℕ) where
  shifted-split : shifted p o k ≡ k % p + p * ((k / p % o + 1) % o + o * (k / p / o))
  unfolding shifted
  shifted-split = rw (← div-div-eq-div-mul k p o) (omega arith)

  shifted-low : shifted p o k % p ≡ k % p
  shifted-low = rw (shifted-split, add-mul-mod_self_left) (mod-mod k p)

  shifted-high : 0 < p → shifted p o k / p ≡ (k / p % o + 1) % o + o * (k / p / o)
  shifted-high some =
      rw (shifted-split, add-mul-div_left (k % p) ((k / p % o + 1) % o + o * (k / p / o)) some, div-eq_of_lt (mod-lt k some)) (zero-add ((k / p % o + 1) % o + o * (k / p / o)))

-- a number whose digit does not roll over
module _ (o d : ℕ) (more : d % o + 1 < o) where
  -- its digit goes up by 1
  pub stays-digit : suc d % o ≡ suc (d % o)
  stays-digit =
      let e : suc d ≡ d / o * o + suc (d % o) = omega (arith, div-add-mod d o) in
      ap (λ (x : ℕ). x % o) e ∙ digits_mod (d / o) (omega arith)

  stays-rest : suc d / o ≡ d / o
  stays-rest =
      let e : suc d ≡ d / o * o + suc (d % o) = omega (arith, div-add-mod d o) in
      ap (λ (x : ℕ). x / o) e ∙ digits_div (d / o) (omega arith)

-- one whose digit does
module _ (o d : ℕ) (rolls : d % o + 1 ≡ o) where
  -- its digit becomes 0
  pub rolls-digit : suc d % o ≡ 0
  rolls-digit =
      let e : suc d ≡ suc (d / o) * o + 0 = omega (arith, div-add-mod d o) in
      ap (λ (x : ℕ). x % o) e ∙ digits_mod (suc (d / o)) (omega arith)

  rolls-rest : suc d / o ≡ suc (d / o)
  rolls-rest =
      let e : suc d ≡ suc (d / o) * o + 0 = omega (arith, div-add-mod d o) in
      ap (λ (x : ℕ). x / o) e ∙ digits_div (suc (d / o)) (omega arith)

module _ (g : Generator) (gs : List Generator) (d y : ℕ) (some : 0 < g.order) where
  -- 1 added to the first digit of a summand
  add-shifted : add (g ∷ gs) d ((y % g.order + 1) % g.order + g.order * (y / g.order))
      ≡ (d % g.order + (y % g.order + 1)) % g.order + g.order * add gs (d / g.order) (y / g.order)
  add-shifted =
      let o = g.order in
      let x = (y % o + 1) % o in
      let low : (x + o * (y / o)) % o ≡ x = add-mul-mod_self_left x o (y / o) ∙ mod-mod (y % o + 1) o in
      let high : (x + o * (y / o)) / o ≡ y / o =
      add-mul-div_left x (y / o) some ∙ ap (λ (z : ℕ). z + y / o) (div-eq_of_lt (mod-lt (y % o + 1) some)) ∙ zero-add (y / o) in
      add_cons g gs d (x + o * (y / o))
      ∙ ap₂ (λ (u v : ℕ). (d % o + u) % o + o * add gs (d / o) v) low high
      ∙ ap (λ (u : ℕ). u + o * add gs (d / o) (y / o)) (add-mod-mod (d % o) (y % o + 1) o)

  -- where the digit does not roll over that is the sum with the next number
  shifted-stays : d % g.order + 1 < g.order
      → add (g ∷ gs) d ((y % g.order + 1) % g.order + g.order * (y / g.order)) ≡ add (g ∷ gs) (suc d) y
  shifted-stays more =
      let o = g.order in
      let e : d % o + (y % o + 1) ≡ suc (d % o) + y % o = omega arith in
      add-shifted ∙ ap (λ (u : ℕ). u % o + o * add gs (d / o) (y / o)) e
      ∙ ap₂ (λ (u v : ℕ). (u + y % o) % o + o * add gs v (y / o)) (sym (stays-digit o d more)) (sym (stays-rest o d more))
      ∙ sym (add_cons g gs (suc d) y)

  -- where it does the first digit is that of the summand
  shifted-rolls : d % g.order + 1 ≡ g.order
      → add (g ∷ gs) d ((y % g.order + 1) % g.order + g.order * (y / g.order)) ≡ y % g.order + g.order * add gs (d / g.order) (y / g.order)
  shifted-rolls rolls =
      let o = g.order in
      let e : d % o + (y % o + 1) ≡ y % o + o = omega arith in
      add-shifted ∙ ap (λ (u : ℕ). u + o * add gs (d / o) (y / o)) (ap (λ (u : ℕ). u % o) e ∙ add-mod_right (y % o) o ∙ mod-mod y o)

  -- and so it is in the sum with the next number
  next-rolls : d % g.order + 1 ≡ g.order
      → add (g ∷ gs) (suc d) y ≡ y % g.order + g.order * add gs (suc (d / g.order)) (y / g.order)
  next-rolls rolls =
      let o = g.order in
      add_cons g gs (suc d) y
      ∙ ap₂ (λ (u v : ℕ). (u + y % o) % o + o * add gs v (y / o)) (rolls-digit o d rolls) (rolls-rest o d rolls)
      ∙ ap (λ (u : ℕ). u + o * add gs (suc (d / o)) (y / o)) (ap (λ (u : ℕ). u % o) (zero-add (y % o)) ∙ mod-mod y o)

-- ---- the digits from a place on

-- the sum of d and of k from place p on, with what k has below
unfoldable pub add_above : List Generator → ℕ → ℕ → ℕ → ℕ
add_above gs p d k = k % p + p * add gs d (k / p)

-- from the first place on it is the sum
above_first : (gs : List Generator) (d k : ℕ) → add_above gs 1 d k ≡ add gs d k
unfolding add_above
above_first gs d k = rw (mod-one, div-one, one-mul) (zero-add (add gs d k))

-- without a digit it is the rest by the place
above_end : (p d e k : ℕ) → add_above [] p d k ≡ add_above [] p e k
unfolding add_above add index
above_end p d e k = refl

-- one digit more of k that is kept
above_next : (gs : List Generator) (p o d k : ℕ) → 0 < p → 0 < o → k % p + p * (k / p % o + o * add gs d (k / p / o)) ≡ add_above gs (p * o) d k
unfolding add_above
above_next gs p o d k hp ho =
    rw (← div-div-eq-div-mul k p o)
    (let e = ap (λ (x : ℕ). k % x) (mul_comm p o) ∙ mod-mul k ho hp in omega arith)

module _ (g : Generator) (gs : List Generator) (p d k : ℕ) (some : 0 < p) (order : 0 < g.order) where
  above-shifted : add_above (g ∷ gs) p d (shifted p g.order k)
      ≡ k % p + p * add (g ∷ gs) d ((k / p % g.order + 1) % g.order + g.order * (k / p / g.order))
  unfolding add_above
  above-shifted = rw (shifted-low p g.order k, shifted-high p g.order k some)

  -- 1 added at a place where the digit does not roll over
  above-stays : d % g.order + 1 < g.order → add_above (g ∷ gs) p d (shifted p g.order k) ≡ add_above (g ∷ gs) p (suc d) k
  above-stays more = above-shifted ∙ unfold add_above in ap (λ (x : ℕ). k % p + p * x) (shifted-stays g gs d (k / p) order more)

  -- and where it does
  above-rolls : d % g.order + 1 ≡ g.order → add_above (g ∷ gs) p d (shifted p g.order k) ≡ add_above gs (p * g.order) (d / g.order) k
  above-rolls rolls =
      above-shifted
      ∙ ap (λ (x : ℕ). k % p + p * x) (shifted-rolls g gs d (k / p) order rolls)
      ∙ above_next gs p g.order (d / g.order) k some order

  -- the sum with the next number where it does
  above-suc : d % g.order + 1 ≡ g.order → add_above (g ∷ gs) p (suc d) k ≡ add_above gs (p * g.order) (suc (d / g.order)) k
  unfolding add_above
  above-suc rolls =
      ap (λ (x : ℕ). k % p + p * x) (next-rolls g gs d (k / p) order rolls)
      ∙ above_next gs p g.order (suc (d / g.order)) k some order

-- ---- the loop of a step

-- on the way from the o sums with h to those with the next number, whose bits are `old` before and `now` at place p: the digits of h below p roll over, d is
-- what h has above them, and 1 is added to each digit of the other summand below p
pub record Carried (gs : List Generator) (o h : ℕ) (old now : ℕ → Bool) (rest : List Generator) (p d : ℕ) : Type 0 where
  pub some : 0 < p
  pub next : (k : ℕ) → add gs (suc h) k ≡ add_above rest p (suc d) k
  pub bits : (f : ℕ → Bool) → ((k : ℕ) → k < o → old k ≡ f (add gs h k)) → (k : ℕ) → k < o → now k ≡ f (add_above rest p d k)

-- the bits of the o sums with h become those of the sums with the next number
abbrev pub StepsOn : List Generator → ℕ → ℕ → (ℕ → Bool) → (ℕ → Bool) → Type 0
StepsOn gs o h old now = (f : ℕ → Bool) → ((k : ℕ) → k < o → old k ≡ f (add gs h k)) → (k : ℕ) → k < o → now k ≡ f (add gs (suc h) k)

-- before the first generator
carried_start : (gs : List Generator) (o h : ℕ) (old : ℕ → Bool) → Carried gs o h old old gs 1 h
carried_start gs o h old = record {
  some = zero-lt-suc 0;
  next = λ k. sym (above_first gs (suc h) k);
  bits = λ f e k l. e k l ∙ ap f (sym (above_first gs h k));
}

module _ {gs : List Generator} {o h : ℕ} {old now : ℕ → Bool} where
  -- after the last
  carried-end : {p d : ℕ} → Carried gs o h old now [] p d → StepsOn gs o h old now
  carried-end {p} {d} c f e k l = c.bits f e k l ∙ ap f (above_end p d (suc d) k ∙ sym (c.next k))

  -- 1 added to the digit of the next generator
  module _ {g : Generator} {rest : List Generator} {p d : ℕ} (c : Carried gs o h old now (g ∷ rest) p d) (order : 0 < g.order)
      (inside : (k : ℕ) → k < o → shifted p g.order k < o) (new : ℕ → Bool) (turned : (k : ℕ) → k < o → new k ≡ now (shifted p g.order k)) where
    -- which rolls over
    carried-next : d % g.order + 1 ≡ g.order → Carried gs o h old new rest (p * g.order) (d / g.order)
    carried-next rolls = record {
      some = mul-pos c.some order;
      next = λ k. c.next k ∙ above-suc g rest p d k c.some order rolls;
      bits = λ f e k l. turned k l ∙ c.bits f e (shifted p g.order k) (inside k l) ∙ ap f (above-rolls g rest p d k c.some order rolls);
    }

    -- or not, and the step is done
    carried-last : (d % g.order + 1 ≡ g.order → ⊥) → StepsOn gs o h old new
    carried-last stays f e k l =
        let more : d % g.order + 1 < g.order = omega (arith, mod-lt d order) in
        turned k l ∙ c.bits f e (shifted p g.order k) (inside k l) ∙ ap f (above-stays g rest p d k c.some order more ∙ sym (c.next k))

-- ---- the generators of tables

-- the order of the group that tables hold is the product of their orders
pub tables_order : {k n : ℕ} {targets orders : List ℕ} → Tables k n targets orders → order_of (generators_in k n targets orders) ≡ product (take k orders)
unfolding generators_in rows_of
tables_order {k} {n} {targets} {orders} t =
    sym (product_order (rows_of k n targets) (take k orders)
    (length-map (below k) (row_at n targets) ∙ length-below k ∙ sym (length-take-le k orders (omega (arith, t.few, t.declared_orders)))))

-- before the first generator of tables
pub step_start : (gs : List Generator) (orders : List ℕ) (o h : ℕ) (old : ℕ → Bool) → Carried gs o h old old (drop 0 gs) (product (take 0 orders)) h
unfolding product
step_start gs orders o h old = carried_start gs o h old

module _ {k n order m : ℕ} {targets orders strides rests masks : List ℕ} (t : Tables k n targets orders)
    (all : order ≡ order_of (generators_in k n targets orders)) (s : Steps k order m orders strides rests masks) (g : ℕ) where
  -- after the last
  pub step_end : {h d : ℕ} {old now : ℕ → Bool} → k ≤ g
      → Carried (generators_in k n targets orders) order h old now (drop g (generators_in k n targets orders)) (product (take g orders)) d
      → StepsOn (generators_in k n targets orders) order h old now
  step_end h c = carried-end (rw (rest_end t g h) at c)

  module _ (h : g < k) where
    -- a generator's blocks are not empty
    pub block-some : 0 < get_or strides g 0 + get_or rests g 0
    block-some = omega (arith, s.axes.some g h)

    -- and make up all candidates
    pub block-whole : order % (get_or strides g 0 + get_or rests g 0) ≡ 0
    block-whole = rw (all, tables_order t) (s.axes.whole g h)

    -- the mask that it is lent
    pub block-keep : Mask (keep_at (get_or rests g 0) (get_or strides g 0 + get_or rests g 0) order) (lent m g masks)
    block-keep = rw (add_comm (get_or strides g 0) (get_or rests g 0)) (lent-keep t.few s.kept g h)

    shift-inside : (q : ℕ) → q < order → shifted (product (take g orders)) (get_or orders g 0) q < order
    shift-inside q l =
        rw (← s.axes.shifts g h q) (rotated-inside order (get_or strides g 0 + get_or rests g 0) block-some block-whole (get_or strides g 0) q l)

    -- bits that were rotated by what is missing to a block come from the shift
    rotated-shift : (old new : ℕ → Bool) → ((q : ℕ) → q < order → new (rotated (get_or rests g 0) (get_or strides g 0 + get_or rests g 0) q) ≡ old q)
        → (q : ℕ) → q < order → new q ≡ old (shifted (product (take g orders)) (get_or orders g 0) q)
    rotated-shift old new moved q l =
        let b = get_or strides g 0 + get_or rests g 0 in
        let r = rotated (get_or strides g 0) b q in
        ap new (sym (rotated-add b block-some (get_or strides g 0) (get_or rests g 0) q ∙ rotated-whole b q))
        ∙ moved r (rotated-inside order b block-some block-whole (get_or strides g 0) q l)
        ∙ ap old (s.axes.shifts g h q)

    module _ {i d : ℕ} {old now : ℕ → Bool} (new : ℕ → Bool)
        (c : Carried (generators_in k n targets orders) order i old now (drop g (generators_in k n targets orders)) (product (take g orders)) d)
        (moved : (q : ℕ) → q < order → new (rotated (get_or rests g 0) (get_or strides g 0 + get_or rests g 0) q) ≡ now q) where
      -- a digit that rolls over: on to the next generator
      pub step-next : d % get_or orders g 0 + 1 ≡ get_or orders g 0
          → Carried (generators_in k n targets orders) order i old new (drop (g + 1) (generators_in k n targets orders)) (product (take (g + 1) orders)) (d / get_or orders g 0)
      step-next rolls =
          rw (add-one g, product-next orders g (omega (arith, t.few, t.declared_orders)))
          (rw (add-one g) at (carried-next (rw (rest_at t g h) at c) (order-positive-at t g h) shift-inside new (rotated-shift now new moved) rolls))

      -- one that does not: the step is done
      pub step-last : (d % get_or orders g 0 + 1 ≡ get_or orders g 0 → ⊥) → StepsOn (generators_in k n targets orders) order i old new
      step-last stays = carried-last (rw (rest_at t g h) at c) (order-positive-at t g h) shift-inside new (rotated-shift now new moved) stays
