-- The loops over a counter: whether its digits are below the orders, from generator g on, and the index of its digits from generator g on.
use Prim.Native.Nat.{ℕ, zero, suc, ◌+◌, ◌-◌, ◌*◌, ◌≤◌, ◌<◌}
use mathlib.Core.Path.{◌≡◌, sym, ◌∙◌}
use mathlib.Core.Bool.{true, false}
use mathlib.Core.List.{List, [], ◌∷◌}
use native.Mathlib.Nat.{le-mul_of_pos_right, mul_comm}
use native.Mathlib.Numerals.{add-one}
use native.Mathlib.Omega.{arith}
use lib.ListN.{length, get_or, drop}
use lib.Seq.{drop-cons}
use borrow.Author.Tests.{lt-ltb, le-ltb}
use Rattle.action.specs.Permutation.{Generator}
use Rattle.action.specs.Index.{order_of, digits_below, Digits, index}
use Rattle.action.proofs.Index.{Positive, index_below, valid_positive, digits-length}
use Rattle.permutation.specs.Limits.{max_order}
use Rattle.elements.specs.HeldGroup.{generators_in, Tables}
use Rattle.elements.proofs.TableRows.{generators-length, rest_at, rest_end}

-- what is left of digits are digits of the generators that are left
digits-drop : (g : ℕ) (gs : List Generator) (cs : List ℕ) → Digits gs cs → Digits (drop g gs) (drop g cs)
digits-drop zero gs cs d = d
digits-drop (suc g) [] [] d = tt
digits-drop (suc g) [] (c ∷ cs) d = absurd d
digits-drop (suc g) (f ∷ gs) [] d = absurd d
digits-drop (suc g) (f ∷ gs) (c ∷ cs) d = digits-drop g gs cs d.1

-- the order of what is left is at most that of all
order_drop : (g : ℕ) (gs : List Generator) → Positive gs → order_of (drop g gs) ≤ order_of gs
unfolding order_of
order_drop zero gs p = omega arith
order_drop (suc g) [] p = omega arith
order_drop (suc g) (f ∷ gs) p = omega (arith, order_drop g gs p.1, le-mul_of_pos_right (order_of gs) p.0, mul_comm (order_of gs) f.order)

module _ {k n : ℕ} {targets orders : List ℕ} (t : Tables k n targets orders) (cs : List ℕ) where
  -- the digits from generator g on
  rest-digits : (g : ℕ) → length cs ≡ k → g < k → drop g cs ≡ get_or cs g 0 ∷ drop (g + 1) cs
  rest-digits g long h = drop-cons cs g 0 (rw long h) ∙ rw (add-one g)

  pub below_next : (g : ℕ) → length cs ≡ k → g < k → get_or cs g 0 < get_or orders g 0
      → digits_below (drop (g + 1) (generators_in k n targets orders)) (drop (g + 1) cs) ≡ digits_below (drop g (generators_in k n targets orders)) (drop g cs)
  unfolding digits_below
  below_next g long h less = sym (rw (rest_at t g h, rest-digits g long h, lt-ltb (get_or cs g 0) (get_or orders g 0) less))

  pub below_fails : (g : ℕ) → length cs ≡ k → g < k → get_or orders g 0 ≤ get_or cs g 0
      → digits_below (drop g (generators_in k n targets orders)) (drop g cs) ≡ false
  unfolding digits_below
  below_fails g long h less = rw (rest_at t g h, rest-digits g long h, le-ltb (get_or cs g 0) (get_or orders g 0) less)

  pub below_end : (g : ℕ) → k ≤ g → digits_below (drop g (generators_in k n targets orders)) (drop g cs) ≡ true
  unfolding digits_below
  below_end g h = rw (rest_end t g h)

  pub digits_long : Digits (generators_in k n targets orders) cs → length cs ≡ k
  digits_long d = digits-length (generators_in k n targets orders) cs d ∙ generators-length t

  pub index-start : (g : ℕ) → k ≤ g → index (drop g (generators_in k n targets orders)) (drop g cs) ≡ 0
  unfolding index
  index-start g h = rw (rest_end t g h)

  -- one digit more, from the last one on
  pub index-next : (g : ℕ) → length cs ≡ k → 0 < g → g ≤ k
      → get_or cs (g - 1) 0 + get_or orders (g - 1) 0 * index (drop g (generators_in k n targets orders)) (drop g cs)
      ≡ index (drop (g - 1) (generators_in k n targets orders)) (drop (g - 1) cs)
  unfolding index
  index-next g long p h =
      let e : g - 1 + 1 ≡ g = omega arith in
      rw (rest_at t (g - 1) (omega arith), rest-digits (g - 1) long (omega arith), e)

  pub index-small : (g : ℕ) → Digits (generators_in k n targets orders) cs → index (drop g (generators_in k n targets orders)) (drop g cs) ≤ max_order
  index-small g d =
      let gs = generators_in k n targets orders in
      omega (arith, index_below (drop g gs) (drop g cs) (digits-drop g gs cs d), order_drop g gs (valid_positive t.valid), t.small)
