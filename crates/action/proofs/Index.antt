-- Indices and digits stand for one another, and `add` and `inverse` make a commutative group of the indices below the order.
-- What carries it: an index is its digits in mixed radix (`index-digits`, `digits-index`), so that each law holds digit by digit.
use Prim.Native.Nat.{ℕ, ◌+◌, ◌-◌, ◌*◌, ◌/◌, ◌%◌, ◌<◌, suc}
use mathlib.Core.Path.{◌≡◌, refl, sym, ◌∙◌, ap, ap₂}
use mathlib.Core.Logic.{inl, inr}
use mathlib.Core.Bool.{true, and-eq-true_iff}
use mathlib.Core.List.{List, [], ◌∷◌}
use native.Mathlib.Nat.{
  add-mod-mod,
  add-mul-div_left,
  add-mul-mod_self_left,
  div-eq_of_lt,
  div-lt_iff_lt-mul,
  mod-add-div,
  mod-add-mod,
  mod-eq_of_lt,
  mod-lt,
  mod_self,
  mul_comm,
  mul-div_right,
  mul-mod_right,
  mul-pos,
  zero-add,
  zero-div,
  zero-lt-suc,
  zero-mod,
}
use native.Mathlib.Nat.{add_assoc as sum-assoc, add_comm as sum_comm, add-zero as sum-zero}
use native.Mathlib.Omega.{arith}
use lib.Dec.{ltb}
use borrow.Author.Tests.{ltb-true, lt-ltb}
use lib.Arith.{digits_lt}
use Rattle.action.specs.Lists.{Member}
use Rattle.action.specs.Permutation.{Generator, Valid}
use Rattle.action.specs.Index.{order_of, digits, index, add_digits, add, inverse_digits, inverse, Digits, digits_below}
use Rattle.action.proofs.ExactOrders.{order_positive}
use lib.ListN.{length}

-- every order is positive
abbrev pub Positive : List Generator → Type 0
Positive [] = Unit {0}
Positive (g ∷ gs) = (0 < g.order) × Positive gs

positive_intro : (gs : List Generator) → ((g : Generator) → Member g gs → 0 < g.order) → Positive gs
positive_intro [] h = tt
positive_intro (g ∷ gs) h = (h g (inl refl), positive_intro gs (λ f m. h f (inr m)))

pub digits-length : (gs : List Generator) (cs : List ℕ) → Digits gs cs → length cs ≡ length gs
digits-length [] [] h = refl
digits-length [] (c ∷ cs) h = absurd h
digits-length (g ∷ gs) [] h = absurd h
digits-length (g ∷ gs) (c ∷ cs) h = ap suc (digits-length gs cs h.1)

pub valid_positive : {n : ℕ} {gs : List Generator} → Valid n gs → Positive gs
valid_positive {gs = gs} v = positive_intro gs (λ g m. rw (v.exact g m) (order_positive g.perm))

pub order_of_positive : (gs : List Generator) → Positive gs → 0 < order_of gs
unfolding order_of
order_of_positive [] p = zero-lt-suc 0
order_of_positive (g ∷ gs) p = mul-pos p.0 (order_of_positive gs p.1)

-- an index and its digits

pub digits_proper : (gs : List Generator) → Positive gs → (i : ℕ) → Digits gs (digits gs i)
unfolding digits
digits_proper [] p i = tt
digits_proper (g ∷ gs) p i = (mod-lt i p.0, digits_proper gs p.1 (i / g.order))

pub index_below : (gs : List Generator) (cs : List ℕ) → Digits gs cs → index gs cs < order_of gs
unfolding index order_of
index_below [] cs d = zero-lt-suc 0
index_below (g ∷ gs) [] d = absurd d
index_below (g ∷ gs) (c ∷ cs) d =
    rw (sum_comm c (g.order * index gs cs), mul_comm g.order (index gs cs), mul_comm g.order (order_of gs)) (digits_lt (index_below gs cs d.1) d.0)

pub index-digits : (gs : List Generator) → Positive gs → (i : ℕ) → i < order_of gs → index gs (digits gs i) ≡ i
unfolding digits index order_of
index-digits [] p i h = omega arith
index-digits (g ∷ gs) p i h =
    rw (index-digits gs p.1 (i / g.order) ((div-lt_iff_lt-mul p.0).1 (rw (mul_comm g.order (order_of gs)) at h))) (mod-add-div i g.order)

pub digits-index : (gs : List Generator) → Positive gs → (cs : List ℕ) → Digits gs cs → digits gs (index gs cs) ≡ cs
unfolding digits index
digits-index [] p [] d = refl
digits-index [] p (c ∷ cs) d = absurd d
digits-index (g ∷ gs) p [] d = absurd d
digits-index (g ∷ gs) p (c ∷ cs) d =
    rw (add-mul-mod_self_left, add-mul-div_left c (index gs cs) p.0, mod-eq_of_lt d.0, div-eq_of_lt d.0, zero-add)
    (ap (λ (ds : List ℕ). c ∷ ds) (digits-index gs p.1 cs d.1))

-- a counter with a digit for each generator, each below its order, holds digits, and no other does
pub below-digits : (gs : List Generator) (cs : List ℕ) → length cs ≡ length gs → digits_below gs cs ≡ true → Digits gs cs
unfolding digits_below
below-digits [] [] long h = tt
below-digits [] (c ∷ cs) long h = omega arith
below-digits (g ∷ gs) [] long h = omega arith
below-digits (g ∷ gs) (c ∷ cs) long h =
    let both = (and-eq-true_iff (ltb c g.order) (digits_below gs cs)).0 h in (ltb-true c g.order both.0, below-digits gs cs (omega arith) both.1)

pub digits-below : (gs : List Generator) (cs : List ℕ) → Digits gs cs → digits_below gs cs ≡ true
unfolding digits_below
digits-below [] cs d = refl
digits-below (g ∷ gs) [] d = refl
digits-below (g ∷ gs) (c ∷ cs) d = (and-eq-true_iff (ltb c g.order) (digits_below gs cs)).1 (lt-ltb c g.order d.0, digits-below gs cs d.1)

-- the first index past the last has the digits of 0
pub digits_order : (gs : List Generator) → Positive gs → digits gs (order_of gs) ≡ digits gs 0
unfolding digits order_of
digits_order [] p = refl
digits_order (g ∷ gs) p = simp (mul-mod_right, mul-div_right (order_of gs) p.0, zero-mod, zero-div, digits_order gs p.1)

-- the laws digit by digit

pub add_digits_proper : (gs : List Generator) → Positive gs → (cs ds : List ℕ) → Digits gs cs → Digits gs ds → Digits gs (add_digits gs cs ds)
unfolding add_digits
add_digits_proper [] p cs ds u v = tt
add_digits_proper (g ∷ gs) p [] ds u v = absurd u
add_digits_proper (g ∷ gs) p (c ∷ cs) [] u v = absurd v
add_digits_proper (g ∷ gs) p (c ∷ cs) (d ∷ ds) u v = (mod-lt (c + d) p.0, add_digits_proper gs p.1 cs ds u.1 v.1)

pub inverse_digits_proper : (gs : List Generator) → Positive gs → (cs : List ℕ) → Digits gs cs → Digits gs (inverse_digits gs cs)
unfolding inverse_digits
inverse_digits_proper [] p cs u = tt
inverse_digits_proper (g ∷ gs) p [] u = absurd u
inverse_digits_proper (g ∷ gs) p (c ∷ cs) u = (mod-lt (g.order - c) p.0, inverse_digits_proper gs p.1 cs u.1)

pub add_digits_comm : (gs : List Generator) (cs ds : List ℕ) → add_digits gs cs ds ≡ add_digits gs ds cs
unfolding add_digits
add_digits_comm [] cs ds = refl
add_digits_comm (g ∷ gs) [] [] = refl
add_digits_comm (g ∷ gs) [] (d ∷ ds) = refl
add_digits_comm (g ∷ gs) (c ∷ cs) [] = refl
add_digits_comm (g ∷ gs) (c ∷ cs) (d ∷ ds) = ap₂ ◌∷◌ (ap (λ (k : ℕ). k % g.order) (sum_comm c d)) (add_digits_comm gs cs ds)

pub add_digits_assoc : (gs : List Generator) (cs ds es : List ℕ) → add_digits gs (add_digits gs cs ds) es ≡ add_digits gs cs (add_digits gs ds es)
unfolding add_digits
add_digits_assoc [] cs ds es = refl
add_digits_assoc (g ∷ gs) [] ds es = refl
add_digits_assoc (g ∷ gs) (c ∷ cs) [] es = refl
add_digits_assoc (g ∷ gs) (c ∷ cs) (d ∷ ds) [] = refl
add_digits_assoc (g ∷ gs) (c ∷ cs) (d ∷ ds) (e ∷ es) = ap₂ ◌∷◌ (simp (mod-add-mod, add-mod-mod, sum-assoc)) (add_digits_assoc gs cs ds es)

pub add_digits-zero : (gs : List Generator) (cs : List ℕ) → Digits gs cs → add_digits gs cs (digits gs 0) ≡ cs
unfolding add_digits digits
add_digits-zero [] [] u = refl
add_digits-zero [] (c ∷ cs) u = absurd u
add_digits-zero (g ∷ gs) [] u = absurd u
add_digits-zero (g ∷ gs) (c ∷ cs) u = simp (zero-mod, zero-div, sum-zero, mod-eq_of_lt u.0, add_digits-zero gs cs u.1)

pub add_digits-inverse : (gs : List Generator) (cs : List ℕ) → Digits gs cs → add_digits gs cs (inverse_digits gs cs) ≡ digits gs 0
unfolding add_digits inverse_digits digits
add_digits-inverse [] cs u = refl
add_digits-inverse (g ∷ gs) [] u = absurd u
add_digits-inverse (g ∷ gs) (c ∷ cs) u =
    let whole : c + (g.order - c) ≡ g.order = omega arith in
    simp (zero-mod, zero-div, add-mod-mod, whole, mod_self, add_digits-inverse gs cs u.1)

-- the laws of indices

pub add_comm : (gs : List Generator) (i j : ℕ) → add gs i j ≡ add gs j i
unfolding add
add_comm gs i j = ap (index gs) (add_digits_comm gs (digits gs i) (digits gs j))

module _ (gs : List Generator) (p : Positive gs) where
  sum-proper : (i j : ℕ) → Digits gs (add_digits gs (digits gs i) (digits gs j))
  sum-proper i j = add_digits_proper gs p (digits gs i) (digits gs j) (digits_proper gs p i) (digits_proper gs p j)

  pub add-below : (i j : ℕ) → add gs i j < order_of gs
  unfolding add
  add-below i j = index_below gs (add_digits gs (digits gs i) (digits gs j)) (sum-proper i j)

  pub digits-add : (i j : ℕ) → digits gs (add gs i j) ≡ add_digits gs (digits gs i) (digits gs j)
  unfolding add
  digits-add i j = digits-index gs p (add_digits gs (digits gs i) (digits gs j)) (sum-proper i j)

  opposite-proper : (i : ℕ) → Digits gs (inverse_digits gs (digits gs i))
  opposite-proper i = inverse_digits_proper gs p (digits gs i) (digits_proper gs p i)

  pub inverse-below : (i : ℕ) → inverse gs i < order_of gs
  unfolding inverse
  inverse-below i = index_below gs (inverse_digits gs (digits gs i)) (opposite-proper i)

  pub digits-inverse : (i : ℕ) → digits gs (inverse gs i) ≡ inverse_digits gs (digits gs i)
  unfolding inverse
  digits-inverse i = digits-index gs p (inverse_digits gs (digits gs i)) (opposite-proper i)

  pub add_assoc : (i j k : ℕ) → add gs (add gs i j) k ≡ add gs i (add gs j k)
  unfolding add
  add_assoc i j k =
      ap (index gs) (ap (λ (cs : List ℕ). add_digits gs cs (digits gs k)) (digits-add i j)
      ∙ add_digits_assoc gs (digits gs i) (digits gs j) (digits gs k)
      ∙ ap (add_digits gs (digits gs i)) (sym (digits-add j k)))

  pub add-zero : (i : ℕ) → i < order_of gs → add gs i 0 ≡ i
  unfolding add
  add-zero i h = ap (index gs) (add_digits-zero gs (digits gs i) (digits_proper gs p i)) ∙ index-digits gs p i h

  pub add-inverse : (i : ℕ) → add gs i (inverse gs i) ≡ 0
  unfolding add
  add-inverse i =
      ap (index gs) (ap (add_digits gs (digits gs i)) (digits-inverse i) ∙ add_digits-inverse gs (digits gs i) (digits_proper gs p i))
      ∙ index-digits gs p 0 (order_of_positive gs p)

  -- adding an index and then its inverse, or the inverse first, changes nothing
  pub add-undo : (i k : ℕ) → i < order_of gs → add gs (add gs i k) (inverse gs k) ≡ i
  add-undo i k h = cc (add_assoc i k (inverse gs k), add-inverse k, add-zero i h)

  pub add-redo : (i k : ℕ) → i < order_of gs → add gs (add gs i (inverse gs k)) k ≡ i
  add-redo i k h = cc (add_assoc i (inverse gs k) k, add_comm gs (inverse gs k) k, add-inverse k, add-zero i h)

  pub index-add : (cs ds : List ℕ) → Digits gs cs → Digits gs ds → index gs (add_digits gs cs ds) ≡ add gs (index gs cs) (index gs ds)
  unfolding add
  index-add cs ds h k = ap₂ (λ (x y : List ℕ). index gs (add_digits gs x y)) (sym (digits-index gs p cs h)) (sym (digits-index gs p ds k))
