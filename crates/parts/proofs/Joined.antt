-- Indices of the whole and indices of the parts stand for one another: an index of the whole is joined from exactly one pair, the larger from larger ones,
-- and it reaches what the one reaches after the other. What carries it: digit by digit both are the same digits.
use Prim.Native.Nat.{ℕ, zero, suc, ◌+◌, ◌-◌, ◌*◌, ◌/◌, ◌%◌, ◌≤◌, ◌<◌}
use mathlib.Core.Path.{◌≡◌, refl, sym, ◌∙◌, ap, ap₂}
use mathlib.Core.Logic.{◌⊎◌, inl, inr}
use mathlib.Core.List.{List, [], ◌∷◌}
use native.Mathlib.Nat.{le-div_iff_mul-le, mul-suc, mul-mod_right, mul-div_right, add-mul-div_left, add-mul-mod_self_left, div-eq_of_lt, div-lt_iff_lt-mul, mod-add-div, mod-eq_of_lt, mod-lt, mod-mod, mul_assoc, mul_comm, mul-pos, mul-zero, zero-add, zero-div, zero-mod, mul-le-mul_left}
use native.Mathlib.Decide.{dec_lt}
use native.Mathlib.Omega.{arith}
use lib.Arith.{digits_lt}
use lib.ListN.{length}
use Rattle.pauli_word.specs.Word.{Word}
use Rattle.action.specs.Lists.{Member}
use Rattle.action.specs.Permutation.{Generator, Valid}
use Rattle.action.specs.Index.{order_of, digits, index, inverse_digits, inverse}
use Rattle.action.specs.Orbit.{moves, by_digits, reach}
use Rattle.action.proofs.Index.{Positive, valid_positive}
use Rattle.action.proofs.Move.{moves-length}
use Rattle.action.proofs.Reach.{reach-zero, reach-comm}
use Rattle.parts.specs.Parts.{Interleaved, none, first, second, joined}

-- ---- the parts' members

pub of_first_lem : {gs fs hs : List Generator} → Interleaved gs fs hs → (g : Generator) → Member g fs → Member g gs
of_first_lem none g m = m
of_first_lem (first s) g (inl e) = inl e
of_first_lem (first s) g (inr m) = inr (of_first_lem s g m)
of_first_lem (second s) g m = inr (of_first_lem s g m)

pub of_second_lem : {gs fs hs : List Generator} → Interleaved gs fs hs → (g : Generator) → Member g hs → Member g gs
of_second_lem none g m = m
of_second_lem (first s) g m = inr (of_second_lem s g m)
of_second_lem (second s) g (inl e) = inl e
of_second_lem (second s) g (inr m) = inr (of_second_lem s g m)

-- a part of valid generators is valid
pub first_valid : {n : ℕ} {gs fs hs : List Generator} → Interleaved gs fs hs → Valid n gs → Valid n fs
first_valid s v = record {
  permutes = λ g m. v.permutes g (of_first_lem s g m);
  exact = λ g m. v.exact g (of_first_lem s g m);
  commute = λ g h k m. v.commute g h (of_first_lem s g k) (of_first_lem s h m);
}

pub second_valid : {n : ℕ} {gs fs hs : List Generator} → Interleaved gs fs hs → Valid n gs → Valid n hs
second_valid s v = record {
  permutes = λ g m. v.permutes g (of_second_lem s g m);
  exact = λ g m. v.exact g (of_second_lem s g m);
  commute = λ g h k m. v.commute g h (of_second_lem s g k) (of_second_lem s h m);
}

-- all generators, beside none
pub whole : (gs : List Generator) → Interleaved gs [] gs
whole [] = none
whole (g ∷ gs) = second (whole gs)

pub valid_rest : {n : ℕ} {g : Generator} {gs : List Generator} → Valid n (g ∷ gs) → Valid n gs
valid_rest {g = g} {gs = gs} v = second_valid (first {g = g} (whole gs)) v

-- the parts may be exchanged
pub exchanged : {gs fs hs : List Generator} → Interleaved gs fs hs → Interleaved gs hs fs
exchanged none = none
exchanged (first s) = second (exchanged s)
exchanged (second s) = first (exchanged s)

pub joined-exchanged : {gs fs hs : List Generator} (s : Interleaved gs fs hs) (i j : ℕ) → joined (exchanged s) j i ≡ joined s i j
unfolding joined exchanged
joined-exchanged none i j = refl
joined-exchanged (first {g = g} s) i j = ap (λ (r : ℕ). i % g.order + g.order * r) (joined-exchanged s (i / g.order) j)
joined-exchanged (second {g = g} s) i j = ap (λ (r : ℕ). j % g.order + g.order * r) (joined-exchanged s i (j / g.order))

-- ---- orders and bounds

pub order_joined : {gs fs hs : List Generator} → Interleaved gs fs hs → order_of gs ≡ order_of fs * order_of hs
unfolding order_of
order_joined none = refl
order_joined (first {g = g} {fs = fs} {hs = hs} s) = rw (order_joined s) (sym (mul_assoc g.order (order_of fs) (order_of hs)))
order_joined (second {g = g} {fs = fs} {hs = hs} s) =
    rw (order_joined s) (sym (mul_assoc g.order (order_of fs) (order_of hs)) ∙ ap (λ (x : ℕ). x * order_of hs) (mul_comm g.order (order_of fs)) ∙ mul_assoc (order_of fs) g.order (order_of hs))

-- what stands behind the first digit of an index below an order
pub rest_below : (o m i : ℕ) → 0 < o → i < o * m → i / o < m
rest_below o m i some h = (div-lt_iff_lt-mul some).1 (rw (mul_comm o m) at h)

-- a digit and what stands behind it
front : (o c r m : ℕ) → c < o → r < m → c + o * r < o * m
front o c r m h k = let l = digits_lt k h in omega (arith, mul_comm o r, mul_comm o m, l)

pub joined-below : {gs fs hs : List Generator} (s : Interleaved gs fs hs) → Positive gs → (i j : ℕ) → joined s i j < order_of gs
unfolding joined order_of
joined-below none p i j = omega arith
joined-below (first {g = g} {gs = gs} s) p i j = front g.order (i % g.order) (joined s (i / g.order) j) (order_of gs) (mod-lt i p.0) (joined-below s p.1 (i / g.order) j)
joined-below (second {g = g} {gs = gs} s) p i j = front g.order (j % g.order) (joined s i (j / g.order)) (order_of gs) (mod-lt j p.0) (joined-below s p.1 i (j / g.order))

-- the first digit of a number and what stands behind it
pub front-mod : (o i r : ℕ) → 0 < o → (i % o + o * r) % o ≡ i % o
front-mod o i r some = add-mul-mod_self_left (i % o) o r ∙ mod-eq_of_lt (mod-lt i some)

pub front-div : (o i r : ℕ) → 0 < o → (i % o + o * r) / o ≡ r
front-div o i r some = add-mul-div_left (i % o) r some ∙ ap (λ (x : ℕ). x + r) (div-eq_of_lt (mod-lt i some)) ∙ zero-add r

-- ---- the parts of an index

-- the index of the first part that has the digits of e there
pub in_first : {gs fs hs : List Generator} → Interleaved gs fs hs → ℕ → ℕ
in_first none e = 0
in_first (first {g = g} s) e = e % g.order + g.order * in_first s (e / g.order)
in_first (second {g = g} s) e = in_first s (e / g.order)

pub in_first-joined : {gs fs hs : List Generator} (s : Interleaved gs fs hs) → Positive gs → (i j : ℕ) → i < order_of fs → in_first s (joined s i j) ≡ i
unfolding joined in_first order_of
in_first-joined none p i j h = omega arith
in_first-joined (first {g = g} {fs = fs} s) p i j h =
    let o = g.order in
    let r = joined s (i / o) j in
    rw (front-mod o i r p.0, front-div o i r p.0, in_first-joined s p.1 (i / o) j (rest_below o (order_of fs) i p.0 h)) (mod-add-div i o)
in_first-joined (second {g = g} s) p i j h = rw (front-div g.order j (joined s i (j / g.order)) p.0) (in_first-joined s p.1 i (j / g.order) h)

-- what an index of the second part has there: by exchange
pub in_second : {gs fs hs : List Generator} → Interleaved gs fs hs → ℕ → ℕ
in_second s e = in_first (exchanged s) e

pub in_second-joined : {gs fs hs : List Generator} (s : Interleaved gs fs hs) → Positive gs → (i j : ℕ) → j < order_of hs → in_second s (joined s i j) ≡ j
unfolding in_second
in_second-joined s p i j h = rw (← joined-exchanged s i j) (in_first-joined (exchanged s) p j i h)

pub in_first-below : {gs fs hs : List Generator} (s : Interleaved gs fs hs) → Positive gs → (e : ℕ) → in_first s e < order_of fs
unfolding in_first order_of
in_first-below none p e = omega arith
in_first-below (first {g = g} {fs = fs} s) p e = front g.order (e % g.order) (in_first s (e / g.order)) (order_of fs) (mod-lt e p.0) (in_first-below s p.1 (e / g.order))
in_first-below (second {g = g} s) p e = in_first-below s p.1 (e / g.order)

pub in_second-below : {gs fs hs : List Generator} (s : Interleaved gs fs hs) → Positive gs → (e : ℕ) → in_second s e < order_of hs
unfolding in_second
in_second-below s p e = in_first-below (exchanged s) p e

-- every index of the whole is joined from its parts
pub joined_parts : {gs fs hs : List Generator} (s : Interleaved gs fs hs) → Positive gs → (e : ℕ) → e < order_of gs → joined s (in_first s e) (in_second s e) ≡ e
unfolding joined in_first in_second exchanged order_of
joined_parts none p e h = omega arith
joined_parts (first {g = g} {gs = gs} s) p e h =
    let o = g.order in
    rw (front-mod o e (in_first s (e / o)) p.0, front-div o e (in_first s (e / o)) p.0, joined_parts s p.1 (e / o) (rest_below o (order_of gs) e p.0 h)) (mod-add-div e o)
joined_parts (second {g = g} {gs = gs} s) p e h =
    let o = g.order in
    let r = in_first (exchanged s) (e / o) in
    rw (front-mod o e r p.0, front-div o e r p.0, joined_parts s p.1 (e / o) (rest_below o (order_of gs) e p.0 h)) (mod-add-div e o)

-- ---- larger parts make larger indices

-- an index whose rest is larger is larger, whatever its first digit
front_less : (o c r d t : ℕ) → c < o → r < t → c + o * r < d + o * t
front_less o c r d t h k =
    let whole : o * suc r ≤ o * t = mul-le-mul_left o k in
    omega (arith, mul-suc o r)

-- the first digit decides where the rests are the same
same_rest : (o i j : ℕ) → 0 < o → i ≤ j → i / o ≡ j / o → i % o ≤ j % o
same_rest o i j some h e = omega (arith, mod-add-div i o, mod-add-div j o, ap (λ (x : ℕ). o * x) e)

rest_le : (o i j : ℕ) → 0 < o → i ≤ j → i / o ≤ j / o
rest_le o i j some h = (le-div_iff_mul-le some).1 (omega (arith, mod-add-div i o, mul_comm o (i / o)))

-- of two indices with a first digit each, the one with the larger rest is the larger, and the digit decides where the rests are the same
front_le : (o i k r t : ℕ) → 0 < o → i ≤ k → r ≤ t → (r ≡ t → i / o ≡ k / o) → i % o + o * r ≤ k % o + o * t
front_le o i k r t some h m same = go (dec_lt r t)
  where
    go : Dec (r < t) → i % o + o * r ≤ k % o + o * t
    go (yes less) = let l = front_less o (i % o) r (k % o) t (mod-lt i some) less in omega arith
    go (no not-less) =
        let e : r ≡ t = omega arith in
        omega (arith, same_rest o i k some h (same e), ap (λ (x : ℕ). o * x) e)

pub joined_le : {gs fs hs : List Generator} (s : Interleaved gs fs hs) → Positive gs → (i k j l : ℕ) → k < order_of fs → l < order_of hs
    → i ≤ k → j ≤ l → joined s i j ≤ joined s k l
unfolding joined order_of
joined_le none p i k j l h m a b = omega arith
joined_le (first {g = g} {fs = fs} s) p i k j l h m a b =
    let o = g.order in
    let small : k / o < order_of fs = rest_below o (order_of fs) k p.0 h in
    let below : i / o < order_of fs = rest_below o (order_of fs) i p.0 (omega arith) in
    front_le o i k (joined s (i / o) j) (joined s (k / o) l) p.0 a
    (joined_le s p.1 (i / o) (k / o) j l small m (rest_le o i k p.0 a) b)
    (λ e. sym (in_first-joined s p.1 (i / o) j below) ∙ ap (in_first s) e ∙ in_first-joined s p.1 (k / o) l small)
joined_le (second {g = g} {hs = hs} s) p i k j l h m a b =
    let o = g.order in
    let small : l / o < order_of hs = rest_below o (order_of hs) l p.0 m in
    let below : j / o < order_of hs = rest_below o (order_of hs) j p.0 (omega arith) in
    front_le o j l (joined s i (j / o)) (joined s k (l / o)) p.0 b
    (joined_le s p.1 i k (j / o) (l / o) h small a (rest_le o j l p.0 b))
    (λ e. sym (in_second-joined s p.1 i (j / o) below) ∙ ap (in_second s) e ∙ in_second-joined s p.1 k (l / o) small)

-- ---- 0 and inverses

pub joined-zero : {gs fs hs : List Generator} (s : Interleaved gs fs hs) → Positive gs → joined s 0 0 ≡ 0
unfolding joined
joined-zero none p = refl
joined-zero (first {g = g} s) p = rw (zero-mod g.order, zero-div g.order, joined-zero s p.1, mul-zero g.order) (omega arith)
joined-zero (second {g = g} s) p = rw (zero-mod g.order, zero-div g.order, joined-zero s p.1, mul-zero g.order) (omega arith)

pub inverse-joined : {gs fs hs : List Generator} (s : Interleaved gs fs hs) → Positive gs → (i j : ℕ)
    → inverse gs (joined s i j) ≡ joined s (inverse fs i) (inverse hs j)
unfolding joined inverse digits index inverse_digits
inverse-joined none p i j = refl
inverse-joined (first {g = g} {gs = gs} {fs = fs} {hs = hs} s) p i j =
    let o = g.order in
    let r = joined s (i / o) j in
    rw (front-mod o i r p.0, front-div o i r p.0, front-mod o (o - i % o) (inverse fs (i / o)) p.0, front-div o (o - i % o) (inverse fs (i / o)) p.0)
    (ap (λ (x : ℕ). (o - i % o) % o + o * x) (inverse-joined s p.1 (i / o) j))
inverse-joined (second {g = g} {gs = gs} {fs = fs} {hs = hs} s) p i j =
    let o = g.order in
    let r = joined s i (j / o) in
    rw (front-mod o j r p.0, front-div o j r p.0, front-mod o (o - j % o) (inverse hs (j / o)) p.0, front-div o (o - j % o) (inverse hs (j / o)) p.0)
    (ap (λ (x : ℕ). (o - j % o) % o + o * x) (inverse-joined s p.1 i (j / o)))

-- ---- what an index of the whole reaches

-- the first generator alone, and those behind it alone
module _ {n : ℕ} {g : Generator} {gs : List Generator} (v : Valid n (g ∷ gs)) (w : Word) where
  some : 0 < g.order
  some = (valid_positive v).0

  reach-first : (c : ℕ) → c < g.order → reach (g ∷ gs) c w ≡ moves c g.perm w
  unfolding reach digits by_digits
  reach-first c h = rw (mod-eq_of_lt h, div-eq_of_lt h) (reach-zero gs (moves c g.perm w))

  reach-behind : (i : ℕ) → reach (g ∷ gs) (g.order * i) w ≡ reach gs i w
  unfolding reach digits by_digits moves
  reach-behind i = rw (mul-mod_right g.order i, mul-div_right i some)

-- so they commute
reach-moves : {n : ℕ} (g : Generator) (gs : List Generator) → Valid n (g ∷ gs) → (c i : ℕ) → c < g.order → (w : Word) → length w ≡ n
    → moves c g.perm (reach gs i w) ≡ reach gs i (moves c g.perm w)
reach-moves g gs v c i h w e =
    sym (reach-first v (reach gs i w) c h)
    ∙ ap (reach (g ∷ gs) c) (sym (reach-behind v w i))
    ∙ reach-comm v c (g.order * i) w e
    ∙ reach-behind v (reach (g ∷ gs) c w) i
    ∙ ap (reach gs i) (reach-first v w c h)

pub reach-joined : {n : ℕ} {gs fs hs : List Generator} (s : Interleaved gs fs hs) → Valid n gs → (i j : ℕ) (w : Word) → length w ≡ n
    → reach gs (joined s i j) w ≡ reach hs j (reach fs i w)
unfolding joined reach digits by_digits
reach-joined none v i j w e = refl
reach-joined (first {g = g} s) v i j w e =
    let o = g.order in
    let r = joined s (i / o) j in
    let some = (valid_positive v).0 in
    rw (front-mod o i r some, front-div o i r some) (reach-joined s (valid_rest v) (i / o) j (moves (i % o) g.perm w) (moves-length (i % o) g.perm w ∙ e))
reach-joined (second {g = g} {gs = gs} {fs = fs} {hs = hs} s) v i j w e =
    let o = g.order in
    let r = joined s i (j / o) in
    let some = (valid_positive v).0 in
    rw (front-mod o j r some, front-div o j r some)
    (reach-joined s (valid_rest v) i (j / o) (moves (j % o) g.perm w) (moves-length (j % o) g.perm w ∙ e)
    ∙ ap (reach hs (j / o)) (sym (reach-moves g fs (first_valid (first {g = g} s) v) (j % o) i (mod-lt j some) w e)))
