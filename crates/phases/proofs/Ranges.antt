-- Whole numbers in a range, and in the range of a width: how large sums, differences and products become, and that a width holds them.
-- The fact that carries the code's steps: what is computed of numbers that stand for others stands for the same of those (`Stands`).
use Prim.Native.Nat.{ℕ, zero, suc, ◌+◌, ◌*◌, ◌-◌, ◌^◌, ◌≤◌, ◌<◌}
use native.Mathlib.Nat.{mul-zero, mul-le-mul}
use native.Mathlib.Omega.{arith}
use mathlib.Core.Path.{◌≡◌, refl, sym, ap, ap₂, ◌∙◌}
use mathlib.Core.Bool.{Bool, true, false, cond, false≢true}
use lib.Dec.{ltb}
use lib.IntN.{ℤ, pos, negsuc, neg_ℤ, sub_ℕ, ◌+ℤ◌, ◌-ℤ◌, ◌*ℤ◌, +ℤ_idl, neg_ℤ-neg_ℤ}
use lib.Signed.{mag, lt_z, le_z}
use mir.Syntax.{Width}
use mir.Val.{SFits, hbits, to_z, of_z}
use mir.ValLaws.{to_z-of_z}
use borrow.Author.Tests.{ltb-true, ltb-false, le-leb, lt-leb}
use Rattle.phases.specs.Rules.{magnitude, in_range, InRange}

-- ---- magnitudes

-- a number less a number above 0
magnitude-less : (a b : ℕ) → magnitude (sub_ℕ a (suc b)) ≤ a + suc b
magnitude-less a b = go (ltb a (suc b))
  where
    go : (t : Bool) → magnitude (cond t (negsuc (suc b - suc a)) (pos (a - suc b))) ≤ a + suc b
    go true = omega arith
    go false = omega arith

-- a sum is at most as large as its summands together
pub magnitude-sum : (a b : ℤ) → magnitude (a +ℤ b) ≤ magnitude a + magnitude b
magnitude-sum (pos a) (pos b) = omega arith
magnitude-sum (pos a) (negsuc b) = magnitude-less a b
magnitude-sum (negsuc a) (pos b) = omega (arith, magnitude-less b a)
magnitude-sum (negsuc a) (negsuc b) = omega arith

-- the sign does not matter
magnitude_negative : (a : ℤ) → magnitude (neg_ℤ a) ≡ magnitude a
magnitude_negative (pos zero) = refl
magnitude_negative (pos (suc n)) = refl
magnitude_negative (negsuc n) = refl

-- a product is as large as the product of its factors' magnitudes
pub magnitude-product : (a b : ℤ) → magnitude (a *ℤ b) ≡ magnitude a * magnitude b
magnitude-product (pos a) (pos b) = refl
magnitude-product (pos a) (negsuc b) = magnitude_negative (pos (a * suc b))
magnitude-product (negsuc a) (pos b) = magnitude_negative (pos (suc a * b))
magnitude-product (negsuc a) (negsuc b) = refl

-- a factor's sign goes to the product
pub product_negative : (a b : ℤ) → a *ℤ neg_ℤ b ≡ neg_ℤ (a *ℤ b)
product_negative (pos a) (pos zero) = rw (mul-zero a) refl
product_negative (pos a) (pos (suc b)) = refl
product_negative (pos a) (negsuc b) = sym (neg_ℤ-neg_ℤ (pos (a * suc b)))
product_negative (negsuc a) (pos zero) = rw (mul-zero (suc a)) refl
product_negative (negsuc a) (pos (suc b)) = sym (neg_ℤ-neg_ℤ (pos (suc a * suc b)))
product_negative (negsuc a) (negsuc b) = refl

-- ---- ranges

pub sum_range : (a b : ℕ) (x y : ℤ) → InRange a x → InRange b y → InRange (a + b) (x +ℤ y)
sum_range a b x y h k = let l = magnitude-sum x y in omega arith

pub negative_range : (a : ℕ) (x : ℤ) → InRange a x → InRange a (neg_ℤ x)
negative_range a x h = rw (magnitude_negative x) h

pub product_range : (a b : ℕ) (x y : ℤ) → InRange a x → InRange b y → InRange (a * b) (x *ℤ y)
product_range a b x y h k = rw (magnitude-product x y) (mul-le-mul h k)

-- ---- numbers that a width holds

module _ (w : Width) (m : ℕ) (room : m < 2 ^ hbits w) (z : ℤ) (h : InRange m z) where
  pub held : SFits w z
  held = record { sfits = small z h }
    where
      small : (y : ℤ) → InRange m y → mag y < 2 ^ hbits w
      small (pos n) l = omega arith
      small (negsuc n) l = omega arith

  pub stays : to_z w (of_z w z) ≡ z
  stays = to_z-of_z w z held

-- the two tests of a range, at a number that a width holds
module _ (w : Width) (z : ℤ) (f : SFits w z) (k : ℕ) where
  pub range-below : lt_z (to_z w (of_z w z)) (negsuc k) ≡ true → false ≡ in_range (suc k) z
  range-below e = go z (ap (λ (y : ℤ). lt_z y (negsuc k)) (sym (to_z-of_z w z f)) ∙ e)
    where
      go : (y : ℤ) → lt_z y (negsuc k) ≡ true → false ≡ in_range (suc k) y
      go (pos n) h = absurd (false≢true h)
      go (negsuc n) h = let l = ltb-true k n h in sym (lt-leb (suc n) (suc k) (omega arith))

  pub range-above : lt_z (to_z w (of_z w z)) (negsuc k) ≡ false → le_z (to_z w (of_z w z)) (pos (suc k)) ≡ in_range (suc k) z
  range-above e = ap (λ (y : ℤ). le_z y (pos (suc k))) (to_z-of_z w z f) ∙ go z (ap (λ (y : ℤ). lt_z y (negsuc k)) (sym (to_z-of_z w z f)) ∙ e)
    where
      go : (y : ℤ) → lt_z y (negsuc k) ≡ false → le_z y (pos (suc k)) ≡ in_range (suc k) y
      go (pos n) h = refl
      go (negsuc n) h = let l = ltb-false k n h in sym (le-leb (suc n) (suc k) (omega arith))

-- ---- what the code computes

-- a number that is read out of a list
pub read_stays : (w : Width) (z : ℤ) → mag z < 2 ^ hbits w → to_z w (of_z w z) ≡ z
read_stays w z h = to_z-of_z w z record { sfits = h }

-- the code has x where z is meant, a number in -m .. m: a width holds x, and what is read back is z
pub record Stands (w : Width) (m : ℕ) (x z : ℤ) : Type 0 where
  pub fits : SFits w x
  pub same : to_z w (of_z w x) ≡ z
  pub range : InRange m z

-- a number that the code is given
pub given_stands : {w : Width} {m : ℕ} {z : ℤ} → SFits w z → InRange m z → Stands w m z z
given_stands {w} {m} {z} f h = record { fits = f; same = to_z-of_z w z f; range = h }

-- a number that the code computes
pub computed_stands : {w : Width} {m : ℕ} {x z : ℤ} → m < 2 ^ hbits w → x ≡ z → InRange m z → Stands w m x z
computed_stands {w} {m} {x} {z} room e h = record {
  fits = rw e (held w m room z h);
  same = ap (λ (y : ℤ). to_z w (of_z w y)) e ∙ stays w m room z h;
  range = h;
}

-- what is read back is in the range
pub stored_range : {w : Width} {m : ℕ} {x z : ℤ} → Stands w m x z → InRange m (to_z w (of_z w x))
stored_range s = rw s.same s.range

-- a step of the code: a product, a sum, a difference
module _ {w : Width} {a b : ℕ} {x y p q : ℤ} (s : Stands w a x p) (t : Stands w b y q) where
  pub product-stands : a * b < 2 ^ hbits w → Stands w (a * b) (to_z w (of_z w x) *ℤ to_z w (of_z w y)) (p *ℤ q)
  product-stands room = computed_stands room (ap₂ ◌*ℤ◌ s.same t.same) (product_range a b p q s.range t.range)

  pub sum-stands : a + b < 2 ^ hbits w → Stands w (a + b) (to_z w (of_z w x) +ℤ to_z w (of_z w y)) (p +ℤ q)
  sum-stands room = computed_stands room (ap₂ ◌+ℤ◌ s.same t.same) (sum_range a b p q s.range t.range)

  pub difference-stands : a + b < 2 ^ hbits w → Stands w (a + b) (to_z w (of_z w x) -ℤ to_z w (of_z w y)) (p -ℤ q)
  difference-stands room =
      computed_stands room (ap₂ ◌-ℤ◌ s.same t.same) (sum_range a b p (neg_ℤ q) s.range (negative_range b q t.range))

-- nothing less a number, which is how the code changes a sign
pub negative_stands : {w : Width} {a : ℕ} {x p : ℤ} → Stands w a x p → a < 2 ^ hbits w → Stands w a (pos 0 -ℤ to_z w (of_z w x)) (neg_ℤ p)
negative_stands {w} {a} {x} {p} s room =
    computed_stands room (ap (λ (y : ℤ). pos 0 -ℤ y) s.same ∙ +ℤ_idl (neg_ℤ p)) (negative_range a p s.range)

-- the product of two numbers that a width holds, as the code has it
module _ (w : Width) (a b : ℕ) (x y : ℤ) (fx : SFits w x) (fy : SFits w y) (h : InRange a x) (k : InRange b y) (room : a * b < 2 ^ hbits w) where
  pub product-held : SFits w (to_z w (of_z w x) *ℤ to_z w (of_z w y))
  product-held = (product-stands (given_stands fx h) (given_stands fy k) room).fits

  pub product-stays : to_z w (of_z w (to_z w (of_z w x) *ℤ to_z w (of_z w y))) ≡ x *ℤ y
  product-stays = (product-stands (given_stands fx h) (given_stands fy k) room).same

-- their sum, as the code has it
module _ (w : Width) (a b : ℕ) (x y : ℤ) (fx : SFits w x) (fy : SFits w y) (h : InRange a x) (k : InRange b y) (room : a + b < 2 ^ hbits w) where
  pub sum-held : SFits w (to_z w (of_z w x) +ℤ to_z w (of_z w y))
  sum-held = (sum-stands (given_stands fx h) (given_stands fy k) room).fits

  pub sum-stays : to_z w (of_z w (to_z w (of_z w x) +ℤ to_z w (of_z w y))) ≡ x +ℤ y
  sum-stays = (sum-stands (given_stands fx h) (given_stands fy k) room).same
