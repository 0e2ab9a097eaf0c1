-- A mode, widened to 64 bits, and its remainder by an order: the remainder has the mode's sign, and one below zero is corrected by the order.
-- What carries it: the remainder is the reduced mode, or falls short of it by the order (`remainder-reduced`).
use Prim.Native.Nat.{ℕ, zero, suc, ◌+◌, ◌-◌, ◌/◌, ◌%◌, ◌≤◌, ◌<◌}
use mathlib.Core.Path.{◌≡◌, refl, sym, ap, ap₂, ◌∙◌}
use mathlib.Core.Logic.{◌⊎◌, inl, inr}
use mathlib.Core.Bool.{true, false, false≢true, true≢false}
use native.Mathlib.Nat.{mod-lt, mod_self, mod-eq_of_lt, mul-add-mod_self_left, div-add-mod, eq-or-lt_of_le, le_trans, div-le_self}
use native.Mathlib.Omega.{arith}
use lib.Dec.{T}
use borrow.Author.Tests.{le-ltb}
use lib.IntN.{ℤ, pos, negsuc, neg_ℤ, nat_abs, ◌+ℤ◌}
use lib.Signed.{mag, lt_z, non_neg, quot_z, rem_z, mag_rem}
use mir.Syntax.{w32, w64}
use mir.Val.{Fits, SFits, of_z, to_z}
use mir.ValLaws.{to_z_pos, to_z-of_z, sfits_le}
use Rattle.action.specs.Sector.{reduced}

-- ---- the remainder, of numbers

suc-mod : (a o : ℕ) → 0 < o → (suc a % o ≡ suc (a % o)) ⊎ ((suc a % o ≡ 0) × (suc (a % o) ≡ o))
suc-mod a o some = go (eq-or-lt_of_le (mod-lt a some))
  where
    split : suc a % o ≡ suc (a % o) % o
    split =
        ap (λ (x : ℕ). x % o) (ap suc (sym (div-add-mod a o)) ∙ omega arith)
        ∙ mul-add-mod_self_left o (a / o) (suc (a % o))

    go : (suc (a % o) ≡ o) ⊎ (suc (a % o) < o) → (suc a % o ≡ suc (a % o)) ⊎ ((suc a % o ≡ 0) × (suc (a % o) ≡ o))
    go (inl e) = inr (split ∙ ap (λ (x : ℕ). x % o) e ∙ mod_self o, e)
    go (inr l) = inl (split ∙ mod-eq_of_lt l)

pub reduced-below : (o : ℕ) (k : ℤ) → 0 < o → reduced o k < o
unfolding reduced
reduced-below o (pos a) some = mod-lt a some
reduced-below o (negsuc a) some = omega arith

-- the remainder is the reduced mode, or the order less than it
remainder_reduced :
    (o : ℕ) (k : ℤ) → 0 < o
    → (rem_z k (pos o) ≡ pos (reduced o k)) ⊎ ((y : ℕ) × (rem_z k (pos o) ≡ negsuc y) × (suc y + reduced o k ≡ o))
unfolding reduced
remainder_reduced o (pos a) some = inl refl
remainder_reduced o (negsuc a) some = go (suc-mod a o some)
  where
    below : a % o < o
    below = mod-lt a some

    go : (suc a % o ≡ suc (a % o)) ⊎ ((suc a % o ≡ 0) × (suc (a % o) ≡ o))
        → (neg_ℤ (pos (suc a % o)) ≡ pos (o - 1 - a % o)) ⊎ ((y : ℕ) × (neg_ℤ (pos (suc a % o)) ≡ negsuc y) × (suc y + (o - 1 - a % o) ≡ o))
    go (inl e) = inr (a % o, ap (λ (x : ℕ). neg_ℤ (pos x)) e, omega (arith, below))
    go (inr (e, f)) = let z : o - 1 - a % o ≡ 0 = omega arith in inl (ap (λ (x : ℕ). neg_ℤ (pos x)) e ∙ ap pos (sym z))

-- ---- the remainder, as the code computes it from bits

mag_negative : (x : ℕ) → mag (neg_ℤ (pos x)) ≤ x
mag_negative zero = omega arith
mag_negative (suc x) = omega arith

mag_quotient : (k : ℤ) (o : ℕ) → mag (quot_z k (pos o)) ≤ suc (mag k)
mag_quotient (pos a) o = omega (arith, div-le_self a o)
mag_quotient (negsuc a) o = le_trans (mag_negative (suc a / o)) (div-le_self (suc a) o)

module _ (o : ℕ) (k : ℤ) (some : 0 < o) (order : Fits w32 o) (mode : SFits w32 k) where
  wide : SFits w64 k
  wide = record { sfits = omega (arith, mode.sfits) }

  widened : to_z w32 (of_z w32 k) ≡ k
  widened = to_z-of_z w32 k mode

  again : to_z w64 (of_z w64 (to_z w32 (of_z w32 k))) ≡ k
  again = ap (λ (z : ℤ). to_z w64 (of_z w64 z)) widened ∙ to_z-of_z w64 k wide

  order-wide : to_z w64 o ≡ pos o
  order-wide = to_z_pos w64 o (omega (arith, order.fits))

  pub widen-fits : SFits w64 (to_z w32 (of_z w32 k))
  widen-fits = rw widened wide

  pub quotient_fits : SFits w64 (quot_z (to_z w64 (of_z w64 (to_z w32 (of_z w32 k)))) (to_z w64 o))
  quotient_fits = rw (again, order-wide) (record { sfits = omega (arith, mag_quotient k o, mode.sfits) })

  remainder-fits : SFits w64 (rem_z k (pos o))
  remainder-fits = sfits_le (mag_rem k (pos o)) wide

  -- what the code takes for the remainder
  abbrev found : ℤ
  found = to_z w64 (of_z w64 (rem_z (to_z w64 (of_z w64 (to_z w32 (of_z w32 k)))) (to_z w64 o)))

  found-is : found ≡ rem_z k (pos o)
  found-is = ap₂ (λ (a b : ℤ). to_z w64 (of_z w64 (rem_z a b))) again order-wide ∙ to_z-of_z w64 (rem_z k (pos o)) remainder-fits

  small : reduced o k < o
  small = reduced-below o k some

  reduced-fits : SFits w64 (pos (reduced o k))
  reduced-fits = record { sfits = omega (arith, small, order.fits) }

  -- below zero it is corrected by the order
  module _ (negative : lt_z found (pos 0) ≡ true) where
    sum : found +ℤ to_z w64 o ≡ pos (reduced o k)
    sum = ap₂ ◌+ℤ◌ found-is order-wide ∙ go (remainder_reduced o k some) (rw found-is at negative)
      where
        go : (rem_z k (pos o) ≡ pos (reduced o k)) ⊎ ((y : ℕ) × (rem_z k (pos o) ≡ negsuc y) × (suc y + reduced o k ≡ o))
            → lt_z (rem_z k (pos o)) (pos 0) ≡ true → rem_z k (pos o) +ℤ pos o ≡ pos (reduced o k)
        go (inl e) t =
            absurd (false≢true (sym (ap (λ (z : ℤ). lt_z z (pos 0)) e ∙ le-ltb (reduced o k) 0 (omega arith)) ∙ t))
        go (inr (y, e, f)) t = let d : o - suc y ≡ reduced o k = omega arith in rw (e, le-ltb o (suc y) (omega arith), d)

    pub sum_fits : SFits w64 (found +ℤ to_z w64 o)
    sum_fits = rw sum reduced-fits

    pub corrected : to_z w64 (of_z w64 (found +ℤ to_z w64 o)) ≡ pos (reduced o k)
    corrected = to_z-of_z w64 (found +ℤ to_z w64 o) sum_fits ∙ sum

  -- otherwise it stays
  pub uncorrected : lt_z found (pos 0) ≡ false → found ≡ pos (reduced o k)
  uncorrected nonnegative = found-is ∙ go (remainder_reduced o k some) (rw found-is at nonnegative)
    where
      go : (rem_z k (pos o) ≡ pos (reduced o k)) ⊎ ((y : ℕ) × (rem_z k (pos o) ≡ negsuc y) × (suc y + reduced o k ≡ o))
          → lt_z (rem_z k (pos o)) (pos 0) ≡ false → rem_z k (pos o) ≡ pos (reduced o k)
      go (inl e) t = e
      go (inr (y, e, f)) t = absurd (true≢false (sym (ap (λ (z : ℤ). lt_z z (pos 0)) e) ∙ t))

  -- a number from 0 to the order less 1 may be cast
  pub cast_fits : (z : ℤ) → z ≡ pos (reduced o k) → T (non_neg z) × Fits w64 (nat_abs z)
  cast_fits z e = rw e (tt, record { fits = omega (arith, small, order.fits) })
