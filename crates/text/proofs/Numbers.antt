-- Digits, numbers that are read digit by digit up to a cap, signed numbers, and modes.
-- What carries it: reading on from a number never comes below it, so that above the cap nothing changes any more (`readOn-capped`).
use Prim.Native.Nat.{ℕ, zero, suc, ◌+◌, ◌-◌, ◌*◌, ◌≤◌, ◌<◌, min}
use mathlib.Core.Path.{◌≡◌, refl, sym, ap, ◌∙◌}
use mathlib.Core.Bool.{Bool, true, false, ◌&&◌, not, cond, false≢true, true≢false, and-true, and-false}
use mathlib.Core.List.{List, [], ◌∷◌}
use native.Mathlib.Nat.{le_trans, min-eq_left, min-eq_right}
use native.Mathlib.Numerals.{add-one}
use native.Mathlib.Omega.{arith}
use lib.Dec.{eqb, leb}
use lib.IntN.{ℤ, pos, negsuc, nat_abs, ◌-ℤ◌, +ℤ_idl}
use lib.Signed.{lt_z}
use lib.ListN.{length, get_or, drop, drop_of_length-le}
use lib.Seq.{drop-cons}
use borrow.Author.Tests.{eq-eqb, ne_eqb, le-leb, lt-leb, leb-true, leb-false, ltb-true, ltb-false, lt-ltb, le-ltb}
use mir.Syntax.{w32, w64}
use mir.Val.{SFits, of_z, to_z}
use mir.ValLaws.{to_z_pos, to_z-of_z}
use Rattle.action.specs.Lists.{every}
use Rattle.text.specs.Text.{minus, zero_digit, nine_digit, is_digit, is_number, read_on, number_of, is_signed, signed_of, mode_bound, in_modes, is_mode}
use Rattle.text.specs.Parts.{cap, clamped, signed_read, mode_in, mode_read}
use Rattle.std.specs.List.{list_all}
use Rattle.std.specs.Prelude.{Some, None}

-- ---- digits alone

pub all_every : (p : ℕ → Bool) (text : List ℕ) → list_all p text ≡ every p text
unfolding every
all_every p [] = refl
all_every p (b ∷ bs) = ap (λ (t : Bool). p b && t) (all_every p bs)

pub digit-below : (b : ℕ) → b < zero_digit → is_digit b ≡ false
digit-below b h = simp (lt-leb zero_digit b h)

pub digit_above : (b : ℕ) → nine_digit < b → is_digit b ≡ false
digit_above b h = let l : zero_digit ≤ b = omega arith in simp (le-leb zero_digit b l, lt-leb b nine_digit h)

pub digit_within : (b : ℕ) → zero_digit ≤ b → b ≤ nine_digit → is_digit b ≡ true
digit_within b h k = simp (le-leb zero_digit b h, le-leb b nine_digit k)

-- ---- numbers without leading zeros

pub number_none : (text : List ℕ) → length text ≡ 0 → is_number text ≡ false
unfolding is_number
number_none [] h = refl
number_none (b ∷ bs) h = absurd (omega arith)

pub number_one : (text : List ℕ) → length text ≡ 1 → is_number text ≡ every is_digit text
unfolding is_number every
number_one [] h = absurd (omega arith)
number_one (b ∷ []) h = sym (and-true (is_digit b))
number_one (b ∷ c ∷ bs) h = absurd (omega arith)

pub number-zero : (text : List ℕ) → 1 < length text → get_or text 0 0 ≡ zero_digit → is_number text ≡ false
unfolding is_number
number-zero [] l e = absurd (omega arith)
number-zero (b ∷ []) l e = absurd (omega arith)
number-zero (b ∷ c ∷ bs) l e = simp (eq-eqb b zero_digit e, and-false)

pub number_more : (text : List ℕ) → 1 < length text → (get_or text 0 0 ≡ zero_digit → ⊥) → is_number text ≡ every is_digit text
unfolding is_number every
number_more [] l n = absurd (omega arith)
number_more (b ∷ []) l n = absurd (omega arith)
number_more (b ∷ c ∷ bs) l n = simp (ne_eqb b zero_digit n, and-true)

-- ---- numbers up to the cap

pub read_on_grows : (a : ℕ) (bs : List ℕ) → a ≤ read_on a bs
unfolding read_on
read_on_grows a [] = omega arith
read_on_grows a (b ∷ bs) = omega (arith, read_on_grows (10 * a + (b - zero_digit)) bs)

read_on_capped : (m a : ℕ) (bs : List ℕ) → min (read_on (min a m) bs) m ≡ min (read_on a bs) m
read_on_capped m a bs = go (leb a m) refl
  where
    go : (t : Bool) → leb a m ≡ t → min (read_on (min a m) bs) m ≡ min (read_on a bs) m
    go true e = ap (λ (x : ℕ). min (read_on x bs) m) (min-eq_left (leb-true a m e))
    go false e =
        let h = leb-false a m e in
        let f : min a m ≡ m = min-eq_right (omega arith) in
        ap (λ (x : ℕ). min (read_on x bs) m) f
        ∙ min-eq_right (read_on_grows m bs)
        ∙ sym (min-eq_right (le_trans (omega arith) (read_on_grows a bs)))

-- one digit more
pub value_next : (m v d w : ℕ) (text : List ℕ) (i : ℕ) → i < length text → d ≡ get_or text i 0 - zero_digit → w ≡ min (10 * v + d) m
    → min (read_on v (drop i text)) m ≡ min (read_on w (drop (i + 1) text)) m
unfolding read_on
value_next m v d w text i h p q =
    ap (λ (bs : List ℕ). min (read_on v bs) m) (drop-cons text i 0 h ∙ ap (λ (j : ℕ). get_or text i 0 ∷ drop j text) (sym (add-one i)))
    ∙ ap (λ (x : ℕ). min (read_on (10 * v + x) (drop (i + 1) text)) m) (sym p)
    ∙ sym (read_on_capped m (10 * v + d) (drop (i + 1) text))
    ∙ ap (λ (x : ℕ). min (read_on x (drop (i + 1) text)) m) (sym q)

pub value_end : (m v : ℕ) (text : List ℕ) (i : ℕ) → length text ≤ i → v ≤ m → min (read_on v (drop i text)) m ≡ v
unfolding read_on
value_end m v text i h l = ap (λ (bs : List ℕ). min (read_on v bs) m) (drop_of_length-le text h) ∙ min-eq_left l

pub capped_zero : (x v : ℕ) → v ≡ min x cap → v ≡ 0 → x ≡ 0
capped_zero x v e z = omega arith

pub zero_capped : (x v : ℕ) → v ≡ min x cap → x ≡ 0 → v ≡ 0
zero_capped x v e z = omega arith

-- ---- signed numbers

pub signed_none : (text : List ℕ) → length text ≡ 0 → signed_read text ≡ None
unfolding is_signed
signed_none [] h = refl
signed_none (b ∷ bs) h = absurd (omega arith)

-- what a text that is read as a number, or as none, is
module _ (text : List ℕ) where
  pub value-signed : (z : ℤ) → signed_read text ≡ Some z → (is_signed text ≡ true) × (z ≡ clamped (signed_of text))
  value-signed z e = go (is_signed text) e
    where
      go : (t : Bool) → cond t (Some (clamped (signed_of text))) None ≡ Some z → (t ≡ true) × (z ≡ clamped (signed_of text))
      go true e = (refl, cc)
      go false e = let w : ◌≡◌ {A = ℕ} 0 1 = cc in absurd (omega arith)

  pub other-signed : signed_read text ≡ None → is_signed text ≡ false
  other-signed e = go (is_signed text) e
    where
      go : (t : Bool) → cond t (Some (clamped (signed_of text))) None ≡ None → t ≡ false
      go true e = let w : ◌≡◌ {A = ℕ} 0 1 = cc in absurd (omega arith)
      go false e = refl

-- a text that begins with a minus
pub minus_first : (t : List ℕ) → 0 < length t → get_or t 0 0 ≡ minus
    → (is_signed t ≡ (is_number (drop 1 t) && not (eqb (number_of (drop 1 t)) 0))) × (signed_of t ≡ negsuc (number_of (drop 1 t) - 1))
unfolding is_signed signed_of
minus_first [] s e = absurd (omega arith)
minus_first (b ∷ bs) s e = (simp (eq-eqb b minus e), simp (eq-eqb b minus e))

module _ (text : List ℕ) (some : 0 < length text) (m : get_or text 0 0 ≡ minus) where
  is-minus : is_signed text ≡ (is_number (drop 1 text) && not (eqb (number_of (drop 1 text)) 0))
  is-minus = (minus_first text some m).0

  pub minus-no-number : is_number (drop 1 text) ≡ false → signed_read text ≡ None
  minus-no-number e = simp (is-minus, e)

  module _ (v : ℕ) (e : v ≡ min (number_of (drop 1 text)) cap) where
    pub minus-zero : v ≡ 0 → signed_read text ≡ None
    minus-zero z =
        let n : number_of (drop 1 text) ≡ 0 = omega arith in
        simp (is-minus, eq-eqb (number_of (drop 1 text)) 0 n, and-false (is_number (drop 1 text)))

    pub minus-value : is_number (drop 1 text) ≡ true → 0 < v → Some (negsuc (v - 1)) ≡ signed_read text
    minus-value t p =
        let x : v - 1 ≡ min (number_of (drop 1 text) - 1) (cap - 1) = omega arith in
        let z : number_of (drop 1 text) ≡ 0 → ⊥ = λ k. omega arith in
        let k : is_signed text ≡ true = is-minus ∙ simp (t, ne_eqb (number_of (drop 1 text)) 0 z) in
        sym (simp (k, (minus_first text some m).1) (ap (λ (y : ℕ). Some (negsuc y)) (sym x)))

-- a text that begins with another byte
pub plain_first : (t : List ℕ) → (get_or t 0 0 ≡ minus → ⊥) → 0 < length t → (is_signed t ≡ is_number t) × (signed_of t ≡ pos (number_of t))
unfolding is_signed signed_of
plain_first [] n s = absurd (omega arith)
plain_first (b ∷ bs) n s = (simp (ne_eqb b minus n), simp (ne_eqb b minus n))

module _ (text : List ℕ) (some : 0 < length text) (m : get_or text 0 0 ≡ minus → ⊥) where
  pub plain-no-number : is_number text ≡ false → signed_read text ≡ None
  plain-no-number e = simp ((plain_first text m some).0, e)

  pub plain_value : (v : ℕ) → v ≡ min (number_of text) cap → is_number text ≡ true → Some (to_z w64 v) ≡ signed_read text
  plain_value v e t =
      let k : is_signed text ≡ true = (plain_first text m some).0 ∙ t in
      ap Some (to_z_pos w64 v (omega arith)) ∙ sym (simp (k, (plain_first text m some).1) (ap (λ (y : ℕ). Some (pos y)) (sym e)))

-- ---- a value made negative, as the code computes it from bits

module _ (v : ℕ) (some : 0 < v) (small : v ≤ cap) where
  less : pos 0 -ℤ to_z w64 v ≡ negsuc (v - 1)
  less = ap (λ (z : ℤ). pos 0 -ℤ z) (to_z_pos w64 v (omega arith)) ∙ go v some
    where
      go : (x : ℕ) → 0 < x → pos 0 -ℤ pos x ≡ negsuc (x - 1)
      go zero h = absurd (omega arith)
      go (suc n) h = +ℤ_idl (negsuc n) ∙ ap negsuc (omega arith)

  pub less-fits : SFits w64 (pos 0 -ℤ to_z w64 v)
  less-fits = rw less (record { sfits = omega arith })

  pub negated : to_z w64 (of_z w64 (pos 0 -ℤ to_z w64 v)) ≡ negsuc (v - 1)
  negated = to_z-of_z w64 (pos 0 -ℤ to_z w64 v) less-fits ∙ less

-- ---- numbers no further from 0 than the cap

same_leb : (b x y : ℕ) → (x ≤ b → y ≤ b) → (y ≤ b → x ≤ b) → leb x b ≡ leb y b
same_leb b x y f g = go (leb x b) refl (leb y b) refl
  where
    go : (s : Bool) → leb x b ≡ s → (t : Bool) → leb y b ≡ t → s ≡ t
    go true d true e = refl
    go false d false e = refl
    go true d false e = absurd (omega (arith, f (leb-true x b d), leb-false y b e))
    go false d true e = absurd (omega (arith, g (leb-true y b e), leb-false x b d))

pub clamped-same : (z : ℤ) → nat_abs z ≤ cap → clamped z ≡ z
clamped-same (pos n) h = ap pos (min-eq_left h)
clamped-same (negsuc n) h = ap negsuc (min-eq_left (omega arith))

-- 64 bits hold it
pub clamped_stays : (z : ℤ) → to_z w64 (of_z w64 (clamped z)) ≡ clamped z
clamped_stays z = to_z-of_z w64 (clamped z) (go z)
  where
    go : (z : ℤ) → SFits w64 (clamped z)
    go (pos n) = record { sfits = omega arith }
    go (negsuc n) = record { sfits = omega arith }

pub signed_stays : (text : List ℕ) (z : ℤ) → signed_read text ≡ Some z → to_z w64 (of_z w64 z) ≡ z
signed_stays text z e = let (is, same) = value-signed text z e in rw same (clamped_stays (signed_of text))

-- a bound below the cap does not see it
pub clamped_large : (bound : ℕ) → bound < cap → (z : ℤ) → leb (nat_abs (clamped z)) bound ≡ leb (nat_abs z) bound
clamped_large bound low (pos n) = same_leb bound (min n cap) n (λ h. omega arith) (λ h. omega arith)
clamped_large bound low (negsuc n) = same_leb bound (suc (min n (cap - 1))) (suc n) (λ h. omega arith) (λ h. omega arith)

-- ---- modes

pub modes_fit_lem : (z : ℤ) → in_modes z ≡ true → SFits w32 z
modes_fit_lem (pos n) h = record { sfits = ltb-true n mode_bound h }
modes_fit_lem (negsuc n) h = record { sfits = ltb-true n mode_bound h }

pub fit_modes : (z : ℤ) → SFits w32 z → in_modes z ≡ true
fit_modes (pos n) fits = lt-ltb n mode_bound fits.sfits
fit_modes (negsuc n) fits = lt-ltb n mode_bound fits.sfits

pub modes_small : (z : ℤ) → in_modes z ≡ true → nat_abs z ≤ mode_bound
modes_small (pos n) h = omega (arith, ltb-true n mode_bound h)
modes_small (negsuc n) h = omega (arith, ltb-true n mode_bound h)

-- by the two tests of the code, at a number as the code has it
module _ (z : ℤ) (f : SFits w64 z) where
  held : to_z w64 (of_z w64 z) ≡ z
  held = to_z-of_z w64 z f

  pub mode-low : lt_z (to_z w64 (of_z w64 z)) (negsuc (mode_bound - 1)) ≡ true → None ≡ mode_in z
  mode-low h = go z (rw held at h)
    where
      go : (y : ℤ) → lt_z y (negsuc (mode_bound - 1)) ≡ true → None ≡ mode_in y
      go (pos n) l = absurd (false≢true l)
      go (negsuc n) l = rw (le-ltb n mode_bound (omega (arith, ltb-true (mode_bound - 1) n l)))

  pub mode-high : lt_z (to_z w64 (of_z w64 z)) (pos mode_bound) ≡ false → None ≡ mode_in z
  mode-high h = go z (rw held at h)
    where
      go : (y : ℤ) → lt_z y (pos mode_bound) ≡ false → None ≡ mode_in y
      go (pos n) l = rw l
      go (negsuc n) l = absurd (true≢false l)

  module _ (low : lt_z (to_z w64 (of_z w64 z)) (negsuc (mode_bound - 1)) ≡ false) (high : lt_z (to_z w64 (of_z w64 z)) (pos mode_bound) ≡ true) where
    within : in_modes z ≡ true
    within = go z (rw held at low) (rw held at high)
      where
        go : (y : ℤ) → lt_z y (negsuc (mode_bound - 1)) ≡ false → lt_z y (pos mode_bound) ≡ true → in_modes y ≡ true
        go (pos n) l h = h
        go (negsuc n) l h = lt-ltb n mode_bound (omega (arith, ltb-false (mode_bound - 1) n l))

    pub mode-narrow : SFits w32 (to_z w64 (of_z w64 z))
    mode-narrow = rw held (modes_fit_lem z within)

    pub mode-value : Some (to_z w32 (of_z w32 (to_z w64 (of_z w64 z)))) ≡ mode_in z
    mode-value = rw (held, within) (ap Some (to_z-of_z w32 z (modes_fit_lem z within)))

clamped_modes : (z : ℤ) → in_modes (clamped z) ≡ in_modes z
clamped_modes (pos n) = same_leb mode_bound (suc (min n cap)) (suc n) (λ h. omega arith) (λ h. omega arith)
clamped_modes (negsuc n) = clamped_large mode_bound (omega arith) (negsuc n)

clamped_mode : (z : ℤ) → mode_in (clamped z) ≡ mode_in z
clamped_mode z = go (in_modes z) refl
  where
    go : (t : Bool) → in_modes z ≡ t → mode_in (clamped z) ≡ mode_in z
    go true e = ap mode_in (clamped-same z (omega (arith, modes_small z e)))
    go false e = simp (clamped_modes z, e)

-- a text read as a mode, by the number that it is read as
module _ (text : List ℕ) where
  pub value-mode : (z : ℤ) → signed_read text ≡ Some z → mode_in z ≡ mode_read text
  unfolding is_mode
  value-mode z e = let (is, same) = value-signed text z e in rw (same, is) (clamped_mode (signed_of text))

  pub other-mode : signed_read text ≡ None → None ≡ mode_read text
  unfolding is_mode
  other-mode e = rw (other-signed text e)
