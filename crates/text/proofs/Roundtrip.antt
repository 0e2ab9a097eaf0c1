-- Numbers, written and read again, and read and written again, however many digits they have; the bytes that a signed number has not.
-- What carries it: a number in decimal is one digit, or a number above 0 and a digit after it (`number-view`), as `digitsOf` writes it.
use Prim.Native.Nat.{ℕ, zero, suc, ◌+◌, ◌-◌, ◌*◌, ◌/◌, ◌%◌, ◌^◌, ◌≤◌, ◌<◌}
use mathlib.Core.Path.{◌≡◌, refl, sym, ap, ap₂, ◌∙◌}
use mathlib.Core.Logic.{◌⊎◌, inl, inr}
use mathlib.Core.Bool.{Bool, true, false, ◌&&◌, not, cond, false≢true, and-eq-true_iff}
use mathlib.Core.List.{List, [], ◌∷◌, ◌++◌}
use native.Mathlib.Nat.{pow-succ'}
use native.Mathlib.Decide.{dec_le}
use native.Mathlib.Omega.{arith}
use lib.Dec.{eqb, leb}
use lib.ListN.{length, get_or}
use borrow.Author.Tests.{eqb-true, eqb-false, ne_eqb, leb-true, not-true}
use Rattle.action.specs.Lists.{every}
use Rattle.action.proofs.Lists.{every-intro, every-elim, every_append}
use Rattle.text.specs.Text.{minus, zero_digit, nine_digit, is_digit, is_number, read_on, number_of, is_signed, digits_of}
use Rattle.text.proofs.Numbers.{digit_within, read_on_grows}
use Rattle.text.proofs.Decimals.{digits_one, digits_more, tenth_below}

-- ---- a number by its first digit

module _ (b : ℕ) where
  digit-bounds : is_digit b ≡ true → (zero_digit ≤ b) × (b ≤ nine_digit)
  digit-bounds h = let p = (and-eq-true_iff (leb zero_digit b) (leb b nine_digit)).0 h in (leb-true zero_digit b p.0, leb-true b nine_digit p.1)

  -- digits after one that is not 0
  number-made : (bs : List ℕ) → is_digit b ≡ true → (b ≡ zero_digit → ⊥) → every is_digit bs ≡ true → is_number (b ∷ bs) ≡ true
  unfolding is_number every
  number-made [] d n h = d
  number-made (c ∷ bs) d n h = simp (d, ne_eqb b zero_digit n, h)

  number-parts : (c : ℕ) (bs : List ℕ) → is_number (b ∷ c ∷ bs) ≡ true → (is_digit b ≡ true) × (b ≡ zero_digit → ⊥) × (every is_digit (c ∷ bs) ≡ true)
  unfolding is_number every
  number-parts c bs h =
      let p = (and-eq-true_iff (is_digit b && not (eqb b zero_digit)) (every is_digit (c ∷ bs))).0 h in
      let q = (and-eq-true_iff (is_digit b) (not (eqb b zero_digit))).0 p.0 in
      (q.0, eqb-false b zero_digit (not-true (eqb b zero_digit) q.1), p.1)

  number-positive : (bs : List ℕ) → is_digit b ≡ true → (b ≡ zero_digit → ⊥) → 0 < number_of (b ∷ bs)
  unfolding number_of read_on
  number-positive bs d n = omega (arith, digit-bounds d, read_on_grows (10 * 0 + (b - zero_digit)) bs)

  -- a number above 0 begins with another digit than 0
  number-front : (bs : List ℕ) → is_number (b ∷ bs) ≡ true → 0 < number_of (b ∷ bs)
      → (is_digit b ≡ true) × (b ≡ zero_digit → ⊥) × (every is_digit bs ≡ true)
  unfolding is_number number_of read_on every
  number-front [] h some = (h, λ e. omega arith, refl)
  number-front (c ∷ bs) h some = number-parts c bs h

-- ---- a number by its last digit

read_next : (a : ℕ) (xs : List ℕ) (d : ℕ) → read_on a (xs ++ (d ∷ [])) ≡ 10 * read_on a xs + (d - zero_digit)
unfolding read_on
read_next a [] d = refl
read_next a (x ∷ xs) d = read_next (10 * a + (x - zero_digit)) xs d

number-next : (xs : List ℕ) (d : ℕ) → number_of (xs ++ (d ∷ [])) ≡ 10 * number_of xs + (d - zero_digit)
unfolding number_of
number-next xs d = read_next 0 xs d

number-longer : (s : List ℕ) (d : ℕ) → is_number s ≡ true → 0 < number_of s → is_digit d ≡ true → is_number (s ++ (d ∷ [])) ≡ true
unfolding is_number every
number-longer [] d h some digit = absurd (false≢true h)
number-longer (b ∷ bs) d h some digit =
    let (first, other, rest) = number-front b bs h some in
    number-made b (bs ++ (d ∷ [])) first other (every_append is_digit bs (d ∷ []) ∙ simp (rest, digit))

-- one digit, or a number above 0 and a digit after it
abbrev NumberView : List ℕ → Type 0
NumberView t =
    ((b : ℕ) × (t ≡ b ∷ []) × (is_digit b ≡ true))
    ⊎ ((s : List ℕ) × (d : ℕ) × (t ≡ s ++ (d ∷ [])) × (is_number s ≡ true) × (0 < number_of s) × (is_digit d ≡ true))

last_split : (b : ℕ) (bs : List ℕ) → (s : List ℕ) × (d : ℕ) × (b ∷ bs ≡ s ++ (d ∷ []))
last_split b [] = ([], b, refl)
last_split b (c ∷ bs) = let (s, d, e) = last_split c bs in (b ∷ s, d, ap (λ (l : List ℕ). b ∷ l) e)

number_view : (t : List ℕ) → is_number t ≡ true → NumberView t
unfolding is_number every
number_view [] h = absurd (false≢true h)
number_view (b ∷ []) h = inl (b, refl, h)
number_view (b ∷ c ∷ bs) h =
    let (first, other, rest) = number-parts b c bs h in
    let (s, d, e) = last_split c bs in
    let p = (and-eq-true_iff (every is_digit s) (every is_digit (d ∷ []))).0 (sym (every_append is_digit s (d ∷ [])) ∙ ap (every is_digit) (sym e) ∙ rest) in
    inr (b ∷ s, d, ap (λ (l : List ℕ). b ∷ l) e, number-made b s first other p.0, number-positive b s first other, ((and-eq-true_iff (is_digit d) true).0 p.1).0)

-- ---- written and read again

module _ (f n : ℕ) (h : n < 10) where
  one_number : number_of (digits_of (suc f) n) ≡ n
  unfolding number_of read_on
  one_number = rw (digits_one f n h) (omega arith)

  one_is_number : is_number (digits_of (suc f) n) ≡ true
  unfolding is_number
  one_is_number = rw (digits_one f n h) (digit_within (zero_digit + n) (omega arith) (omega arith))

pub digits_number : (f n : ℕ) → n < 10 ^ suc f → number_of (digits_of (suc f) n) ≡ n
digits_number zero n h = one_number zero n (omega (arith, pow-succ' 10 0))
digits_number (suc f) n h = go (dec_le 10 n) (digits_number f (n / 10) (tenth_below (suc f) n h))
  where
    go : Dec (10 ≤ n) → number_of (digits_of (suc f) (n / 10)) ≡ n / 10 → number_of (digits_of (suc (suc f)) n) ≡ n
    go (no few) tenth = one_number (suc f) n (omega arith)
    go (yes many) tenth =
        rw (digits_more (suc f) n many)
        (number-next (digits_of (suc f) (n / 10)) (zero_digit + n % 10) ∙ omega arith)

pub digits-is_number : (f n : ℕ) → n < 10 ^ suc f → is_number (digits_of (suc f) n) ≡ true
digits-is_number zero n h = one_is_number zero n (omega (arith, pow-succ' 10 0))
digits-is_number (suc f) n h =
    let small = tenth_below (suc f) n h in
    go (dec_le 10 n) (digits-is_number f (n / 10) small) (digits_number f (n / 10) small)
  where
    go : Dec (10 ≤ n) → is_number (digits_of (suc f) (n / 10)) ≡ true → number_of (digits_of (suc f) (n / 10)) ≡ n / 10
        → is_number (digits_of (suc (suc f)) n) ≡ true
    go (no few) tenth value = one_is_number (suc f) n (omega arith)
    go (yes many) tenth value =
        rw (digits_more (suc f) n many)
        (number-longer (digits_of (suc f) (n / 10)) (zero_digit + n % 10) tenth (omega arith) (digit_within (zero_digit + n % 10) (omega arith) (omega arith)))

-- ---- read and written again

one_digits : (f b : ℕ) → is_digit b ≡ true → digits_of (suc f) (number_of (b ∷ [])) ≡ b ∷ []
unfolding number_of read_on
one_digits f b h =
    let (low, high) = digit-bounds b h in
    let e : zero_digit + (10 * 0 + (b - zero_digit)) ≡ b = omega arith in
    digits_one f (10 * 0 + (b - zero_digit)) (omega arith) ∙ ap (λ (x : ℕ). x ∷ []) e

more_digits : (f : ℕ) (s : List ℕ) (d : ℕ) → is_digit d ≡ true → 0 < number_of s → digits_of f (number_of s) ≡ s
    → digits_of (suc f) (number_of (s ++ (d ∷ []))) ≡ s ++ (d ∷ [])
more_digits f s d digit some tenth =
    let (low, high) = digit-bounds d digit in
    let n : ℕ = 10 * number_of s + (d - zero_digit) in
    let p : n / 10 ≡ number_of s = omega arith in
    let q : zero_digit + n % 10 ≡ d = omega arith in
    ap (digits_of (suc f)) (number-next s d)
    ∙ digits_more f n (omega arith)
    ∙ ap₂ (λ (l : List ℕ) (x : ℕ). l ++ (x ∷ [])) (ap (digits_of f) p ∙ tenth) q

view_digits : (f : ℕ) (t : List ℕ) → NumberView t → number_of t < 10 ^ suc f
    → ((s : List ℕ) → is_number s ≡ true → 0 < number_of s → number_of s < 10 ^ f → digits_of f (number_of s) ≡ s)
    → digits_of (suc f) (number_of t) ≡ t
view_digits f t (inl (b, e, digit)) small tenth = rw e (one_digits f b digit)
view_digits f t (inr (s, d, e, is, some, digit)) small tenth =
    rw e (more_digits f s d digit some (tenth s is some (omega (arith, ap number_of e ∙ number-next s d, pow-succ' 10 f))))

pub number_digits : (f : ℕ) (t : List ℕ) → is_number t ≡ true → number_of t < 10 ^ suc f → digits_of (suc f) (number_of t) ≡ t
number_digits zero t h small = view_digits zero t (number_view t h) small (λ s is some none. absurd (omega arith))
number_digits (suc f) t h small = view_digits (suc f) t (number_view t h) small (λ s is some less. number_digits f s is less)

-- ---- a number does not begin with a minus

pub number_begins : (t : List ℕ) → is_number t ≡ true → (0 < length t) × (get_or t 0 0 ≡ minus → ⊥)
unfolding is_number
number_begins [] h = absurd (false≢true h)
number_begins (b ∷ []) h = (omega arith, λ e. omega (arith, digit-bounds b h))
number_begins (b ∷ c ∷ bs) h = (omega arith, λ e. omega (arith, digit-bounds b (number-parts b c bs h).0))

-- ---- the bytes of a signed number

number-bytes : (t : List ℕ) → is_number t ≡ true → every is_digit t ≡ true
unfolding is_number every
number-bytes [] h = refl
number-bytes (b ∷ []) h = simp h
number-bytes (b ∷ c ∷ bs) h = let (first, other, rest) = number-parts b c bs h in (and-eq-true_iff (is_digit b) (every is_digit (c ∷ bs))).1 (first, rest)

-- no byte of it lies below the minus: no space, no line end
module _ (c : ℕ) (low : c < minus) where
  other_byte : (b : ℕ) → minus ≤ b → not (eqb b c) ≡ true
  other_byte b h = ap not (ne_eqb b c (λ e. omega arith))

  number-without : (t : List ℕ) → is_number t ≡ true → every (λ b. not (eqb b c)) t ≡ true
  number-without t h =
      every-intro (λ b. not (eqb b c)) t (λ b m. other_byte b (omega (arith, digit-bounds b (every-elim is_digit t (number-bytes t h) b m))))

  pub signed-without : (t : List ℕ) → is_signed t ≡ true → every (λ b. not (eqb b c)) t ≡ true
  unfolding is_signed every
  signed-without [] h = refl
  signed-without (b ∷ bs) h = go (eqb b minus) refl h
    where
      go : (t : Bool) → eqb b minus ≡ t → cond t (is_number bs && not (eqb (number_of bs) 0)) (is_number (b ∷ bs)) ≡ true
          → every (λ b. not (eqb b c)) (b ∷ bs) ≡ true
      go true e k =
          let first = other_byte b (omega (arith, eqb-true b minus e)) in
          (and-eq-true_iff (not (eqb b c)) (every (λ b. not (eqb b c)) bs)).1
          (first, number-without bs ((and-eq-true_iff (is_number bs) (not (eqb (number_of bs) 0))).0 k).0)
      go false e k = number-without (b ∷ bs) k
