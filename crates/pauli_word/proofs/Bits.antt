-- The binary digits of a number, least significant first: what they are, what setting one does, and when they are all 0. Each law is by
-- induction on the number of digits, from the two facts that b + 2 x has the lowest digit b and the half x.
use Prim.Native.Nat.{ℕ, zero, suc, ◌+◌, ◌-◌, ◌*◌, ◌/◌, ◌%◌, ◌^◌, ◌<◌, ◌≤◌}
use mathlib.Core.Path.{◌≡◌, refl, sym, ap, ap₂, ◌∙◌}
use mathlib.Core.Logic.{◌⊎◌, inl, inr}
use mathlib.Core.Bool.{Bool, true, false, ◌&&◌, not, false≢true}
use mathlib.Core.List.{List, [], ◌∷◌}
use native.Mathlib.Nat.{mod-lt, pow-succ', div-div-eq-div-mul, div-one, le_of_suc-le-suc, not-suc-le-zero, sub-zero, suc-sub-suc}
use native.Mathlib.Omega.{arith}
use lib.Bits.{bit_or, and_le_l, and_le_r, or_add_and}
use lib.Dec.{eqb, eqb-suc-zero}
use lib.ListN.{length, get_or, set, drop}
use borrow.Author.Tests.{eq-eqb, eqb-true, ne_eqb}
use Rattle.pauli_word.specs.Word.{bit}
use Rattle.pauli_word.specs.Bytes.{odd, low_bits, number, clear}

-- the first k of some bits, filled up with 0
unfoldable pub pad : ℕ → List Bool → List Bool
pad zero bs = []
pad (suc k) [] = false ∷ pad k []
pad (suc k) (b ∷ bs) = b ∷ pad k bs

odd_of : (x y : ℕ) → x % 2 ≡ y % 2 → odd x ≡ odd y
odd_of x y e = ap (λ (r : ℕ). eqb r 1) e

odd_cons : (b : Bool) (x : ℕ) → odd (bit b + 2 * x) ≡ b
odd_cons false x = odd_of (0 + 2 * x) 0 (omega arith)
odd_cons true x = odd_of (1 + 2 * x) 1 (omega arith)

half_cons : (b : Bool) (x : ℕ) → (bit b + 2 * x) / 2 ≡ x
half_cons false x = omega arith
half_cons true x = omega arith

pub odd_cases : (x : ℕ) → ((x % 2 ≡ 0) × (odd x ≡ false)) ⊎ ((x % 2 ≡ 1) × (odd x ≡ true))
odd_cases x = go (x % 2) (mod-lt x (omega arith)) refl
  where
    go : (r : ℕ) → r < 2 → x % 2 ≡ r → ((x % 2 ≡ 0) × (odd x ≡ false)) ⊎ ((x % 2 ≡ 1) × (odd x ≡ true))
    go zero h e = inl (e, ap (λ (r : ℕ). eqb r 1) e)
    go (suc zero) h e = inr (e, ap (λ (r : ℕ). eqb r 1) e)
    go (suc (suc r)) h e = absurd (not-suc-le-zero (le_of_suc-le-suc (le_of_suc-le-suc h)))

-- a number is its lowest digit and twice its half
bit-odd : (x : ℕ) → bit (odd x) + 2 * (x / 2) ≡ x
bit-odd x = go (odd_cases x)
  where
    go : ((x % 2 ≡ 0) × (odd x ≡ false)) ⊎ ((x % 2 ≡ 1) × (odd x ≡ true)) → bit (odd x) + 2 * (x / 2) ≡ x
    go (inl h) = rw h.1 (omega arith)
    go (inr h) = rw h.1 (omega arith)

pub low_bits_length : (k x : ℕ) → length (low_bits k x) ≡ k
unfolding low_bits
low_bits_length zero x = refl
low_bits_length (suc k) x = ap suc (low_bits_length k (x / 2))

pub number_low_bits : (k x : ℕ) → x < 2 ^ k → number (low_bits k x) ≡ x
unfolding low_bits number
number_low_bits zero x h = omega arith
number_low_bits (suc k) x h = ap (λ (y : ℕ). bit (odd x) + 2 * y) (number_low_bits k (x / 2) (omega arith)) ∙ bit-odd x

pub low_bits_number : (k : ℕ) (bs : List Bool) → low_bits k (number bs) ≡ pad k bs
unfolding low_bits number pad
low_bits_number zero bs = refl
low_bits_number (suc k) [] = ap (λ (t : List Bool). false ∷ t) (low_bits_number k [])
low_bits_number (suc k) (b ∷ bs) =
    ap₂ (λ (a : Bool) (t : List Bool). a ∷ t) (odd_cons b (number bs)) (ap (low_bits k) (half_cons b (number bs)) ∙ low_bits_number k bs)

pub number-below : (bs : List Bool) → number bs < 2 ^ length bs
unfolding number
number-below [] = omega arith
number-below (false ∷ bs) = let h = number-below bs in omega (arith, pow-succ' 2 (length bs))
number-below (true ∷ bs) = let h = number-below bs in omega (arith, pow-succ' 2 (length bs))

-- digit q of a number
pub low_bits_at : (k x q : ℕ) → q < k → get_or (low_bits k x) q false ≡ odd (x / 2 ^ q)
unfolding low_bits
low_bits_at zero x q h = absurd (not-suc-le-zero h)
low_bits_at (suc k) x zero h = ap odd (sym (div-one x))
low_bits_at (suc k) x (suc q) h =
    low_bits_at k (x / 2) q (le_of_suc-le-suc h)
    ∙ ap odd (div-div-eq-div-mul x 2 (2 ^ q) ∙ ap (λ (p : ℕ). x / p) (sym (pow-succ' 2 q)))

-- a digit that is 0 is set by adding its power of 2, which keeps the number below 2 ^ k
half_digit : (x q : ℕ) → odd (x / 2 ^ suc q) ≡ odd (x / 2 / 2 ^ q)
half_digit x q = ap odd (ap (λ (p : ℕ). x / p) (pow-succ' 2 q) ∙ sym (div-div-eq-div-mul x 2 (2 ^ q)))

even : (x : ℕ) → odd x ≡ false → x % 2 ≡ 0
even x e = go (odd_cases x)
  where
    go : ((x % 2 ≡ 0) × (odd x ≡ false)) ⊎ ((x % 2 ≡ 1) × (odd x ≡ true)) → x % 2 ≡ 0
    go (inl h) = h.0
    go (inr h) = let z : true ≡ false = cc in let w : ◌≡◌ {A = ℕ} 1 0 = ap bit z in omega arith

pub low_bits_set : (k x q : ℕ) → q < k → odd (x / 2 ^ q) ≡ false → low_bits k (x + 2 ^ q) ≡ set (low_bits k x) q true
unfolding low_bits
low_bits_set zero x q h e = absurd (not-suc-le-zero h)
low_bits_set (suc k) x zero h e =
    let p : x % 2 ≡ 0 = even x (ap odd (sym (div-one x)) ∙ e) in
    ap₂ (λ (a : Bool) (t : List Bool). a ∷ t) (odd_of (x + 1) 1 (omega arith)) (ap (low_bits k) (omega arith))
low_bits_set (suc k) x (suc q) h e =
    ap₂ (λ (a : Bool) (t : List Bool). a ∷ t) (odd_of (x + 2 ^ suc q) x (omega arith))
    (ap (low_bits k) (omega arith) ∙ low_bits_set k (x / 2) q (le_of_suc-le-suc h) (sym (half_digit x q) ∙ e))

pub set_fits : (k x q : ℕ) → q < k → odd (x / 2 ^ q) ≡ false → x < 2 ^ k → x + 2 ^ q < 2 ^ k
set_fits zero x q h e l = absurd (not-suc-le-zero h)
set_fits (suc k) x zero h e l = let p : x % 2 ≡ 0 = even x (ap odd (sym (div-one x)) ∙ e) in omega arith
set_fits (suc k) x (suc q) h e l =
    let r = set_fits k (x / 2) q (le_of_suc-le-suc h) (sym (half_digit x q) ∙ e) (omega arith) in omega arith

pub low_bits_drop : (k x q : ℕ) → q ≤ k → drop q (low_bits k x) ≡ low_bits (k - q) (x / 2 ^ q)
unfolding low_bits
low_bits_drop k x zero h = ap₂ low_bits (sym (sub-zero k)) (sym (div-one x))
low_bits_drop zero x (suc q) h = absurd (not-suc-le-zero h)
low_bits_drop (suc k) x (suc q) h =
    low_bits_drop k (x / 2) q (le_of_suc-le-suc h)
    ∙ ap₂ low_bits (sym (suc-sub-suc k q)) (div-div-eq-div-mul x 2 (2 ^ q) ∙ ap (λ (p : ℕ). x / p) (sym (pow-succ' 2 q)))

-- two numbers that are 0 together
zero-together : (a b : ℕ) → (a ≡ 0 → b ≡ 0) → (b ≡ 0 → a ≡ 0) → eqb a 0 ≡ eqb b 0
zero-together zero b f g = sym (eq-eqb b 0 (f refl))
zero-together (suc a) zero f g = eq-eqb (suc a) 0 (g refl)
zero-together (suc a) (suc b) f g = eqb-suc-zero a ∙ sym (eqb-suc-zero b)

-- no digit is set exactly if the number is 0
clear_step : (x : ℕ) → not (odd x) && eqb (x / 2) 0 ≡ eqb x 0
clear_step x = go (odd_cases x)
  where
    go : ((x % 2 ≡ 0) × (odd x ≡ false)) ⊎ ((x % 2 ≡ 1) × (odd x ≡ true)) → not (odd x) && eqb (x / 2) 0 ≡ eqb x 0
    go (inl e) = rw e.1 (zero-together (x / 2) x (λ h. omega arith) (λ h. omega arith))
    go (inr e) = rw e.1 (sym (ne_eqb x 0 (λ h. omega arith)))

pub low_bits_clear : (k x : ℕ) → x < 2 ^ k → clear (low_bits k x) ≡ eqb x 0
unfolding low_bits clear
low_bits_clear zero x h = let z : x ≡ 0 = omega arith in sym (eq-eqb x 0 z)
low_bits_clear (suc k) x h = ap (λ (t : Bool). not (odd x) && t) (low_bits_clear k (x / 2) (omega arith)) ∙ clear_step x

-- ---- two numbers put together by `or`

false_eq : (x : ℕ) → eqb x 0 ≡ false → x ≡ 0 → ⊥
false_eq x e z = false≢true (sym e ∙ eq-eqb x 0 z)

-- no bit is set in both together exactly if none is set in either
pub or_none : (a b : ℕ) → eqb (bit_or a b) 0 ≡ (eqb a 0 && eqb b 0)
or_none a b = go (eqb a 0) refl (eqb b 0) refl
  where
    go : (x : Bool) → eqb a 0 ≡ x → (y : Bool) → eqb b 0 ≡ y → eqb (bit_or a b) 0 ≡ (x && y)
    go true e true f = eq-eqb (bit_or a b) 0 (ap₂ bit_or (eqb-true a 0 e) (eqb-true b 0 f))
    go true e false f = ne_eqb (bit_or a b) 0 (λ z. false_eq b f (let whole = or_add_and a b in omega (arith, and_le_l a b, and_le_r a b)))
    go false e y f = ne_eqb (bit_or a b) 0 (λ z. false_eq a e (let whole = or_add_and a b in omega (arith, and_le_l a b, and_le_r a b)))
