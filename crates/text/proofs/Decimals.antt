-- Numbers in decimal, digit by digit from the last one. What carries it: the digits of a number are those of its tenth and its last digit, a number
-- below 10 is one digit, and a bound on how many there are changes nothing where they fit (`digits-fit`).
use Prim.Native.Nat.{ℕ, zero, suc, ◌+◌, ◌-◌, ◌/◌, ◌%◌, ◌^◌, ◌≤◌, ◌<◌}
use mathlib.Core.Path.{◌≡◌, sym, ap, ◌∙◌}
use mathlib.Core.List.{List, [], ◌∷◌, ◌++◌, append_assoc, append-nil}
use native.Mathlib.Nat.{le_trans, pow-succ', pow-le-pow_right}
use native.Mathlib.Decide.{dec_le}
use native.Mathlib.Omega.{arith}
use lib.ListN.{length, get_or, set, take, drop, length-append, length-drop, length-set, drop_of_length-le}
use lib.Seq.{drop-cons, drop-set-lt, get_or-set_same}
use borrow.Author.Tests.{lt-ltb, le-ltb}
use Rattle.pauli_word.proofs.Words.{rest_part}
use Rattle.text.specs.Text.{zero_digit, digits_of, wide_digits, decimal, max_digits, max_written}

pub digits_one : (f n : ℕ) → n < 10 → digits_of (suc f) n ≡ (zero_digit + n) ∷ []
unfolding digits_of
digits_one f n h = rw (lt-ltb n 10 h)

pub digits_more : (f n : ℕ) → 10 ≤ n → digits_of (suc f) n ≡ digits_of f (n / 10) ++ ((zero_digit + n % 10) ∷ [])
unfolding digits_of
digits_more f n h = rw (le-ltb n 10 h)

-- the tenth of a number has a digit less
pub tenth_below : (f n : ℕ) → n < 10 ^ suc f → n / 10 < 10 ^ f
tenth_below f n h = omega (arith, pow-succ' 10 f)

digits_most : (f n : ℕ) → length (digits_of f n) ≤ f
unfolding digits_of
digits_most zero n = omega arith
digits_most (suc f) n = go (dec_le 10 n) (digits_most f (n / 10))
  where
    go : Dec (10 ≤ n) → length (digits_of f (n / 10)) ≤ f → length (digits_of (suc f) n) ≤ suc f
    go (no few) tenth = rw (digits_one f n (omega arith)) (omega arith)
    go (yes many) tenth = rw (digits_more f n many) (omega (arith, length-append (digits_of f (n / 10)) ((zero_digit + n % 10) ∷ [])))

digits_fit : (f g n : ℕ) → f ≤ g → n < 10 ^ suc f → digits_of (suc g) n ≡ digits_of (suc f) n
digits_fit zero g n l h = let small : n < 10 = omega (arith, pow-succ' 10 0) in digits_one g n small ∙ sym (digits_one zero n small)
digits_fit (suc f) zero n l h = absurd (omega arith)
digits_fit (suc f) (suc g) n l h = go (dec_le 10 n) (digits_fit f g (n / 10) (omega arith) (tenth_below (suc f) n h))
  where
    go : Dec (10 ≤ n) → digits_of (suc g) (n / 10) ≡ digits_of (suc f) (n / 10) → digits_of (suc (suc g)) n ≡ digits_of (suc (suc f)) n
    go (no few) tenth = let small : n < 10 = omega arith in digits_one (suc g) n small ∙ sym (digits_one (suc f) n small)
    go (yes many) tenth =
        digits_more (suc g) n many
        ∙ ap (λ (l : List ℕ). l ++ ((zero_digit + n % 10) ∷ [])) tenth
        ∙ sym (digits_more (suc f) n many)

-- ---- a number of at most suc k digits

decimal-digits : (k n : ℕ) → k < wide_digits → n < 10 ^ suc k → decimal n ≡ digits_of (suc k) n
unfolding decimal
decimal-digits k n wide h = digits_fit k (wide_digits - 1) n (omega arith) h

pub decimal-length : (k n : ℕ) → k < wide_digits → n < 10 ^ suc k → length (decimal n) ≤ suc k
decimal-length k n wide h = rw (decimal-digits k n wide h) (digits_most (suc k) n)

pub written_short : (n : ℕ) → n < max_written → length (decimal n) ≤ max_digits
written_short n h = decimal-length (max_digits - 1) n (omega arith) h

pub decimal_most : (n : ℕ) → length (decimal n) ≤ wide_digits
unfolding decimal
decimal_most n = digits_most wide_digits n

decimal_one : (n : ℕ) → n < 10 → decimal n ≡ (zero_digit + n) ∷ []
unfolding decimal
decimal_one n h = digits_one (wide_digits - 1) n h

decimal_more : (n : ℕ) → 10 ≤ n → n < 10 ^ wide_digits → decimal n ≡ decimal (n / 10) ++ ((zero_digit + n % 10) ∷ [])
unfolding decimal
decimal_more n many h =
    digits_more (wide_digits - 1) n many
    ∙ ap (λ (l : List ℕ). l ++ ((zero_digit + n % 10) ∷ []))
    (sym (decimal-digits (wide_digits - 2) (n / 10) (omega arith) (tenth_below (wide_digits - 1) n h)))

-- ---- the loop that fills d places from the last one: what is left of the number, and the place of its last digit

abbrev pub Filled : ℕ → ℕ → List ℕ → ℕ → ℕ → Type 0
Filled d number list rest i =
    (i < d) × (length list ≡ d) × (rest < 10 ^ suc i) × (get_or list i 0 ≡ zero_digit + rest % 10) × (decimal rest ++ drop (suc i) list ≡ decimal number)

pub filled-start :
    (d number : ℕ) (list : List ℕ) → 0 < d → number < 10 ^ d → length list ≡ d
    → Filled d number (set list (d - 1) (zero_digit + number % 10)) number (d - 1)
filled-start zero number list some h l = absurd (omega arith)
filled-start (suc i) number list some h l =
    let e : suc i - 1 ≡ i = omega arith in
    let b : ℕ = zero_digit + number % 10 in
    let same : length (set list i b) ≡ suc i = length-set list i b ∙ l in
    rw e (
      omega arith,
      same,
      h,
      get_or-set_same list i b 0 (omega arith),
      rw (drop_of_length-le (set list i b) {i = suc i} (omega arith)) (append-nil (decimal number)),
    )

module _ (d number : ℕ) (list : List ℕ) (rest i : ℕ) (wide : d ≤ wide_digits) (filled : Filled d number list rest i) where
  pub filled-place : 10 ≤ rest → 1 ≤ i
  filled-place many = go i filled.2
    where
      go : (j : ℕ) → rest < 10 ^ suc j → 1 ≤ j
      go zero h = absurd (omega (arith, pow-succ' 10 0))
      go (suc j) h = omega arith

  pub filled_next : 10 ≤ rest → Filled d number (set list (i - 1) (zero_digit + rest / 10 % 10)) (rest / 10) (i - 1)
  filled_next many = go i (filled-place many) filled
    where
      go : (j : ℕ) → 1 ≤ j → Filled d number list rest j → Filled d number (set list (j - 1) (zero_digit + rest / 10 % 10)) (rest / 10) (j - 1)
      go zero h f = absurd (omega arith)
      go (suc j) h (few, long, small, last, all) =
          let e : suc j - 1 ≡ j = omega arith in
          let b : ℕ = zero_digit + rest / 10 % 10 in
          let fits : rest < 10 ^ wide_digits = le_trans small (pow-le-pow_right {n = 10} (omega arith) {i = suc (suc j)} {j = wide_digits} (omega arith)) in
          rw e (
            omega arith,
            length-set list j b ∙ long,
            tenth_below (suc j) rest small,
            get_or-set_same list j b 0 (omega arith),
            ap (λ (l : List ℕ). decimal (rest / 10) ++ l)
                (drop-set-lt (suc j) list j b (omega arith)
                ∙ drop-cons list (suc j) 0 (omega arith)
                ∙ ap (λ (x : ℕ). x ∷ drop (suc (suc j)) list) last)
                ∙ sym (append_assoc (decimal (rest / 10)) ((zero_digit + rest % 10) ∷ []) (drop (suc (suc j)) list))
                ∙ ap (λ (l : List ℕ). l ++ drop (suc (suc j)) list) (sym (decimal_more rest many fits))
                ∙ all,
          )

  pub filled-end : rest < 10 → (i + length (decimal number) ≡ d) × (drop i list ≡ decimal number)
  filled-end few =
      let one : rest % 10 ≡ rest = omega arith in
      let same : drop i list ≡ decimal number =
      drop-cons list i 0 (omega (arith, filled.0, filled.1))
      ∙ ap (λ (x : ℕ). x ∷ drop (suc i) list) (filled.3 ∙ ap (λ (k : ℕ). zero_digit + k) one)
      ∙ ap (λ (l : List ℕ). l ++ drop (suc i) list) (sym (decimal_one rest few))
      ∙ filled.4
      in
      (omega (arith, sym (ap length same) ∙ length-drop i list, filled.0, filled.1), same)

-- the rest of a list of d places from a place on, as a slice of it
pub rest_slice : (list : List ℕ) (i d : ℕ) → length list ≡ d → take (d - i) (drop i list) ≡ drop i list
rest_slice list i d l = rw (sym l) (rest_part i list)
