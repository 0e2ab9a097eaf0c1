-- A plane of any length as bits: its digits at a position, what storing a byte and dropping bits do, and that bytes and bits go into each
-- other without loss. A position q is byte q / 8 and digit q % 8 (`position`); the laws are by induction on the byte's place.
use Prim.Native.Nat.{ℕ, zero, suc, ◌+◌, ◌-◌, ◌*◌, ◌/◌, ◌%◌, ◌^◌, ◌<◌, ◌≤◌}
use mathlib.Core.Path.{◌≡◌, refl, sym, ap, ap₂, subst, ◌∙◌}
use mathlib.Core.Logic.{⊎_elim}
use mathlib.Core.Bool.{Bool, true, false, ◌&&◌, ◌||◌, and_assoc, and-true}
use mathlib.Core.List.{List, [], ◌∷◌, ◌++◌, append_assoc}
use native.Mathlib.Nat.{mod-lt, div-add-mod, le_of_suc-le-suc, not-suc-le-zero, le_of_lt, lt_of_lt_of_le, zero-div, suc-add, zero-add, one-mul, mod-eq_of_lt, min-le_left}
use native.Mathlib.Numerals.{add-one}
use native.Mathlib.Omega.{arith}
use lib.Bits.{bit_or}
use lib.Dec.{eqb}
use lib.ListN.{length, get_or, set, take, drop, length-append, length-take, drop_of_length-le, get_or-append, get_or-eq_default}
use lib.Seq.{get_or-append-add, set-append_left, set_out, set-get_or, drop-append-add, drop-append-le, drop-cons, drop-nil, take_at, drop_at}
use lib.Pow.{pow_mono, pow-lt, shr_lt}
use Rattle.pauli_word.specs.Bytes.{odd, low_bits, number, plane_bits, plane_of, clear, clear_from, Bytes, byte_values}
use Rattle.pauli_word.proofs.Bits.{pad, odd_cases, low_bits_length, number_low_bits, low_bits_number, number-below, low_bits_at, low_bits_set, set_fits, low_bits_drop, low_bits_clear, or_none}

pub position : (q : ℕ) → 8 * (q / 8) + q % 8 ≡ q
position q = div-add-mod q 8

digit : (q : ℕ) → q % 8 < 8
digit q = mod-lt q (omega arith)

pub plane_bits-length : (p : List ℕ) → length (plane_bits p) ≡ 8 * length p
unfolding plane_bits
plane_bits-length [] = refl
plane_bits-length (x ∷ p) =
    length-append (low_bits 8 x) (plane_bits p) ∙ ap₂ ◌+◌ (low_bits_length 8 x) (plane_bits-length p) ∙ omega arith

pub plane_bits-append : (p r : List ℕ) → plane_bits (p ++ r) ≡ plane_bits p ++ plane_bits r
unfolding plane_bits
plane_bits-append [] r = refl
plane_bits-append (x ∷ p) r =
    ap (λ (t : List Bool). low_bits 8 x ++ t) (plane_bits-append p r) ∙ sym (append_assoc (low_bits 8 x) (plane_bits p) (plane_bits r))

-- ---- a position by its byte and its digit

start : (r : ℕ) → 8 * zero + r ≡ r
start r = omega arith

next : (j r : ℕ) → 8 * suc j + r ≡ 8 + (8 * j + r)
next j r = omega arith

at_next : (x : ℕ) (p : List ℕ) (i : ℕ) → get_or (low_bits 8 x ++ plane_bits p) (8 + i) false ≡ get_or (plane_bits p) i false
at_next x p i = ap (λ (k : ℕ). get_or (low_bits 8 x ++ plane_bits p) (k + i) false) (sym (low_bits_length 8 x)) ∙ get_or-append-add (low_bits 8 x) (plane_bits p) i false

at_byte : (p : List ℕ) (j r : ℕ) → r < 8 → get_or (plane_bits p) (8 * j + r) false ≡ odd (get_or p j 0 / 2 ^ r)
unfolding plane_bits
at_byte [] j r h = ap odd (sym (zero-div (2 ^ r)))
at_byte (x ∷ p) zero r h =
    ap (λ (i : ℕ). get_or (low_bits 8 x ++ plane_bits p) i false) (start r)
    ∙ get_or-append (low_bits 8 x) (plane_bits p) false r (subst (λ (k : ℕ). r < k) (sym (low_bits_length 8 x)) h)
    ∙ low_bits_at 8 x r h
at_byte (x ∷ p) (suc j) r h = ap (λ (i : ℕ). get_or (low_bits 8 x ++ plane_bits p) i false) (next j r) ∙ at_next x p (8 * j + r) ∙ at_byte p j r h

-- site q is bit q mod 8 of byte q div 8
pub plane_bits-at : (p : List ℕ) (q : ℕ) → get_or (plane_bits p) q false ≡ odd (get_or p (q / 8) 0 / 2 ^ (q % 8))
plane_bits-at p q = ap (λ (i : ℕ). get_or (plane_bits p) i false) (sym (position q)) ∙ at_byte p (q / 8) (q % 8) (digit q)

-- past its end a plane reads as 0, and setting a bit there does nothing
pub plane_bits_past : (p : List ℕ) (q : ℕ) → length p ≤ q / 8 → get_or (plane_bits p) q false ≡ false
plane_bits_past p q h = plane_bits-at p q ∙ ap odd (ap (λ (x : ℕ). x / 2 ^ (q % 8)) (get_or-eq_default p 0 h) ∙ zero-div (2 ^ (q % 8)))

pub or_past : (p : List ℕ) (q : ℕ) (b : Bool) → length p ≤ q / 8 → plane_bits p ≡ set (plane_bits p) q b
or_past p q b h = sym (set_out (plane_bits p) q b (subst (λ (k : ℕ). k ≤ q) (sym (plane_bits-length p)) (omega (arith, position q))))

set_append_right : (xs ys : List Bool) (i : ℕ) (b : Bool) → set (xs ++ ys) (length xs + i) b ≡ xs ++ set ys i b
set_append_right [] ys i b = ap (λ (k : ℕ). set ys k b) (omega arith)
set_append_right (x ∷ xs) ys i b = ap (λ (k : ℕ). set (x ∷ xs ++ ys) k b) (suc-add (length xs) i) ∙ ap (λ (t : List Bool). x ∷ t) (set_append_right xs ys i b)

set_byte : (p : List ℕ) (j r : ℕ) → r < 8 → odd (get_or p j 0 / 2 ^ r) ≡ false → j < length p → plane_bits (set p j (get_or p j 0 + 2 ^ r)) ≡ set (plane_bits p) (8 * j + r) true
unfolding plane_bits
set_byte [] j r h e l = absurd (not-suc-le-zero l)
set_byte (x ∷ p) zero r h e l =
    ap (λ (t : List Bool). t ++ plane_bits p) (low_bits_set 8 x r h e)
    ∙ sym (set-append_left (low_bits 8 x) (plane_bits p) r true (subst (λ (k : ℕ). r < k) (sym (low_bits_length 8 x)) h))
    ∙ ap (λ (i : ℕ). set (low_bits 8 x ++ plane_bits p) i true) (sym (start r))
set_byte (x ∷ p) (suc j) r h e l =
    ap (λ (t : List Bool). low_bits 8 x ++ t) (set_byte p j r h e (le_of_suc-le-suc l))
    ∙ sym (set_append_right (low_bits 8 x) (plane_bits p) (8 * j + r) true)
    ∙ ap (λ (i : ℕ). set (low_bits 8 x ++ plane_bits p) i true) (ap (λ (k : ℕ). k + (8 * j + r)) (low_bits_length 8 x) ∙ sym (next j r))

-- to set bit q, which is 0, is to add its power of 2 to its byte
pub plane_bits-set : (p : List ℕ) (q : ℕ) → odd (get_or p (q / 8) 0 / 2 ^ (q % 8)) ≡ false → q / 8 < length p
    → plane_bits (set p (q / 8) (get_or p (q / 8) 0 + 2 ^ (q % 8))) ≡ set (plane_bits p) q true
plane_bits-set p q e l = set_byte p (q / 8) (q % 8) (digit q) e l ∙ ap (λ (i : ℕ). set (plane_bits p) i true) (position q)

-- ---- what `or_bit` does, case by case, to the byte x of bit q

-- a power of 2 below byte_values, as it is shifted in a byte
shifted_one : (q : ℕ) → 1 * 2 ^ (q % 8) % byte_values ≡ 2 ^ (q % 8)
shifted_one q = ap (λ (x : ℕ). x % byte_values) (one-mul (2 ^ (q % 8))) ∙ mod-eq_of_lt (pow-lt (digit q))

-- a bit that was 0
even-digit : (x : ℕ) → x % 2 ≡ 0 → odd x ≡ false
even-digit x e = ap (λ (r : ℕ). eqb r 1) e

odd-digit : (x : ℕ) → (x % 2 ≡ 0 → ⊥) → odd x ≡ true
odd-digit x h = ⊎_elim (λ e. absurd (h e.0)) (λ e. e.1) (odd_cases x)

or_false : (b : Bool) → (b || false) ≡ b
or_false true = refl
or_false false = refl

module _ (p : List ℕ) (q : ℕ) where
  pub or-fits : get_or p (q / 8) 0 < byte_values → get_or p (q / 8) 0 / 2 ^ (q % 8) % 2 ≡ 0 → get_or p (q / 8) 0 + 1 * 2 ^ (q % 8) % byte_values < byte_values
  or-fits h e = rw (shifted_one q) (set_fits 8 (get_or p (q / 8) 0) (q % 8) (digit q) (even-digit (get_or p (q / 8) 0 / 2 ^ (q % 8)) e) h)

  pub or-sets : (b : Bool) → q / 8 < length p → b ≡ true → get_or p (q / 8) 0 / 2 ^ (q % 8) % 2 ≡ 0
      → plane_bits (set p (q / 8) (get_or p (q / 8) 0 + 1 * 2 ^ (q % 8) % byte_values)) ≡ set (plane_bits p) q (get_or (plane_bits p) q false || b)
  or-sets b l t e =
      let z = even-digit (get_or p (q / 8) 0 / 2 ^ (q % 8)) e in
      ap (λ (y : ℕ). plane_bits (set p (q / 8) (get_or p (q / 8) 0 + y))) (shifted_one q)
      ∙ plane_bits-set p q z l
      ∙ ap (set (plane_bits p) q) (sym (ap₂ ◌||◌ (plane_bits-at p q ∙ z) t))

  -- what was set stays
  or-keeps : (b : Bool) → (get_or (plane_bits p) q false || b) ≡ get_or (plane_bits p) q false → plane_bits p ≡ set (plane_bits p) q (get_or (plane_bits p) q false || b)
  or-keeps b e = sym (ap (set (plane_bits p) q) e ∙ set-get_or (plane_bits p) q false)

  pub or-set-already : (b : Bool) → (get_or p (q / 8) 0 / 2 ^ (q % 8) % 2 ≡ 0 → ⊥) → plane_bits p ≡ set (plane_bits p) q (get_or (plane_bits p) q false || b)
  or-set-already b h =
      let z = plane_bits-at p q ∙ odd-digit (get_or p (q / 8) 0 / 2 ^ (q % 8)) h in
      or-keeps b (ap (λ (t : Bool). t || b) z ∙ sym z)

  pub or_nothing : (b : Bool) → b ≡ false → plane_bits p ≡ set (plane_bits p) q (get_or (plane_bits p) q false || b)
  or_nothing b e = or-keeps b (ap (λ (t : Bool). get_or (plane_bits p) q false || t) e ∙ or_false (get_or (plane_bits p) q false))

-- ---- no bit at or above a position

pub clear-append : (xs ys : List Bool) → clear (xs ++ ys) ≡ (clear xs && clear ys)
unfolding clear
clear-append [] ys = refl
clear-append (true ∷ xs) ys = refl
clear-append (false ∷ xs) ys = clear-append xs ys

clear_byte : (p : List ℕ) (j r : ℕ) → Bytes p → r < 8 → j < length p → clear (drop (8 * j + r) (plane_bits p)) ≡ (eqb (get_or p j 0 / 2 ^ r) 0 && clear (plane_bits (drop (suc j) p)))
unfolding plane_bits
clear_byte [] j r b h l = absurd (not-suc-le-zero l)
clear_byte (x ∷ p) zero r b h l =
    let e : ◌≡◌ {A = ℕ} 8 (8 - r + r) = omega arith in
    ap (λ (i : ℕ). clear (drop i (low_bits 8 x ++ plane_bits p))) (start r)
    ∙ ap clear (drop-append-le r (low_bits 8 x) (plane_bits p) (subst (λ (k : ℕ). r ≤ k) (sym (low_bits_length 8 x)) (le_of_lt h)))
    ∙ clear-append (drop r (low_bits 8 x)) (plane_bits p)
    ∙ ap (λ (t : Bool). t && clear (plane_bits p)) (ap clear (low_bits_drop 8 x r (le_of_lt h)) ∙ low_bits_clear (8 - r) (x / 2 ^ r) (shr_lt (8 - r) r (subst (λ (k : ℕ). x < 2 ^ k) e b.0)))
clear_byte (x ∷ p) (suc j) r b h l =
    ap (λ (i : ℕ). clear (drop i (low_bits 8 x ++ plane_bits p))) (next j r ∙ ap (λ (k : ℕ). k + (8 * j + r)) (sym (low_bits_length 8 x)))
    ∙ ap clear (drop-append-add (low_bits 8 x) (plane_bits p) (8 * j + r))
    ∙ clear_byte p j r b.1 h (le_of_suc-le-suc l)

-- bytes, by their bound at each place
pub bytes_of_lem : (p : List ℕ) → ((i : ℕ) → get_or p i 0 < byte_values) → Bytes p
bytes_of_lem [] h = tt
bytes_of_lem (x ∷ p) h = (h 0, bytes_of_lem p (λ i. h (suc i)))

-- ---- what `clear_from` looks at: the rest of byte n / 8, and then the bytes after it

clear_from_byte : (p : List ℕ) (n : ℕ) → Bytes p → n / 8 < length p
    → clear_from n p ≡ (eqb (get_or p (n / 8) 0 / 2 ^ (n % 8)) 0 && clear (plane_bits (drop (suc (n / 8)) p)))
unfolding clear_from
clear_from_byte p n b l = ap (λ (i : ℕ). clear (drop i (plane_bits p))) (sym (position n)) ∙ clear_byte p (n / 8) (n % 8) b (digit n) l

module _ (p : List ℕ) (n : ℕ) where
  pub clear_from_past : length p ≤ n / 8 → clear_from n p ≡ true
  unfolding clear_from clear
  clear_from_past l = ap clear (drop_of_length-le (plane_bits p) (subst (λ (k : ℕ). k ≤ n) (sym (plane_bits-length p)) (omega (arith, position n))))

  -- the rest of byte n / 8, and the bytes after it
  pub clear_from-start : Bytes p → n / 8 < length p
      → clear_from n p ≡ (eqb (get_or p (n / 8) 0 / 2 ^ (n % 8)) 0 && clear (plane_bits (drop (n / 8 + 1) p)))
  clear_from-start b l = rw add-one (clear_from_byte p n b l)

clear_at : (p : List ℕ) (j : ℕ) → j < length p → get_or p j 0 < byte_values → clear (plane_bits (drop j p)) ≡ (eqb (get_or p j 0) 0 && clear (plane_bits (drop (suc j) p)))
unfolding plane_bits
clear_at p j l h =
    ap (λ (r : List ℕ). clear (plane_bits r)) (drop-cons p j 0 l)
    ∙ clear-append (low_bits 8 (get_or p j 0)) (plane_bits (drop (suc j) p))
    ∙ ap (λ (t : Bool). t && clear (plane_bits (drop (suc j) p))) (low_bits_clear 8 (get_or p j 0) h)

-- bytes up to place j, put together by `or`, and those from there on
module _ (p : List ℕ) (j any : ℕ) where
  pub clear-more : j < length p → get_or p j 0 < byte_values
      → (eqb any 0 && clear (plane_bits (drop j p))) ≡ (eqb (bit_or any (get_or p j 0)) 0 && clear (plane_bits (drop (j + 1) p)))
  clear-more l h =
      rw (add-one, or_none any (get_or p j 0), clear_at p j l h)
      (sym (and_assoc (eqb any 0) (eqb (get_or p j 0) 0) (clear (plane_bits (drop (suc j) p)))))

  pub clear-end : length p ≤ j → (eqb any 0 && clear (plane_bits (drop j p))) ≡ eqb any 0
  unfolding plane_bits clear
  clear-end h = rw (drop_of_length-le p h) (and-true (eqb any 0))

-- ---- bits to bytes and back

pub pad-add : (a b : ℕ) (bs : List Bool) → pad (a + b) bs ≡ pad a bs ++ pad b (drop a bs)
unfolding pad
pad-add zero b bs = ap (λ (k : ℕ). pad k bs) (zero-add b)
pad-add (suc a) b [] = ap (λ (k : ℕ). pad k []) (suc-add a b) ∙ ap (λ (t : List Bool). false ∷ t) (pad-add a b [] ∙ ap (λ (t : List Bool). pad a [] ++ pad b t) (drop-nil a))
pad-add (suc a) b (c ∷ bs) = ap (λ (k : ℕ). pad k (c ∷ bs)) (suc-add a b) ∙ ap (λ (t : List Bool). c ∷ t) (pad-add a b bs)

pad-take : (k : ℕ) (bs : List Bool) → pad k (take k bs) ≡ pad k bs
unfolding pad
pad-take zero bs = refl
pad-take (suc k) [] = refl
pad-take (suc k) (b ∷ bs) = ap (λ (t : List Bool). b ∷ t) (pad-take k bs)

pub plane_of-length : (m : ℕ) (bs : List Bool) → length (plane_of m bs) ≡ m
unfolding plane_of
plane_of-length zero bs = refl
plane_of-length (suc m) bs = ap suc (plane_of-length m (drop 8 bs))

pub plane_of-bytes : (m : ℕ) (bs : List Bool) → Bytes (plane_of m bs)
unfolding plane_of
plane_of-bytes zero bs = tt
plane_of-bytes (suc m) bs =
    (lt_of_lt_of_le (number-below (take 8 bs)) (pow_mono (subst (λ (k : ℕ). k ≤ 8) (sym (length-take 8 bs)) (min-le_left 8 (length bs)))), plane_of-bytes m (drop 8 bs))

-- the plane of some bits holds them, and 0 above them
pub plane_bits-plane_of : (m : ℕ) (bs : List Bool) → plane_bits (plane_of m bs) ≡ pad (8 * m) bs
unfolding plane_bits plane_of pad
plane_bits-plane_of zero bs = refl
plane_bits-plane_of (suc m) bs =
    ap₂ ◌++◌ (low_bits_number 8 (take 8 bs) ∙ pad-take 8 bs) (plane_bits-plane_of m (drop 8 bs))
    ∙ sym (ap (λ (k : ℕ). pad k bs) {x = 8 * suc m} {y = 8 + 8 * m} (omega arith) ∙ pad-add 8 (8 * m) bs)

-- bytes are made again from all their bits
pub plane_of-plane_bits : (p : List ℕ) → Bytes p → plane_of (length p) (plane_bits p) ≡ p
unfolding plane_bits plane_of
plane_of-plane_bits [] b = refl
plane_of-plane_bits (x ∷ p) b =
    ap₂ ◌∷◌ (ap number (take_at (low_bits 8 x) (plane_bits p) 8 (low_bits_length 8 x)) ∙ number_low_bits 8 x b.0)
    (ap (plane_of (length p)) (drop_at (low_bits 8 x) (plane_bits p) 8 (low_bits_length 8 x)) ∙ plane_of-plane_bits p b.1)

-- two planes of the same length with the same bits are the same bytes
pub plane_bits_injective : (p r : List ℕ) → Bytes p → Bytes r → length p ≡ length r → plane_bits p ≡ plane_bits r → p ≡ r
plane_bits_injective p r bp br l e = sym (plane_of-plane_bits p bp) ∙ ap₂ plane_of l e ∙ plane_of-plane_bits r br
