-- The order of words of one length is a strict total order; `same` is equality; and comparing the bits of two accepted words is comparing
-- the words. The last goes by parts: the first difference of two lists is that of their first parts, or else that of their rest.
use Rattle.std.specs.declared.cmp.Ordering.{Ordering}
use Rattle.std.specs.declared.cmp.Ordering.TheVariants.{Less, Equal, Greater}
use Prim.Native.Nat.{ℕ, suc, ◌+◌, ◌-◌, ◌*◌, ◌/◌, ◌%◌, ◌<◌, ◌≤◌, min}
use mathlib.Core.Path.{◌≡◌, refl, sym, ap, ap₂, ◌∙◌}
use mathlib.Core.Logic.{◌⊎◌, inl, inr}
use mathlib.Core.Bool.{Bool, true, false, ◌&&◌, false≢true, and-eq-true_iff}
use mathlib.Core.List.{List, [], ◌∷◌, ◌++◌, map}
use native.Mathlib.Nat.{suc_inj, suc-ne-zero, le_antisymm}
use native.Mathlib.Numerals.{add-one}
use native.Mathlib.Decide.{dec_le}
use native.Mathlib.Omega.{arith}
use lib.Dec.{eqb}
use lib.ListN.{length, get_or, take, drop, drop_of_length-le, length-append, length-map, length-take, length-drop, take-append-drop}
use lib.Seq.{take_at, drop_at, drop-cons}
use Rattle.pauli_word.specs.Word.{Letter, I, X, Y, Z, Word, x_bit, z_bit, bits, same_letter, same, less_bits, less}
use Rattle.pauli_word.specs.Bytes.{odd, low_bits, number, plane_bits, letters_of, decode, clear, clear_from, Accepted, byte_values}
use Rattle.pauli_word.specs.Calls.{order_of_bits, order_of_words}
use Rattle.pauli_word.proofs.Bits.{odd_cases, low_bits_length, number_low_bits}
use Rattle.pauli_word.proofs.Planes.{plane_bits-length, plane_bits-append}
use Rattle.pauli_word.proofs.Words.{letters_of-bits, decode-length, decode_x_bits, decode_z_bits, x_long, z_long}

-- ---- `same` is equality of letters

same_letter_refl : (a : Letter) → same_letter a a ≡ true
same_letter_refl I = refl
same_letter_refl X = refl
same_letter_refl Y = refl
same_letter_refl Z = refl

same_letter_eq : (a b : Letter) → same_letter a b ≡ true → a ≡ b
same_letter_eq I I e = refl
same_letter_eq I X e = absurd (false≢true e)
same_letter_eq I Y e = absurd (false≢true e)
same_letter_eq I Z e = absurd (false≢true e)
same_letter_eq X I e = absurd (false≢true e)
same_letter_eq X X e = refl
same_letter_eq X Y e = absurd (false≢true e)
same_letter_eq X Z e = absurd (false≢true e)
same_letter_eq Y I e = absurd (false≢true e)
same_letter_eq Y X e = absurd (false≢true e)
same_letter_eq Y Y e = refl
same_letter_eq Y Z e = absurd (false≢true e)
same_letter_eq Z I e = absurd (false≢true e)
same_letter_eq Z X e = absurd (false≢true e)
same_letter_eq Z Y e = absurd (false≢true e)
same_letter_eq Z Z e = refl

pub same_refl : (w : Word) → same w w ≡ true
unfolding same
same_refl [] = refl
same_refl (a ∷ w) = ap₂ ◌&&◌ (same_letter_refl a) (same_refl w)

pub same_eq : (v w : Word) → same v w ≡ true → v ≡ w
unfolding same
same_eq [] [] e = refl
same_eq [] (b ∷ w) e = absurd (false≢true e)
same_eq (a ∷ v) [] e = absurd (false≢true e)
same_eq (a ∷ v) (b ∷ w) e =
    let p = (and-eq-true_iff (same_letter a b) (same v w)).0 e in
    ap₂ ◌∷◌ (same_letter_eq a b p.0) (same_eq v w p.1)

-- ---- a strict total order

less_bits_irrefl : (xs : List Bool) → less_bits xs xs ≡ false
unfolding less_bits
less_bits_irrefl [] = refl
less_bits_irrefl (false ∷ xs) = less_bits_irrefl xs
less_bits_irrefl (true ∷ xs) = less_bits_irrefl xs

pub less_bits_trans : (xs ys zs : List Bool) → less_bits xs ys ≡ true → less_bits ys zs ≡ true → less_bits xs zs ≡ true
unfolding less_bits
less_bits_trans [] ys zs e f = absurd (false≢true e)
less_bits_trans (x ∷ xs) [] zs e f = absurd (false≢true e)
less_bits_trans (x ∷ xs) (y ∷ ys) [] e f = absurd (false≢true f)
less_bits_trans (false ∷ xs) (false ∷ ys) (false ∷ zs) e f = less_bits_trans xs ys zs e f
less_bits_trans (false ∷ xs) (false ∷ ys) (true ∷ zs) e f = refl
less_bits_trans (false ∷ xs) (true ∷ ys) (false ∷ zs) e f = absurd (false≢true f)
less_bits_trans (false ∷ xs) (true ∷ ys) (true ∷ zs) e f = refl
less_bits_trans (true ∷ xs) (false ∷ ys) (z ∷ zs) e f = absurd (false≢true e)
less_bits_trans (true ∷ xs) (true ∷ ys) (false ∷ zs) e f = absurd (false≢true f)
less_bits_trans (true ∷ xs) (true ∷ ys) (true ∷ zs) e f = less_bits_trans xs ys zs e f

ahead : (b : Bool) {xs ys : List Bool} {P Q : Type 0} → P ⊎ ((xs ≡ ys) ⊎ Q) → P ⊎ ((b ∷ xs ≡ b ∷ ys) ⊎ Q)
ahead b (inl p) = inl p
ahead b (inr (inl e)) = inr (inl (ap (λ (t : List Bool). b ∷ t) e))
ahead b (inr (inr q)) = inr (inr q)

pub less_bits-total : (xs ys : List Bool) → length xs ≡ length ys → (less_bits xs ys ≡ true) ⊎ ((xs ≡ ys) ⊎ (less_bits ys xs ≡ true))
unfolding less_bits
less_bits-total [] [] l = inr (inl refl)
less_bits-total [] (y ∷ ys) l = absurd (suc-ne-zero (length ys) (sym l))
less_bits-total (x ∷ xs) [] l = absurd (suc-ne-zero (length xs) l)
less_bits-total (false ∷ xs) (false ∷ ys) l = ahead false (less_bits-total xs ys (suc_inj l))
less_bits-total (false ∷ xs) (true ∷ ys) l = inl refl
less_bits-total (true ∷ xs) (false ∷ ys) l = inr (inr refl)
less_bits-total (true ∷ xs) (true ∷ ys) l = ahead true (less_bits-total xs ys (suc_inj l))

bits_long : (w : Word) → length (bits w) ≡ length w + length w
unfolding bits
bits_long w = length-append (map x_bit w) (map z_bit w) ∙ ap₂ ◌+◌ (length-map w x_bit) (length-map w z_bit)

-- the bits determine a word, its length given
pub bits_injective : (v w : Word) → length v ≡ length w → bits v ≡ bits w → v ≡ w
unfolding bits
bits_injective v w l e =
    sym (letters_of-bits v)
    ∙ ap₂ letters_of
    (sym (take_at (map x_bit v) (map z_bit v) (length v) (length-map v x_bit))
    ∙ ap₂ take l e
    ∙ take_at (map x_bit w) (map z_bit w) (length w) (length-map w x_bit))
    (sym (drop_at (map x_bit v) (map z_bit v) (length v) (length-map v x_bit))
    ∙ ap₂ drop l e
    ∙ drop_at (map x_bit w) (map z_bit w) (length w) (length-map w x_bit))
    ∙ letters_of-bits w

pub less_irrefl : (w : Word) → less w w ≡ false
unfolding less
less_irrefl w = less_bits_irrefl (bits w)

pub less_trans : (u v w : Word) → less u v ≡ true → less v w ≡ true → less u w ≡ true
unfolding less
less_trans u v w = less_bits_trans (bits u) (bits v) (bits w)

-- of two words of one length one is less, or they are the same
pub less-total : (v w : Word) → length v ≡ length w → (less v w ≡ true) ⊎ ((v ≡ w) ⊎ (less w v ≡ true))
unfolding less
less-total v w l = go (less_bits-total (bits v) (bits w) (bits_long v ∙ ap₂ ◌+◌ l l ∙ sym (bits_long w)))
  where
    go : (less_bits (bits v) (bits w) ≡ true) ⊎ ((bits v ≡ bits w) ⊎ (less_bits (bits w) (bits v) ≡ true))
        → (less v w ≡ true) ⊎ ((v ≡ w) ⊎ (less w v ≡ true))
    go (inl h) = inl h
    go (inr (inl e)) = inr (inl (bits_injective v w l e))
    go (inr (inr h)) = inr (inr h)

-- ---- comparing by parts

-- the first answer that is no tie
abbrev pub or_else_by : Ordering → Ordering → Ordering
or_else_by Less o = Less
or_else_by Equal o = o
or_else_by Greater o = Greater

pub order_refl : (xs : List Bool) → order_of_bits xs xs ≡ Equal
unfolding order_of_bits
order_refl xs = rw less_bits_irrefl

pub order_append : (xs ys us vs : List Bool) → length xs ≡ length ys → order_of_bits (xs ++ us) (ys ++ vs) ≡ or_else_by (order_of_bits xs ys) (order_of_bits us vs)
unfolding order_of_bits less_bits
order_append [] [] us vs l = refl
order_append [] (y ∷ ys) us vs l = absurd (suc-ne-zero (length ys) (sym l))
order_append (x ∷ xs) [] us vs l = absurd (suc-ne-zero (length xs) l)
order_append (false ∷ xs) (false ∷ ys) us vs l = order_append xs ys us vs (suc_inj l)
order_append (false ∷ xs) (true ∷ ys) us vs l = refl
order_append (true ∷ xs) (false ∷ ys) us vs l = refl
order_append (true ∷ xs) (true ∷ ys) us vs l = order_append xs ys us vs (suc_inj l)

never : Less ≡ Equal → ⊥
never e = let z : ◌≡◌ {A = ℕ} 0 1 = cc in omega arith

never' : Greater ≡ Equal → ⊥
never' e = let z : ◌≡◌ {A = ℕ} 0 1 = cc in omega arith

-- two lists of one length that tie are the same
order_same : (xs ys : List Bool) → length xs ≡ length ys → order_of_bits xs ys ≡ Equal → xs ≡ ys
unfolding order_of_bits less_bits
order_same [] [] l e = refl
order_same [] (y ∷ ys) l e = absurd (suc-ne-zero (length ys) (sym l))
order_same (x ∷ xs) [] l e = absurd (suc-ne-zero (length xs) l)
order_same (false ∷ xs) (false ∷ ys) l e = ap (λ (t : List Bool). false ∷ t) (order_same xs ys (suc_inj l) e)
order_same (false ∷ xs) (true ∷ ys) l e = absurd (never e)
order_same (true ∷ xs) (false ∷ ys) l e = absurd (never' e)
order_same (true ∷ xs) (true ∷ ys) l e = ap (λ (t : List Bool). true ∷ t) (order_same xs ys (suc_inj l) e)

same_of-same : (o : Ordering) → or_else_by o Equal ≡ o
same_of-same Less = refl
same_of-same Equal = refl
same_of-same Greater = refl

clear_alike : (xs ys : List Bool) → length xs ≡ length ys → clear xs ≡ true → clear ys ≡ true → xs ≡ ys
unfolding clear
clear_alike [] [] l cx cy = refl
clear_alike [] (y ∷ ys) l cx cy = absurd (suc-ne-zero (length ys) (sym l))
clear_alike (x ∷ xs) [] l cx cy = absurd (suc-ne-zero (length xs) l)
clear_alike (true ∷ xs) (y ∷ ys) l cx cy = absurd (false≢true cx)
clear_alike (false ∷ xs) (true ∷ ys) l cx cy = absurd (false≢true cy)
clear_alike (false ∷ xs) (false ∷ ys) l cx cy = ap (λ (t : List Bool). false ∷ t) (clear_alike xs ys (suc_inj l) cx cy)

-- bits above n that are 0 in both do not count
order_clear : (n : ℕ) (xs ys : List Bool) → length xs ≡ length ys → clear (drop n xs) ≡ true → clear (drop n ys) ≡ true → order_of_bits xs ys ≡ order_of_bits (take n xs) (take n ys)
order_clear n xs ys l cx cy =
    ap₂ order_of_bits (sym (take-append-drop n xs)) (sym (take-append-drop n ys))
    ∙ order_append (take n xs) (take n ys) (drop n xs) (drop n ys) (length-take n xs ∙ ap (min n) l ∙ sym (length-take n ys))
    ∙ ap (or_else_by (order_of_bits (take n xs) (take n ys)))
    (ap (order_of_bits (drop n xs)) (clear_alike (drop n ys) (drop n xs) (length-drop n ys ∙ ap (λ (k : ℕ). k - n) (sym l) ∙ sym (length-drop n xs)) cy cx) ∙ order_refl (drop n xs))
    ∙ same_of-same (order_of_bits (take n xs) (take n ys))

-- comparing the bytes of two accepted words is comparing the words
pub order_words : {m n : ℕ} {a b : List ℕ} → Accepted m n a → Accepted m n b
    → order_of_bits (plane_bits a) (plane_bits b) ≡ order_of_words (decode m n a) (decode m n b)
unfolding bits clear_from order_of_bits order_of_words less
order_words {m} {n} {a} {b} oka okb =
    ap₂ order_of_bits (planes a) (planes b)
    ∙ order_append (plane_bits (take m a)) (plane_bits (take m b)) (plane_bits (drop m a)) (plane_bits (drop m b)) (alike (take m a) (take m b) (x_long oka) (x_long okb))
    ∙ ap₂ or_else_by
    (order_clear n (plane_bits (take m a)) (plane_bits (take m b)) (alike (take m a) (take m b) (x_long oka) (x_long okb)) oka.x_clear okb.x_clear)
    (order_clear n (plane_bits (drop m a)) (plane_bits (drop m b)) (alike (drop m a) (drop m b) (z_long oka) (z_long okb)) oka.z_clear okb.z_clear)
    ∙ ap₂ or_else_by (ap₂ order_of_bits (sym (decode_x_bits oka)) (sym (decode_x_bits okb))) (ap₂ order_of_bits (sym (decode_z_bits oka)) (sym (decode_z_bits okb)))
    ∙ sym (order_append (map x_bit v) (map x_bit w) (map z_bit v) (map z_bit w)
    (length-map v x_bit ∙ decode-length oka ∙ sym (decode-length okb) ∙ sym (length-map w x_bit)))
  where
    v : Word
    v = decode m n a

    w : Word
    w = decode m n b

    planes : (c : List ℕ) → plane_bits c ≡ plane_bits (take m c) ++ plane_bits (drop m c)
    planes c = ap plane_bits (sym (take-append-drop m c)) ∙ plane_bits-append (take m c) (drop m c)

    alike : (p r : List ℕ) → length p ≡ m → length r ≡ m → length (plane_bits p) ≡ length (plane_bits r)
    alike p r lp lr = plane_bits-length p ∙ ap (λ (k : ℕ). 8 * k) (lp ∙ sym lr) ∙ sym (plane_bits-length r)

-- ---- what `compare_byte` and `compare` look at, digit by digit and byte by byte

apart : (x y : ℕ) → x % 2 < y % 2 → (odd x ≡ false) × (odd y ≡ true)
apart x y h = go (odd_cases x) (odd_cases y)
  where
    go : ((x % 2 ≡ 0) × (odd x ≡ false)) ⊎ ((x % 2 ≡ 1) × (odd x ≡ true)) → ((y % 2 ≡ 0) × (odd y ≡ false)) ⊎ ((y % 2 ≡ 1) × (odd y ≡ true))
        → (odd x ≡ false) × (odd y ≡ true)
    go (inl a) (inr b) = (a.1, b.1)
    go (inl a) (inl b) = absurd (omega (arith, a.0, b.0))
    go (inr a) (inl b) = absurd (omega (arith, a.0, b.0))
    go (inr a) (inr b) = absurd (omega (arith, a.0, b.0))

order_head : (a b : Bool) (xs ys : List Bool) → a ≡ b → order_of_bits (a ∷ xs) (b ∷ ys) ≡ order_of_bits xs ys
unfolding order_of_bits less_bits
order_head false false xs ys e = refl
order_head false true xs ys e = absurd (false≢true e)
order_head true false xs ys e = absurd (false≢true (sym e))
order_head true true xs ys e = refl

-- the digits from k on, of the eight, of two numbers
module _ (k x y : ℕ) (h : k < 8) where
  left_over : 8 - k ≡ suc (8 - (k + 1))
  left_over = omega arith

  pub digit-less : x % 2 < y % 2 → order_of_bits (low_bits (8 - k) x) (low_bits (8 - k) y) ≡ Less
  unfolding order_of_bits less_bits low_bits
  digit-less l = rw (left_over, (apart x y l).0, (apart x y l).1)

  pub digit-greater : y % 2 < x % 2 → order_of_bits (low_bits (8 - k) x) (low_bits (8 - k) y) ≡ Greater
  unfolding order_of_bits less_bits low_bits
  digit-greater l = rw (left_over, (apart y x l).0, (apart y x l).1)

  pub digit-same : y % 2 ≤ x % 2 → x % 2 ≤ y % 2 → order_of_bits (low_bits (8 - k) x) (low_bits (8 - k) y) ≡ order_of_bits (low_bits (8 - (k + 1)) (x / 2)) (low_bits (8 - (k + 1)) (y / 2))
  unfolding low_bits
  digit-same l g =
      rw left_over
      (order_head (odd x) (odd y) (low_bits (8 - (k + 1)) (x / 2)) (low_bits (8 - (k + 1)) (y / 2)) (ap (λ (r : ℕ). eqb r 1) (le_antisymm g l)))

pub digits_end : (k x y : ℕ) → 8 ≤ k → order_of_bits (low_bits (8 - k) x) (low_bits (8 - k) y) ≡ Equal
unfolding order_of_bits less_bits low_bits
digits_end k x y h = let e : 8 - k ≡ 0 = omega arith in rw e

-- the bytes from i on of two words of equal length
module _ (a b : List ℕ) (i : ℕ) (la : i < length a) (lb : i < length b) where
  byte-first : order_of_bits (plane_bits (drop i a)) (plane_bits (drop i b))
      ≡ or_else_by (order_of_bits (low_bits 8 (get_or a i 0)) (low_bits 8 (get_or b i 0))) (order_of_bits (plane_bits (drop (suc i) a)) (plane_bits (drop (suc i) b)))
  unfolding plane_bits
  byte-first =
      ap₂ (λ (p r : List ℕ). order_of_bits (plane_bits p) (plane_bits r)) (drop-cons a i 0 la) (drop-cons b i 0 lb)
      ∙ order_append (low_bits 8 (get_or a i 0)) (low_bits 8 (get_or b i 0)) (plane_bits (drop (suc i) a)) (plane_bits (drop (suc i) b))
      (low_bits_length 8 (get_or a i 0) ∙ sym (low_bits_length 8 (get_or b i 0)))

  -- bytes that differ decide
  pub byte-apart : get_or a i 0 < byte_values → get_or b i 0 < byte_values → (get_or a i 0 ≡ get_or b i 0 → ⊥)
      → order_of_bits (plane_bits (drop i a)) (plane_bits (drop i b)) ≡ order_of_bits (low_bits 8 (get_or a i 0)) (low_bits 8 (get_or b i 0))
  byte-apart fa fb h = byte-first ∙ decided (order_of_bits (low_bits 8 (get_or a i 0)) (low_bits 8 (get_or b i 0))) refl
    where
      tie : order_of_bits (low_bits 8 (get_or a i 0)) (low_bits 8 (get_or b i 0)) ≡ Equal → ⊥
      tie e =
          h
          (sym (number_low_bits 8 (get_or a i 0) fa)
          ∙ ap number (order_same (low_bits 8 (get_or a i 0)) (low_bits 8 (get_or b i 0)) (low_bits_length 8 (get_or a i 0) ∙ sym (low_bits_length 8 (get_or b i 0))) e)
          ∙ number_low_bits 8 (get_or b i 0) fb)

      decided : (o : Ordering) → order_of_bits (low_bits 8 (get_or a i 0)) (low_bits 8 (get_or b i 0)) ≡ o
          → or_else_by (order_of_bits (low_bits 8 (get_or a i 0)) (low_bits 8 (get_or b i 0))) (order_of_bits (plane_bits (drop (suc i) a)) (plane_bits (drop (suc i) b)))
          ≡ order_of_bits (low_bits 8 (get_or a i 0)) (low_bits 8 (get_or b i 0))
      decided Less e = rw e
      decided Equal e = absurd (tie e)
      decided Greater e = rw e

  -- equal bytes do not
  pub byte-same : get_or a i 0 ≡ get_or b i 0
      → order_of_bits (plane_bits (drop i a)) (plane_bits (drop i b)) ≡ order_of_bits (plane_bits (drop (i + 1) a)) (plane_bits (drop (i + 1) b))
  byte-same e =
      byte-first
      ∙ ap (λ (o : Ordering). or_else_by o (order_of_bits (plane_bits (drop (suc i) a)) (plane_bits (drop (suc i) b))))
      (ap (λ (y : ℕ). order_of_bits (low_bits 8 (get_or a i 0)) (low_bits 8 y)) (sym e) ∙ order_refl (low_bits 8 (get_or a i 0)))
      ∙ ap (λ (j : ℕ). order_of_bits (plane_bits (drop j a)) (plane_bits (drop j b))) (sym (add-one i))

-- where one list ends, nothing is left to differ
order_nil : (xs : List Bool) → order_of_bits xs [] ≡ Equal
unfolding order_of_bits less_bits
order_nil [] = refl
order_nil (x ∷ xs) = refl

nil_order : (ys : List Bool) → order_of_bits [] ys ≡ Equal
unfolding order_of_bits less_bits
nil_order [] = refl
nil_order (y ∷ ys) = refl

pub bytes_end : (a b : List ℕ) (i : ℕ) → min (length a) (length b) ≤ i → order_of_bits (plane_bits (drop i a)) (plane_bits (drop i b)) ≡ Equal
unfolding plane_bits
bytes_end a b i h = go (dec_le (length a) i)
  where
    go : Dec (length a ≤ i) → order_of_bits (plane_bits (drop i a)) (plane_bits (drop i b)) ≡ Equal
    go (yes l) = ap (λ (p : List ℕ). order_of_bits (plane_bits p) (plane_bits (drop i b))) (drop_of_length-le a l) ∙ nil_order (plane_bits (drop i b))
    go (no l) =
        let k : length b ≤ i = omega arith in
        ap (λ (p : List ℕ). order_of_bits (plane_bits (drop i a)) (plane_bits p)) (drop_of_length-le b k) ∙ order_nil (plane_bits (drop i a))
