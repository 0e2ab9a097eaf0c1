-- The order of words by the first bit where they differ, each bit read off the letter of its site.
use Prim.Native.Nat.{ℕ, zero, suc, ◌+◌, ◌-◌, ◌≤◌, ◌<◌, suc-le-suc}
use mathlib.Core.Path.{◌≡◌, refl, sym, ◌∙◌, ap}
use mathlib.Core.Logic.{◌⊎◌, inl, inr}
use mathlib.Core.Bool.{Bool, true, false, cond, true≢false, false≢true}
use mathlib.Core.List.{List, [], ◌∷◌, ◌++◌, map}
use native.Mathlib.Nat.{zero-lt-suc, le_of_suc-le-suc, not-suc-le-zero, suc_inj, suc-ne-zero}
use native.Mathlib.Decide.{dec_lt}
use native.Mathlib.Omega.{arith}
use borrow.Author.Tests.{lt-ltb, le-ltb}
use lib.Dec.{ltb}
use lib.ListN.{length, get_or, length-map, length-append, get_or-append, get_or-map}
use lib.Seq.{get_or-append-add}
use Rattle.pauli_word.specs.Word.{I, Word, x_bit, z_bit, bits, less_bits, less}
use Rattle.packed.specs.Packed.{LessAt}

-- a site passes a test or does not
pub by_test : (p : ℕ → Bool) {A : Type 0} (q : ℕ) → (p q ≡ true → A) → (p q ≡ false → A) → A
by_test p {A} q yes-case no-case = go (p q) refl
  where
    go : (b : Bool) → p q ≡ b → A
    go true e = yes-case e
    go false e = no-case e

-- ---- lists of bits

abbrev at : List Bool → ℕ → Bool
at xs p = get_or xs p false

-- one more bit in front that is the same
behind : (a : Bool) (xs ys : List Bool) → LessAt (length xs) (at xs) (at ys) → LessAt (suc (length xs)) (at (a ∷ xs)) (at (a ∷ ys))
behind a xs ys (q, l, s, f, t) = (suc q, suc-le-suc l, before, f, t)
  where
    before : (p : ℕ) → p < suc q → at (a ∷ xs) p ≡ at (a ∷ ys) p
    before zero h = refl
    before (suc p) h = s p (le_of_suc-le-suc h)

bits_first : (xs ys : List Bool) → less_bits xs ys ≡ true → LessAt (length xs) (at xs) (at ys)
unfolding less_bits
bits_first [] ys h = absurd (false≢true h)
bits_first (false ∷ xs) [] h = absurd (false≢true h)
bits_first (true ∷ xs) [] h = absurd (false≢true h)
bits_first (false ∷ xs) (false ∷ ys) h = behind false xs ys (bits_first xs ys h)
bits_first (false ∷ xs) (true ∷ ys) h = (zero, zero-lt-suc (length xs), (λ p k. absurd (not-suc-le-zero k)), refl, refl)
bits_first (true ∷ xs) (false ∷ ys) h = absurd (false≢true h)
bits_first (true ∷ xs) (true ∷ ys) h = behind true xs ys (bits_first xs ys h)

first_bits_lem : (xs ys : List Bool) (q : ℕ) → q < length xs → q < length ys → ((p : ℕ) → p < q → at xs p ≡ at ys p) → at xs q ≡ false → at ys q ≡ true
    → less_bits xs ys ≡ true
unfolding less_bits
first_bits_lem [] ys q l m s f t = absurd (not-suc-le-zero l)
first_bits_lem (a ∷ xs) [] q l m s f t = absurd (not-suc-le-zero m)
first_bits_lem (false ∷ xs) (false ∷ ys) zero l m s f t = absurd (false≢true t)
first_bits_lem (false ∷ xs) (true ∷ ys) zero l m s f t = refl
first_bits_lem (true ∷ xs) (false ∷ ys) zero l m s f t = absurd (false≢true t)
first_bits_lem (true ∷ xs) (true ∷ ys) zero l m s f t = absurd (true≢false f)
first_bits_lem (false ∷ xs) (false ∷ ys) (suc q) l m s f t =
    first_bits_lem xs ys q (le_of_suc-le-suc l) (le_of_suc-le-suc m) (λ p h. s (suc p) (suc-le-suc h)) f t
first_bits_lem (false ∷ xs) (true ∷ ys) (suc q) l m s f t = refl
first_bits_lem (true ∷ xs) (false ∷ ys) (suc q) l m s f t = absurd (true≢false (s 0 (zero-lt-suc q)))
first_bits_lem (true ∷ xs) (true ∷ ys) (suc q) l m s f t =
    first_bits_lem xs ys q (le_of_suc-le-suc l) (le_of_suc-le-suc m) (λ p h. s (suc p) (suc-le-suc h)) f t

-- ---- words of n letters

-- bit t of a word in the order of words: the X bits of n sites and then their Z bits
abbrev pub word_bit : ℕ → Word → ℕ → Bool
word_bit n w t = cond (ltb t n) (x_bit (get_or w t I)) (z_bit (get_or w (t - n) I))

-- the site of bit t
abbrev pub bit_site : ℕ → ℕ → ℕ
bit_site n t = cond (ltb t n) t (t - n)

-- words with the same letter at its site have the same bit
pub word_bit-same : (n : ℕ) (u v : Word) (t : ℕ) → get_or u (bit_site n t) I ≡ get_or v (bit_site n t) I → word_bit n u t ≡ word_bit n v t
word_bit-same n u v t e = go (ltb t n) e
  where
    go : (b : Bool) → get_or u (cond b t (t - n)) I ≡ get_or v (cond b t (t - n)) I
        → cond b (x_bit (get_or u t I)) (z_bit (get_or u (t - n) I)) ≡ cond b (x_bit (get_or v t I)) (z_bit (get_or v (t - n) I))
    go true e = ap x_bit e
    go false e = ap z_bit e

pub bit_site-below : (n t : ℕ) → t < n + n → bit_site n t < n
bit_site-below n t h = go (dec_lt t n)
  where
    go : Dec (t < n) → bit_site n t < n
    go (yes l) = rw (lt-ltb t n l) l
    go (no l) = rw (le-ltb t n (omega arith)) (omega arith)

bits_at : (w : Word) (t : ℕ) → at (bits w) t ≡ word_bit (length w) w t
unfolding bits
bits_at w t = go (dec_lt t (length w))
  where
    go : Dec (t < length w) → at (map x_bit w ++ map z_bit w) t ≡ word_bit (length w) w t
    go (yes l) = rw (lt-ltb t (length w) l) (get_or-append (map x_bit w) (map z_bit w) false t (rw (length-map w x_bit) l) ∙ get_or-map x_bit w t I)
    go (no l) =
        let e : length (map x_bit w) + (t - length w) ≡ t = rw (length-map w x_bit) (omega arith) in
        rw (le-ltb t (length w) (omega arith))
        (ap (at (map x_bit w ++ map z_bit w)) (sym e) ∙ get_or-append-add (map x_bit w) (map z_bit w) (t - length w) false ∙ get_or-map z_bit w (t - length w) I)

bits_long : (w : Word) → length (bits w) ≡ length w + length w
unfolding bits
bits_long w = rw (length-append (map x_bit w) (map z_bit w), length-map w x_bit, length-map w z_bit)

module _ (n : ℕ) (u v : Word) (a : length u ≡ n) (b : length v ≡ n) where
  u-bit : (t : ℕ) → at (bits u) t ≡ word_bit n u t
  u-bit t = rw a at (bits_at u t)

  v-bit : (t : ℕ) → at (bits v) t ≡ word_bit n v t
  v-bit t = rw b at (bits_at v t)

  -- a word is less than another exactly if it has 0 at the first bit where they differ
  pub less-first : less u v ≡ true → LessAt (n + n) (word_bit n u) (word_bit n v)
  unfolding less
  less-first h = go (bits_first (bits u) (bits v) h)
    where
      go : LessAt (length (bits u)) (at (bits u)) (at (bits v)) → LessAt (n + n) (word_bit n u) (word_bit n v)
      go (q, l, s, f, t) = (q, rw (bits_long u, a) at l, (λ p k. sym (u-bit p) ∙ s p k ∙ v-bit p), sym (u-bit q) ∙ f, sym (v-bit q) ∙ t)

  pub first-less : LessAt (n + n) (word_bit n u) (word_bit n v) → less u v ≡ true
  unfolding less
  first-less (q, l, s, f, t) =
      first_bits_lem (bits u) (bits v) q (rw (bits_long u, a) l) (rw (bits_long v, b) l) (λ p k. u-bit p ∙ s p k ∙ sym (v-bit p)) (u-bit q ∙ f) (v-bit q ∙ t)
