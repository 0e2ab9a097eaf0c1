-- Planes of machine words and the letters that they hold: a word by its bits at each site, the bits of a machine word and of the bytes that it
-- is made of, and that accepted bytes and planes of machine words hold the same letters.
use Prim.Native.Nat.{ℕ, zero, suc, ◌+◌, ◌-◌, ◌*◌, ◌/◌, ◌%◌, ◌^◌, ◌<◌, ◌≤◌}
use mathlib.Core.Path.{◌≡◌, refl, sym, ap, ap₂, subst, ◌∙◌}
use mathlib.Core.Bool.{Bool, true, false, false≢true}
use mathlib.Core.List.{List, [], ◌∷◌, map, map-map}
use native.Mathlib.Nat.{add-zero, zero-add, zero-div}
use native.Mathlib.Decide.{dec_le, ℕ_discrete}
use native.Mathlib.Omega.{arith}
use lib.Dec.{eqb}
use lib.Arith.{digits_lt}
use lib.Bits.{bit_or, or_shifted_r}
use lib.Pow.{pow-add, shl_exact, shr-shr, high, low, field, mod-mod-pow}
use lib.ListN.{length, get_or, set, take, drop, length-set, length-drop, get_or-eq_default}
use lib.Seq.{get_or-set_same, get_or-set_other, get_or-drop, length-take-le}
use Rattle.pauli_word.specs.Word.{I, Word, x_bit, z_bit, letter_of}
use Rattle.pauli_word.specs.Limits.{plane_length, max_sites, word_length}
use Rattle.pauli_word.specs.Bytes.{odd, plane_bits, byte_values, clear, clear_from, Bytes, AcceptedWord, letters_in, bytes_of}
use Rattle.pauli_word.proofs.Planes.{plane_bits-at, plane_bits_past}
use Rattle.pauli_word.proofs.Words.{x_bit-letter_of, z_bit-letter_of, decode-length, decode-at, encode-decode}
use Rattle.action.specs.Lists.{below}
use Rattle.action.proofs.Below.{map-below-at, map-below-length, map-below-cong, map-below-of}
use Rattle.packed.specs.Packed.{word_bits, bit_at, bit_of, Clear, letters_by, letters_at}

-- ---- a word by its X and Z bits at each site

-- the letter of a site
pub letters_by-at : (n : ℕ) (x z : ℕ → Bool) (q : ℕ) → q < n → get_or (letters_by n x z) q I ≡ letter_of (x q) (z q)
unfolding letters_by
letters_by-at n x z q h = map-below-at (λ p. letter_of (x p) (z p)) n q I h

-- a letter for each site
pub letters_by-length : (n : ℕ) (x z : ℕ → Bool) → length (letters_by n x z) ≡ n
unfolding letters_by
letters_by-length n x z = map-below-length (λ p. letter_of (x p) (z p)) n

-- bits that agree at the sites give the same word
pub letters_by_cong : (n : ℕ) (x z x' z' : ℕ → Bool) → ((q : ℕ) → q < n → x q ≡ x' q) → ((q : ℕ) → q < n → z q ≡ z' q) → letters_by n x z ≡ letters_by n x' z'
unfolding letters_by
letters_by_cong n x z x' z' hx hz =
    map-below-cong (λ p. letter_of (x p) (z p)) (λ p. letter_of (x' p) (z' p)) n I (λ q h. ap₂ letter_of (hx q h) (hz q h))

-- a word of n letters is told by its letters
pub letters_by_of : (n : ℕ) (x z : ℕ → Bool) (w : Word) → length w ≡ n → ((q : ℕ) → q < n → get_or w q I ≡ letter_of (x q) (z q)) → w ≡ letters_by n x z
unfolding letters_by
letters_by_of n x z w e h = map-below-of (λ p. letter_of (x p) (z p)) n I w e h

-- its X bits
pub x_bits_letters_by : (n : ℕ) (x z : ℕ → Bool) → map x_bit (letters_by n x z) ≡ map x (below n)
unfolding letters_by
x_bits_letters_by n x z =
    map-map x_bit (λ q. letter_of (x q) (z q)) (below n)
    ∙ map-below-cong (λ q. x_bit (letter_of (x q) (z q))) x n false (λ q h. x_bit-letter_of (x q) (z q))

-- its Z bits
pub z_bits_letters_by : (n : ℕ) (x z : ℕ → Bool) → map z_bit (letters_by n x z) ≡ map z (below n)
unfolding letters_by
z_bits_letters_by n x z =
    map-map z_bit (λ q. letter_of (x q) (z q)) (below n)
    ∙ map-below-cong (λ q. z_bit (letter_of (x q) (z q))) z n false (λ q h. z_bit-letter_of (x q) (z q))

-- ---- the bits of a number

-- bits below j are those of the rest by 2 ^ j
pub bit-mod : (x j k : ℕ) → k < j → bit_at (x % 2 ^ j) k ≡ bit_at x k
bit-mod x j k h =
    let e : j ≡ j - suc k + 1 + k = omega arith in
    ap (λ (i : ℕ). bit_at (x % 2 ^ i) k) e
    ∙ ap odd (field x (j - suc k + 1) k)
    ∙ ap (λ (r : ℕ). eqb r 1) (mod-mod-pow (x / 2 ^ k) (j - suc k) 1)

-- shifted down, bit k is bit j + k
pub bit_shr : (x j k : ℕ) → bit_at (x / 2 ^ j) k ≡ bit_at x (j + k)
bit_shr x j k = ap odd (shr-shr x j k)

-- 0 has no bit
pub bit-zero : (k : ℕ) → bit_at 0 k ≡ false
bit-zero k = ap odd (zero-div (2 ^ k))

-- of a above j bits of b, the lowest j bits are those of b
pub bit_low : (a j b k : ℕ) → b < 2 ^ j → k < j → bit_at (a * 2 ^ j + b) k ≡ bit_at b k
bit_low a j b k l h = sym (bit-mod (a * 2 ^ j + b) j k h) ∙ ap (λ (x : ℕ). bit_at x k) (low a j l)

-- and the others those of a
pub bit_high : (a j b k : ℕ) → b < 2 ^ j → bit_at (a * 2 ^ j + b) (j + k) ≡ bit_at a k
bit_high a j b k l = sym (bit_shr (a * 2 ^ j + b) j k) ∙ ap (λ (x : ℕ). bit_at x k) (high a j l)

-- bit r of byte i of a plane
byte_bit : (p : List ℕ) (i r : ℕ) → r < 8 → get_or (plane_bits p) (8 * i + r) false ≡ bit_at (get_or p i 0) r
byte_bit p i r h =
    let d : (8 * i + r) / 8 ≡ i = omega arith in
    let m : (8 * i + r) % 8 ≡ r = omega arith in
    plane_bits-at p (8 * i + r) ∙ ap₂ (λ (u v : ℕ). bit_at (get_or p u 0) v) d m

-- ---- a machine word from bytes

-- x holds the bits of j bytes from `at` on, and no others
pub record Holding (bytes : List ℕ) (at j x : ℕ) : Type 0 where
  pub small : x < 2 ^ (8 * j)
  pub held : (k : ℕ) → k < 8 * j → bit_at x k ≡ get_or (plane_bits bytes) (8 * at + k) false

-- the first byte
pub holding_one : (bytes : List ℕ) (at : ℕ) → get_or bytes at 0 < byte_values → Holding bytes at 1 (get_or bytes at 0)
holding_one bytes at h = record { small = h; held = λ k l. sym (byte_bit bytes at k l) }

-- one byte more, above those that are held
module _ {bytes : List ℕ} {at j x : ℕ} (few : 8 * j + 8 ≤ word_bits) (byte : get_or bytes (at + j) 0 < byte_values) (so : Holding bytes at j x) where
  joined : bit_or x (get_or bytes (at + j) 0 * 2 ^ (8 * j) % 2 ^ word_bits) ≡ get_or bytes (at + j) 0 * 2 ^ (8 * j) + x
  joined =
      ap (bit_or x) (shl_exact 8 (8 * j) word_bits byte (omega arith))
      ∙ or_shifted_r (get_or bytes (at + j) 0) (8 * j) x so.small

  pub holding-next : Holding bytes at (suc j) (bit_or x (get_or bytes (at + j) 0 * 2 ^ (8 * j) % 2 ^ word_bits))
  holding-next = rw joined (record { small = small-next; held = λ k l. held_next k l (dec_le (8 * j) k) })
    where
      small-next : get_or bytes (at + j) 0 * 2 ^ (8 * j) + x < 2 ^ (8 * suc j)
      small-next =
          let e : 8 * suc j ≡ 8 + 8 * j = omega arith in
          rw (e, pow-add 2 8 (8 * j)) (digits_lt byte so.small)

      held_next : (k : ℕ) → k < 8 * suc j → Dec (8 * j ≤ k) → bit_at (get_or bytes (at + j) 0 * 2 ^ (8 * j) + x) k ≡ get_or (plane_bits bytes) (8 * at + k) false
      held_next k l (no h) = bit_low (get_or bytes (at + j) 0) (8 * j) x k so.small (omega arith) ∙ so.held k (omega arith)
      held_next k l (yes h) =
          let r = k - 8 * j in
          let e : k ≡ 8 * j + r = omega arith in
          let f : 8 * (at + j) + r ≡ 8 * at + k = omega arith in
          ap (bit_at (get_or bytes (at + j) 0 * 2 ^ (8 * j) + x)) e
          ∙ bit_high (get_or bytes (at + j) 0) (8 * j) x r so.small
          ∙ sym (byte_bit bytes (at + j) r (omega arith))
          ∙ ap (λ (q : ℕ). get_or (plane_bits bytes) q false) f

-- ---- planes of machine words

-- past its end a plane has no bit
pub bit_of_past : (ws : List ℕ) (q : ℕ) → word_bits * length ws ≤ q → bit_of ws q ≡ false
unfolding bit_of
bit_of_past ws q h =
    let l : length ws ≤ q / word_bits = omega arith in
    ap (λ (x : ℕ). bit_at x (q % word_bits)) (get_or-eq_default ws 0 l) ∙ bit-zero (q % word_bits)

-- nor has one of no machine words
pub nothing_clear : (n : ℕ) → Clear n []
nothing_clear n q h = bit_of_past [] q (omega arith)

-- bit k of machine word j
pub bit_of_word : (ws : List ℕ) (j k : ℕ) → k < word_bits → bit_of ws (word_bits * j + k) ≡ bit_at (get_or ws j 0) k
unfolding bit_of
bit_of_word ws j k h =
    let d : (word_bits * j + k) / word_bits ≡ j = omega arith in
    let m : (word_bits * j + k) % word_bits ≡ k = omega arith in
    ap₂ (λ (u v : ℕ). bit_at (get_or ws u 0) v) d m

-- where it stands by its first byte
pub bit_of_byte : (ws : List ℕ) (j k : ℕ) → k < word_bits → bit_of ws (8 * (8 * j) + k) ≡ bit_at (get_or ws j 0) k
bit_of_byte ws j k h = let e : 8 * (8 * j) + k ≡ word_bits * j + k = omega arith in ap (bit_of ws) e ∙ bit_of_word ws j k h

-- the bits of a machine word that is stored
pub bit_of_set : (ws : List ℕ) (j x q : ℕ) → j < length ws → q / word_bits ≡ j → bit_of (set ws j x) q ≡ bit_at x (q % word_bits)
unfolding bit_of
bit_of_set ws j x q h e =
    ap (λ (i : ℕ). bit_at (get_or (set ws j x) i 0) (q % word_bits)) e ∙ ap (λ (y : ℕ). bit_at y (q % word_bits)) (get_or-set_same ws j x 0 h)

-- the other bits stay
pub bit_of_set-other : (ws : List ℕ) (j x q : ℕ) → (q / word_bits ≡ j → ⊥) → bit_of (set ws j x) q ≡ bit_of ws q
unfolding bit_of
bit_of_set-other ws j x q h = ap (λ (y : ℕ). bit_at y (q % word_bits)) (get_or-set_other ws j (q / word_bits) x 0 h)

-- x is machine word j of a plane with the bits of f
abbrev pub WordOf : (ℕ → Bool) → ℕ → ℕ → Type 0
WordOf f j x = (k : ℕ) → k < word_bits → bit_at x k ≡ f (word_bits * j + k)

-- the machine words of a plane from a on, and before b, have the bits of f
abbrev pub Between : (ℕ → Bool) → ℕ → ℕ → List ℕ → Type 0
Between f a b ws = (q : ℕ) → word_bits * a ≤ q → q < word_bits * b → bit_of ws q ≡ f q

-- one machine word stored, where the others have the bits of f
pub between-set : (f : ℕ → Bool) (a b : ℕ) (ws : List ℕ) (j x : ℕ) → j < length ws → WordOf f j x
    → ((q : ℕ) → word_bits * a ≤ q → q < word_bits * b → (q / word_bits ≡ j → ⊥) → bit_of ws q ≡ f q) → Between f a b (set ws j x)
between-set f a b ws j x h here others q l m = go (ℕ_discrete (q / word_bits) j)
  where
    go : Dec (q / word_bits ≡ j) → bit_of (set ws j x) q ≡ f q
    go (yes e) = let r : word_bits * j + q % word_bits ≡ q = omega arith in bit_of_set ws j x q h e ∙ here (q % word_bits) (omega arith) ∙ ap f r
    go (no d) = bit_of_set-other ws j x q d ∙ others q l m d

-- one machine word more, from below
pub between_next : (f : ℕ → Bool) (ws : List ℕ) (j x : ℕ) → j < length ws → WordOf f j x → Between f 0 j ws → Between f 0 (j + 1) (set ws j x)
between_next f ws j x h here before = between-set f 0 (j + 1) ws j x h here (λ q l m d. before q l (omega arith))

-- what `pack` has done after one machine word more
pub packed_next : (p ws : List ℕ) (j x : ℕ) → j < length ws → ((k : ℕ) → k < word_bits → bit_at x k ≡ get_or (plane_bits p) (8 * (8 * j) + k) false)
    → ((q : ℕ) → q < word_bits * j → bit_of ws q ≡ get_or (plane_bits p) q false)
    → (q : ℕ) → q < word_bits * (j + 1) → bit_of (set ws j x) q ≡ get_or (plane_bits p) q false
packed_next p ws j x l new old q h = between_next (λ i. get_or (plane_bits p) i false) ws j x l here (λ r g i. old r i) q (omega arith) h
  where
    here : WordOf (λ i. get_or (plane_bits p) i false) j x
    here k g = let e : 8 * (8 * j) + k ≡ word_bits * j + k = omega arith in new k g ∙ ap (λ (i : ℕ). get_or (plane_bits p) i false) e

-- ---- bytes stored one after the other, for the bits of f

-- one byte more
bytes_next : (f : ℕ → Bool) (p : List ℕ) (j b : ℕ) → j < length p → ((k : ℕ) → k < 8 → bit_at b k ≡ f (8 * j + k))
    → ((q : ℕ) → q < 8 * j → get_or (plane_bits p) q false ≡ f q)
    → (q : ℕ) → q < 8 * (j + 1) → get_or (plane_bits (set p j b)) q false ≡ f q
bytes_next f p j b l new old q h = plane_bits-at (set p j b) q ∙ go (dec_le (8 * j) q)
  where
    go : Dec (8 * j ≤ q) → bit_at (get_or (set p j b) (q / 8) 0) (q % 8) ≡ f q
    go (no g) =
        ap (λ (x : ℕ). bit_at x (q % 8)) (get_or-set_other p j (q / 8) b 0 (λ e. omega arith))
        ∙ sym (plane_bits-at p q)
        ∙ old q (omega arith)
    go (yes g) =
        let e : q / 8 ≡ j = omega arith in
        let r : 8 * j + q % 8 ≡ q = omega arith in
        ap (λ (i : ℕ). bit_at (get_or (set p j b) i 0) (q % 8)) e
        ∙ ap (λ (x : ℕ). bit_at x (q % 8)) (get_or-set_same p j b 0 l)
        ∙ new (q % 8) (omega arith)
        ∙ ap f r

-- a plane of n bytes that has the bits of f in the j bytes from `at` on, and before them
pub record Put (f : ℕ → Bool) (n at j : ℕ) (p : List ℕ) : Type 0 where
  pub long : length p ≡ n
  pub held : (q : ℕ) → q < 8 * (at + j) → get_or (plane_bits p) q false ≡ f q

-- a machine word x with the bits of f from `at` on, stored byte by byte
module _ (x : ℕ) {f : ℕ → Bool} {n at : ℕ} (fits : at + 8 ≤ n) (bits : (k : ℕ) → k < word_bits → bit_at x k ≡ f (8 * at + k)) where
  put_byte : (j b : ℕ) (p : List ℕ) → j < 8 → ((k : ℕ) → k < 8 → bit_at b k ≡ bit_at x (8 * j + k)) → Put f n at j p → Put f n at (suc j) (set p (at + j) b)
  put_byte j b p l e so = record { long = length-set p (at + j) b ∙ so.long; held = λ q h. bytes_next f p (at + j) b (omega arith) new so.held q (omega arith) }
    where
      new : (k : ℕ) → k < 8 → bit_at b k ≡ f (8 * (at + j) + k)
      new k h = let r : 8 * at + (8 * j + k) ≡ 8 * (at + j) + k = omega arith in e k h ∙ bits (8 * j + k) (omega arith) ∙ ap f r

  -- the lowest byte
  pub put_first : (p : List ℕ) → length p ≡ n → ((q : ℕ) → q < 8 * at → get_or (plane_bits p) q false ≡ f q) → Put f n at 1 (set p at (x % byte_values))
  put_first p l old =
      subst (λ (i : ℕ). Put f n at 1 (set p i (x % byte_values))) (add-zero at)
      (put_byte 0 (x % byte_values) p (omega arith)
      (λ k h. bit-mod x 8 k h ∙ ap (bit_at x) (sym (zero-add k)))
      (record { long = l; held = λ q h. old q (omega arith) }))

  -- and each of the others
  pub put_next : (j : ℕ) {p : List ℕ} → j < 8 → Put f n at j p → Put f n at (suc j) (set p (at + j) (x / 2 ^ (8 * j) % byte_values))
  put_next j {p} l so =
      put_byte j (x / 2 ^ (8 * j) % byte_values) p l (λ k h. bit-mod (x / 2 ^ (8 * j)) 8 k h ∙ bit_shr x (8 * j) k) so

-- zeros from `at` on, where f has no bit
module _ (f : ℕ → Bool) (at : ℕ) (none : (q : ℕ) → 8 * at ≤ q → f q ≡ false) (p : List ℕ) (j : ℕ) (l : at ≤ j)
    (old : (q : ℕ) → q < 8 * j → get_or (plane_bits p) q false ≡ f q) where
  -- one more
  pub cleared-next : j < length p → (q : ℕ) → q < 8 * (j + 1) → get_or (plane_bits (set p j 0)) q false ≡ f q
  cleared-next h = bytes_next f p j 0 h (λ k g. bit-zero k ∙ sym (none (8 * j + k) (omega arith))) old

  -- up to the end
  pub cleared-end : length p ≤ j → (q : ℕ) → get_or (plane_bits p) q false ≡ f q
  cleared-end h q = go (dec_le (8 * j) q)
    where
      go : Dec (8 * j ≤ q) → get_or (plane_bits p) q false ≡ f q
      go (yes g) = plane_bits_past p q (omega arith) ∙ sym (none q (omega arith))
      go (no g) = old q (omega arith)

-- ---- clear from a site on

clear-bit : (bs : List Bool) (i : ℕ) → clear bs ≡ true → get_or bs i false ≡ false
unfolding clear
clear-bit [] i e = refl
clear-bit (true ∷ bs) i e = absurd (false≢true e)
clear-bit (false ∷ bs) zero e = refl
clear-bit (false ∷ bs) (suc i) e = clear-bit bs i e

clear_of : (bs : List Bool) → ((i : ℕ) → get_or bs i false ≡ false) → clear bs ≡ true
unfolding clear
clear_of [] h = refl
clear_of (true ∷ bs) h = absurd (false≢true (sym (h 0)))
clear_of (false ∷ bs) h = clear_of bs (λ i. h (suc i))

-- a plane of bytes that is clear from n on has no bit there
pub clear_from-bit : (n : ℕ) (p : List ℕ) (q : ℕ) → clear_from n p ≡ true → n ≤ q → get_or (plane_bits p) q false ≡ false
unfolding clear_from
clear_from-bit n p q e h =
    let d : n + (q - n) ≡ q = omega arith in
    ap (λ (i : ℕ). get_or (plane_bits p) i false) (sym d)
    ∙ sym (get_or-drop n (plane_bits p) (q - n) false)
    ∙ clear-bit (drop n (plane_bits p)) (q - n) e

-- and one with no bit there is clear
pub clear_from_of : (n : ℕ) (p : List ℕ) → ((q : ℕ) → n ≤ q → get_or (plane_bits p) q false ≡ false) → clear_from n p ≡ true
unfolding clear_from
clear_from_of n p h = clear_of (drop n (plane_bits p)) (λ i. get_or-drop n (plane_bits p) i false ∙ h (n + i) (omega arith))

-- machine words packed from a plane that is clear from n on are clear from n on
pub packed_clear : (n : ℕ) (p ws : List ℕ) → clear_from n p ≡ true → ((q : ℕ) → q < word_bits * length ws → bit_of ws q ≡ get_or (plane_bits p) q false) → Clear n ws
packed_clear n p ws e h q l = go (dec_le (word_bits * length ws) q)
  where
    go : Dec (word_bits * length ws ≤ q) → bit_of ws q ≡ false
    go (yes g) = bit_of_past ws q g
    go (no g) = h q (omega arith) ∙ clear_from-bit n p q e l

-- m bytes that have the bits of clear machine words are clear
unpacked_clear : (n m : ℕ) (p ws : List ℕ) → length p ≡ m → Clear n ws → ((q : ℕ) → q < 8 * m → get_or (plane_bits p) q false ≡ bit_of ws q) → clear_from n p ≡ true
unpacked_clear n m p ws e c h = clear_from_of n p (λ q l. go q l (dec_le (8 * m) q))
  where
    go : (q : ℕ) → n ≤ q → Dec (8 * m ≤ q) → get_or (plane_bits p) q false ≡ false
    go q l (yes g) = plane_bits_past p q (omega arith)
    go q l (no g) = h q (omega arith) ∙ c q l

-- ---- accepted bytes and machine words with the same letters

-- the letters of accepted bytes, by the bits of their planes
pub letters_in_by : {n : ℕ} {bytes : List ℕ} (x z : ℕ → Bool) → AcceptedWord n bytes
    → ((q : ℕ) → q < n → get_or (plane_bits (take plane_length bytes)) q false ≡ x q)
    → ((q : ℕ) → q < n → get_or (plane_bits (drop plane_length bytes)) q false ≡ z q) → letters_in n bytes ≡ letters_by n x z
letters_in_by {n} {bytes} x z ok hx hz =
    letters_by_of n x z (letters_in n bytes) (decode-length ok) (λ q h. decode-at ok q h ∙ ap₂ letter_of (hx q h) (hz q h))

-- planes of machine words packed from accepted bytes
module _ {n : ℕ} {bytes : List ℕ} (xs zs : List ℕ) (ok : AcceptedWord n bytes)
    (hx : (q : ℕ) → q < word_bits * length xs → bit_of xs q ≡ get_or (plane_bits (take plane_length bytes)) q false)
    (hz : (q : ℕ) → q < word_bits * length zs → bit_of zs q ≡ get_or (plane_bits (drop plane_length bytes)) q false) where
  -- they hold the letters of the bytes
  pub letters-packed : n ≤ word_bits * length xs → n ≤ word_bits * length zs → letters_at n xs zs ≡ letters_in n bytes
  letters-packed lx lz =
      sym (letters_in_by (bit_of xs) (bit_of zs) ok (λ q h. sym (hx q (omega arith))) (λ q h. sym (hz q (omega arith))))

  -- the X plane has no bit above the sites
  pub x-packed-clear : Clear n xs
  x-packed-clear = packed_clear n (take plane_length bytes) xs ok.x_clear hx

  -- nor has the Z plane
  pub z-packed-clear : Clear n zs
  z-packed-clear = packed_clear n (drop plane_length bytes) zs ok.z_clear hz

-- bytes unpacked from clear planes of machine words
module _ (n : ℕ) (bytes xs zs : List ℕ) (few : n ≤ max_sites) (long : length bytes ≡ word_length) (small : Bytes bytes) (cx : Clear n xs) (cz : Clear n zs)
    (hx : (q : ℕ) → q < 8 * plane_length → get_or (plane_bits (take plane_length bytes)) q false ≡ bit_of xs q)
    (hz : (q : ℕ) → q < 8 * plane_length → get_or (plane_bits (drop plane_length bytes)) q false ≡ bit_of zs q) where
  -- they are an accepted word
  pub unpacked-accepted : AcceptedWord n bytes
  unpacked-accepted = record {
    sites = few;
    long = long;
    small = small;
    x_clear = unpacked_clear n plane_length (take plane_length bytes) xs (length-take-le plane_length bytes (omega arith)) cx hx;
    z_clear = unpacked_clear n plane_length (drop plane_length bytes) zs (length-drop plane_length bytes ∙ omega arith) cz hz;
  }

  -- the bytes of the letters that the machine words hold
  pub unpacked-bytes : bytes ≡ bytes_of (letters_at n xs zs)
  unpacked-bytes =
      sym (encode-decode unpacked-accepted)
      ∙ ap bytes_of (letters_in_by (bit_of xs) (bit_of zs) unpacked-accepted (λ q h. hx q (omega arith)) (λ q h. hz q (omega arith)))
