-- Sets of candidates, a bit each, in machine words: those in two sets or in one of two alone, whether there are any, the first one, and a set of one.
use Prim.Native.Nat.{ℕ, ◌+◌, ◌-◌, ◌*◌, ◌/◌, ◌%◌, ◌^◌, ◌<◌, ◌≤◌}
use mathlib.Core.Path.{◌≡◌, refl, sym, ap, ap₂, ◌∙◌, subst}
use mathlib.Core.Bool.{Bool, true, false, ◌&&◌, ◌||◌, not, xor, false≢true}
use mathlib.Core.List.{List}
use native.Mathlib.Omega.{arith}
use lib.Dec.{eqb}
use lib.Bits.{bit_and, bit_or, bit_xor}
use lib.Count.{count_trailing_zeros}
use lib.ListN.{length, get_or}
use borrow.Author.Tests.{eq-eqb, ne_eqb}
use Rattle.packed.specs.Packed.{word_bits, bit_at, bit_of}
use Rattle.packed.proofs.Packing.{WordOf, Between, bit-zero, bit_of_past, bit_of_word}
use Rattle.packed.proofs.Shifts.{bit-and, bit-or, bit_xor_lem, bit_past, bit_shl, bit_shl_low}
use Rattle.packed.proofs.Comparing.{trailing_one}
use Rattle.cyclic.proofs.BitOrder.{by_equal, by_order}

-- ---- two sets

-- those in both
abbrev pub in_both : List ℕ → List ℕ → ℕ → Bool
in_both a b q = bit_of a q && bit_of b q

-- those in the first alone
abbrev pub in_first : List ℕ → List ℕ → ℕ → Bool
in_first a b q = bit_of a q && not (bit_of b q)

xor_and : (s t : Bool) → xor s (s && t) ≡ (s && not t)
unfolding xor
xor_and true true = refl
xor_and true false = refl
xor_and false t = refl

-- word j of those in both
pub both_word : (a b : List ℕ) (j : ℕ) → WordOf (in_both a b) j (bit_and (get_or a j 0) (get_or b j 0))
both_word a b j k h = bit-and (get_or a j 0) (get_or b j 0) k ∙ ap₂ ◌&&◌ (sym (bit_of_word a j k h)) (sym (bit_of_word b j k h))

-- a bit of `x ^ (x & y)` is set where x alone has one
pub without_bit : (x y k : ℕ) → bit_at (bit_xor x (bit_and x y)) k ≡ (bit_at x k && not (bit_at y k))
without_bit x y k = bit_xor_lem x (bit_and x y) k ∙ ap (xor (bit_at x k)) (bit-and x y k) ∙ xor_and (bit_at x k) (bit_at y k)

-- word j of those in the first alone
pub first_word : (a b : List ℕ) (j x : ℕ) → x ≡ get_or a j 0 → WordOf (in_first a b) j (bit_xor x (bit_and x (get_or b j 0)))
first_word a b j x e k h =
    without_bit x (get_or b j 0) k
    ∙ ap₂ (λ (s t : Bool). s && not t) (ap (λ (y : ℕ). bit_at y k) e ∙ sym (bit_of_word a j k h)) (sym (bit_of_word b j k h))

-- past its words a set has none, and so has its part that passes a test
pub part_past : (a : List ℕ) (t : Bool) (q : ℕ) → word_bits * length a ≤ q → (bit_of a q && t) ≡ false
part_past a t q h = ap (λ (s : Bool). s && t) (bit_of_past a q h)

-- ---- whether there are any: the words put together

-- x is the first i words of f put together
pub record Gathered (f : ℕ → Bool) (i x : ℕ) : Type 0 where
  pub none : (q : ℕ) → q < word_bits * i → bit_at x (q % word_bits) ≡ false → f q ≡ false
  pub some : (k : ℕ) → k < word_bits → bit_at x k ≡ true → (q : ℕ) × (f q ≡ true)

-- before the first word
pub gathered_start : (f : ℕ → Bool) → Gathered f 0 0
gathered_start f = record {
  none = λ q h e. absurd (omega arith);
  some = λ k h e. absurd (false≢true (sym (bit-zero k) ∙ e));
}

or_first : (s t : Bool) → (s || t) ≡ false → s ≡ false
or_first true t e = e
or_first false t e = refl

or_second : (s t : Bool) → (s || t) ≡ false → t ≡ false
or_second true t e = absurd (false≢true (sym e))
or_second false t e = e

-- one word more
pub gathered_next : (f : ℕ → Bool) (i x y : ℕ) → WordOf f i y → Gathered f i x → Gathered f (i + 1) (bit_or x y)
gathered_next f i x y w g = record { none = none; some = λ k h e. some k h (bit_at x k) refl (sym (bit-or x y k) ∙ e) }
  where
    none : (q : ℕ) → q < word_bits * (i + 1) → bit_at (bit_or x y) (q % word_bits) ≡ false → f q ≡ false
    none q h e =
        let k = q % word_bits in
        let b : (bit_at x k || bit_at y k) ≡ false = sym (bit-or x y k) ∙ e in
        by_order (word_bits * i) q
        (λ m. let r : word_bits * i + k ≡ q = omega arith in ap f (sym r) ∙ sym (w k (omega arith)) ∙ or_second (bit_at x k) (bit_at y k) b)
        (λ m. g.none q m (or_first (bit_at x k) (bit_at y k) b))

    some : (k : ℕ) → k < word_bits → (s : Bool) → bit_at x k ≡ s → (bit_at x k || bit_at y k) ≡ true → (q : ℕ) × (f q ≡ true)
    some k h true d e = g.some k h d
    some k h false d e = (word_bits * i + k, sym (w k h) ∙ (rw d at e))

-- nothing is put together: there are none
pub gathered_none : (f : ℕ → Bool) (i x : ℕ) → ((q : ℕ) → word_bits * i ≤ q → f q ≡ false) → Gathered f i x → x ≡ 0 → (q : ℕ) → f q ≡ false
gathered_none f i x past g e q =
    by_order (word_bits * i) q (past q) (λ m. g.none q m (ap (λ (y : ℕ). bit_at y (q % word_bits)) e ∙ bit-zero (q % word_bits)))

-- a word other than 0 has a bit, at its trailing zeros
pub first_bit : (x : ℕ) → (x ≡ 0 → ⊥) → x < 2 ^ word_bits → (count_trailing_zeros word_bits x < word_bits) × (bit_at x (count_trailing_zeros word_bits x) ≡ true)
first_bit x n h = let t = trailing_one word_bits x n h in (t.0, ap (λ (d : ℕ). eqb d 1) t.1)

-- something is put together: there is one
pub gathered_some : (f : ℕ → Bool) (i x : ℕ) → x < 2 ^ word_bits → Gathered f i x → (x ≡ 0 → ⊥) → (q : ℕ) × (f q ≡ true)
gathered_some f i x h g n = let t = first_bit x n h in g.some (count_trailing_zeros word_bits x) t.0 t.1

-- ---- word after word

-- one word more that has the bits of f
pub between_more : (f : ℕ → Bool) (ws : List ℕ) (i : ℕ) → WordOf f i (get_or ws i 0) → Between f 0 i ws → Between f 0 (i + 1) ws
between_more f ws i w b q l h =
    by_order (word_bits * i) q
    (λ m. let r : word_bits * i + q % word_bits ≡ q = omega arith in
    subst (λ (p : ℕ). bit_of ws p ≡ f p) r (bit_of_word ws i (q % word_bits) (omega arith) ∙ w (q % word_bits) (omega arith)))
    (b q l)

-- the first bit of a word is in the set
pub first_in : (ws : List ℕ) (i : ℕ) → (get_or ws i 0 ≡ 0 → ⊥) → get_or ws i 0 < 2 ^ word_bits
    → bit_of ws (word_bits * i + count_trailing_zeros word_bits (get_or ws i 0)) ≡ true
first_in ws i n h = let t = first_bit (get_or ws i 0) n h in bit_of_word ws i (count_trailing_zeros word_bits (get_or ws i 0)) t.0 ∙ t.1

-- ---- the set of one

-- the bit of a power of two
one_bit : (b j : ℕ) → j < word_bits → bit_at (1 * 2 ^ b % 2 ^ word_bits) j ≡ eqb j b
one_bit b j h = by_order b j above (λ m. bit_shl_low 1 word_bits b j h m ∙ sym (ne_eqb j b (λ e. omega arith)))
  where
    above : b ≤ j → bit_at (1 * 2 ^ b % 2 ^ word_bits) j ≡ eqb j b
    above m = bit_shl 1 word_bits b j h m ∙ by_equal j b
        (λ e. let z : j - b ≡ 0 = omega arith in ap (bit_at 1) z ∙ sym (eq-eqb j b e))
        (λ e. bit_past 1 1 (j - b) (omega arith) (omega arith) ∙ sym (ne_eqb j b e))

-- the word that has it
pub alone_here : (k i : ℕ) → i ≡ k / word_bits → WordOf (λ q. eqb q k) i (1 * 2 ^ (k % word_bits) % 2 ^ word_bits)
alone_here k i e j h = one_bit (k % word_bits) j h ∙ by_equal j (k % word_bits)
    (λ d. eq-eqb j (k % word_bits) d ∙ sym (eq-eqb (word_bits * i + j) k (omega arith)))
    (λ d. ne_eqb j (k % word_bits) d ∙ sym (ne_eqb (word_bits * i + j) k (λ g. d (omega arith))))

-- the other words
pub alone-other : (k i : ℕ) → (i ≡ k / word_bits → ⊥) → WordOf (λ q. eqb q k) i 0
alone-other k i d j h = bit-zero j ∙ sym (ne_eqb (word_bits * i + j) k (λ g. d (omega arith)))

-- words that have the bits of a set of one, as many as reach it, have no others
pub alone-whole : (ws : List ℕ) (k i : ℕ) → k < word_bits * length ws → length ws ≤ i → Between (λ q. eqb q k) 0 i ws → (j : ℕ) → bit_of ws j ≡ eqb j k
alone-whole ws k i h l b j = by_order (word_bits * length ws) j
    (λ m. bit_of_past ws j m ∙ sym (ne_eqb j k (λ e. omega arith)))
    (λ m. b j (omega arith) (omega arith))

-- words without a bit hold no candidate
pub none_whole : (ws : List ℕ) (i : ℕ) → length ws ≤ i → Between (λ q. false) 0 i ws → (j : ℕ) → bit_of ws j ≡ false
none_whole ws i l b j = by_order (word_bits * length ws) j (bit_of_past ws j) (λ m. b j (omega arith) (omega arith))
