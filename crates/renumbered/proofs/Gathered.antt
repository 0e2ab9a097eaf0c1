-- Bits put together one by one, from the last to the first: a machine word of them, and a plane of such words.
use Prim.Native.Nat.{ℕ, zero, suc, ◌+◌, ◌-◌, ◌*◌, ◌/◌, ◌%◌, ◌^◌, ◌≤◌, ◌<◌, min}
use mathlib.Core.Path.{◌≡◌, refl, sym, ap, ap₂, ◌∙◌}
use mathlib.Core.Logic.{⊎_elim}
use mathlib.Core.Bool.{Bool, true, false, ◌&&◌, ◌||◌, cond, or-false}
use mathlib.Core.List.{List}
use native.Mathlib.Omega.{arith}
use borrow.Author.Tests.{lt-ltb, le-ltb}
use lib.Bits.{bit_and, bit_or}
use lib.Dec.{ltb}
use lib.ListN.{length}
use Rattle.packed.specs.Packed.{word_bits, bit_at, bit_of, Clear}
use Rattle.packed.proofs.Packing.{WordOf, Between, bit_shr, bit-zero}
use Rattle.packed.proofs.Shifts.{below_or_not, bit-and, bit-or, bit_shl, bit_shl_low, bit_past}
use Rattle.grid.proofs.Blocks.{read_all}

-- the first c bits of f, and then none
abbrev pub first_bits : (ℕ → Bool) → ℕ → ℕ → Bool
first_bits f c j = cond (ltb j c) (f j) false

first_low : (f : ℕ → Bool) (c j : ℕ) → j < c → first_bits f c j ≡ f j
first_low f c j h = rw (lt-ltb j c h)

first_high : (f : ℕ → Bool) (c j : ℕ) → c ≤ j → first_bits f c j ≡ false
first_high f c j h = rw (le-ltb j c h)

-- ---- a machine word

-- x holds the bits of f from k on that are below count
abbrev pub Gathered : (ℕ → Bool) → ℕ → ℕ → ℕ → Type 0
Gathered f count k x = (j : ℕ) → j < word_bits → bit_at x j ≡ first_bits (λ i. f (k + i)) (count - k) j

-- none at first
pub gathered_start : (f : ℕ → Bool) (count : ℕ) → Gathered f count count 0
gathered_start f count j h = bit-zero j ∙ sym (first_high (λ i. f (count + i)) (count - count) j (omega arith))

-- one bit more below the others
pub gathered_next : (f : ℕ → Bool) (count k x b : ℕ) → 0 < k → k ≤ count → b < 2 → bit_at b 0 ≡ f (k - 1) → Gathered f count k x
    → Gathered f count (k - 1) (bit_or (x * 2 ^ 1 % 2 ^ word_bits) b)
gathered_next f count k x b some inside small low has zero h =
    let e : k - 1 + 0 ≡ k - 1 = omega arith in
    bit-or (x * 2 ^ 1 % 2 ^ word_bits) b 0
    ∙ ap₂ ◌||◌ (bit_shl_low x word_bits 1 0 h (omega arith)) low
    ∙ sym (first_low (λ i. f (k - 1 + i)) (count - (k - 1)) 0 (omega arith) ∙ ap f e)
gathered_next f count k x b some inside small low has (suc j) h =
    let e : suc j - 1 ≡ j = omega arith in
    bit-or (x * 2 ^ 1 % 2 ^ word_bits) b (suc j)
    ∙ ap₂ ◌||◌ (bit_shl x word_bits 1 (suc j) h (omega arith) ∙ ap (bit_at x) e ∙ has j (omega arith)) (bit_past b 1 (suc j) small (omega arith))
    ∙ or-false (first_bits (λ i. f (k + i)) (count - k) j)
    ∙ ⊎_elim below past (below_or_not j (count - k))
  where
    below : j < count - k → first_bits (λ i. f (k + i)) (count - k) j ≡ first_bits (λ i. f (k - 1 + i)) (count - (k - 1)) (suc j)
    below l =
        let e : k + j ≡ k - 1 + suc j = omega arith in
        first_low (λ i. f (k + i)) (count - k) j l ∙ ap f e ∙ sym (first_low (λ i. f (k - 1 + i)) (count - (k - 1)) (suc j) (omega arith))

    past : count - k ≤ j → first_bits (λ i. f (k + i)) (count - k) j ≡ first_bits (λ i. f (k - 1 + i)) (count - (k - 1)) (suc j)
    past l = first_high (λ i. f (k + i)) (count - k) j l ∙ sym (first_high (λ i. f (k - 1 + i)) (count - (k - 1)) (suc j) (omega arith))

-- all of them
pub gathered_end : (f : ℕ → Bool) (count k x : ℕ) → k ≤ 0 → Gathered f count k x → (j : ℕ) → j < word_bits → bit_at x j ≡ first_bits f count j
gathered_end f count k x none has j h =
    let e : k + j ≡ j = omega arith in
    let c : count - k ≡ count = omega arith in
    has j h ∙ ap₂ (λ (d i : ℕ). cond (ltb j d) (f i) false) c e

-- ---- a plane

module _ (f : ℕ → Bool) (n i start count x : ℕ) (starts : start ≡ min (word_bits * i) n) (counts : count ≡ min word_bits (n - start))
    (has : (k : ℕ) → k < word_bits → bit_at x k ≡ cond (ltb k count) (f (start + k)) false) where
  -- so many bits from there on are machine word i of the plane
  pub gathered-word : WordOf (first_bits f n) i x
  gathered-word k h = has k h ∙ ⊎_elim inside outside (below_or_not (word_bits * i + k) n)
    where
      inside : word_bits * i + k < n → first_bits (λ j. f (start + j)) count k ≡ first_bits f n (word_bits * i + k)
      inside l =
          let e : start + k ≡ word_bits * i + k = omega arith in
          first_low (λ j. f (start + j)) count k (omega arith) ∙ ap f e ∙ sym (first_low f n (word_bits * i + k) l)

      outside : n ≤ word_bits * i + k → first_bits (λ j. f (start + j)) count k ≡ first_bits f n (word_bits * i + k)
      outside l = first_high (λ j. f (start + j)) count k (omega arith) ∙ sym (first_high f n (word_bits * i + k) l)

module _ (f : ℕ → Bool) (n : ℕ) (ws : List ℕ) (i : ℕ) (room : n ≤ word_bits * length ws) (h : length ws ≤ i) (has : Between (first_bits f n) 0 i ws) where
  -- a plane of such words has the bits of f below n
  pub gathered-bits : (q : ℕ) → q < n → bit_of ws q ≡ f q
  gathered-bits q l = has q (omega arith) (omega arith) ∙ first_low f n q l

  -- and none past them
  pub gathered-clear : Clear n ws
  gathered-clear q l = read_all (first_bits f n) ws i h (λ p g. first_high f n p (omega arith)) has q ∙ first_high f n q l

-- ---- one bit

-- the lowest bit of what is left of a number
pub lowest_bit : (x k : ℕ) → bit_at (bit_and (x / 2 ^ k) 1) 0 ≡ bit_at x k
lowest_bit x k =
    let e : k + 0 ≡ k = omega arith in
    bit-and (x / 2 ^ k) 1 0 ∙ ap₂ ◌&&◌ (bit_shr x k 0 ∙ ap (bit_at x) e) refl ∙ both (bit_at x k)
  where
    both : (a : Bool) → (a && true) ≡ a
    both true = refl
    both false = refl
