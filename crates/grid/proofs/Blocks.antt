-- Planes read and made machine word by machine word, for the bits of a block.
use Prim.Native.Nat.{ℕ, ◌+◌, ◌*◌, ◌%◌, ◌<◌, ◌≤◌}
use mathlib.Core.Path.{◌≡◌, sym, ap, ap₂, ◌∙◌}
use mathlib.Core.Logic.{⊎_elim}
use mathlib.Core.Bool.{Bool, true, false, ◌&&◌, and-true, and-false}
use mathlib.Core.List.{List}
use native.Mathlib.Decide.{dec_le}
use native.Mathlib.Omega.{arith}
use lib.Dec.{ltb}
use lib.Bits.{bit_and}
use lib.ListN.{length, get_or}
use borrow.Author.Tests.{lt-ltb, le-ltb}
use Rattle.packed.specs.Packed.{word_bits, bit_at, bit_of, Clear}
use Rattle.packed.proofs.Packing.{WordOf, Between, bit_of_word, bit_of_past, bit-zero}
use Rattle.packed.proofs.Shifts.{below_or_not, bit-and}
use Rattle.packed.proofs.Masks.{below_bits}

-- ---- machine words read one after the other

-- one machine word more has the bits of f
pub read_next : (f : ℕ → Bool) (ws : List ℕ) (i : ℕ) → WordOf f i (get_or ws i 0) → Between f 0 i ws → Between f 0 (i + 1) ws
read_next f ws i here before q l h = go (dec_le (word_bits * i) q)
  where
    go : Dec (word_bits * i ≤ q) → bit_of ws q ≡ f q
    go (no g) = before q l (omega arith)
    go (yes g) =
        let e : word_bits * i + q % word_bits ≡ q = omega arith in
        ap (bit_of ws) (sym e) ∙ bit_of_word ws i (q % word_bits) (omega arith) ∙ here (q % word_bits) (omega arith) ∙ ap f e

-- all machine words have them, and past their end f has no bit
pub read_all : (f : ℕ → Bool) (ws : List ℕ) (i : ℕ) → length ws ≤ i → ((q : ℕ) → word_bits * length ws ≤ q → f q ≡ false)
    → Between f 0 i ws → (q : ℕ) → bit_of ws q ≡ f q
read_all f ws i h none has q =
    ⊎_elim (λ l. has q (omega arith) (omega arith)) (λ l. bit_of_past ws q l ∙ sym (none q l)) (below_or_not q (word_bits * length ws))

-- a machine word that is 0 has no bit
pub zero_word : (i x : ℕ) → x ≡ 0 → WordOf (λ q. false) i x
zero_word i x e k h = ap (λ (y : ℕ). bit_at y k) e ∙ bit-zero k

-- one that equals machine word i of f has its bits
pub same_word : (f : ℕ → Bool) (i x y : ℕ) → x ≡ y → WordOf f i y → WordOf f i x
same_word f i x y e has k h = ap (λ (z : ℕ). bit_at z k) e ∙ has k h

-- machine words that have the bits below n have every bit there
pub every_set : (n : ℕ) (ws : List ℕ) (i : ℕ) → n ≤ word_bits * length ws → length ws ≤ i → Between (below_bits n) 0 i ws → (k : ℕ) → k < n → bit_of ws k ≡ true
every_set n ws i room h has k l = has k (omega arith) (omega arith) ∙ lt-ltb k n l

-- ---- a block copied

-- the bits of a block of n from `base` on
abbrev pub block_bits : (ℕ → Bool) → ℕ → ℕ → ℕ → Bool
block_bits f base n q = f (base + q) && ltb q n

-- a machine word of a block is what stands there, without what is past the block
pub block_word : (f : ℕ → Bool) (base n i x y : ℕ) → ((k : ℕ) → k < word_bits → bit_at x k ≡ f (base + word_bits * i + k)) → WordOf (below_bits n) i y
    → WordOf (block_bits f base n) i (bit_and x y)
block_word f base n i x y hx hy k h =
    let e : base + word_bits * i + k ≡ base + (word_bits * i + k) = omega arith in
    bit-and x y k ∙ ap₂ ◌&&◌ (hx k h ∙ ap f e) (hy k h)

module _ (f : ℕ → Bool) (base n : ℕ) (ws : List ℕ) (i : ℕ) (room : n ≤ word_bits * length ws) (h : length ws ≤ i) (has : Between (block_bits f base n) 0 i ws) where
  -- a block that is copied has the bits of the plane
  pub block-bits : (k : ℕ) → k < n → bit_of ws k ≡ f (base + k)
  block-bits k l = has k (omega arith) (omega arith) ∙ ap (λ (t : Bool). f (base + k) && t) (lt-ltb k n l) ∙ and-true (f (base + k))

  -- and none past the block
  pub block-clear : Clear n ws
  block-clear q l =
      read_all (block_bits f base n) ws i h (λ p g. none p (omega arith)) has q ∙ none q l
    where
      none : (p : ℕ) → n ≤ p → block_bits f base n p ≡ false
      none p g = ap (λ (t : Bool). f (base + p) && t) (le-ltb p n g) ∙ and-false (f (base + p))

-- ---- bits that are alike

-- bits of which none is set are alike
pub alike_none : (f : ℕ → Bool) → ((k : ℕ) → f k ≡ false) → (j k : ℕ) → f j ≡ f k
alike_none f h j k = h j ∙ sym (h k)

-- so are those below n that are all set
pub alike_every : (f : ℕ → Bool) (n : ℕ) → ((k : ℕ) → k < n → f k ≡ true) → (j k : ℕ) → j < n → k < n → f j ≡ f k
alike_every f n h j k l m = h j l ∙ sym (h k m)
