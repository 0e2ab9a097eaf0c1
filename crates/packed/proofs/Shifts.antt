-- Shifts and masks bit by bit: the bits of a machine word under `&`, `|`, `^`, `<<` and `>>`, and the bits of a plane of words that is moved.
use Prim.Native.Nat.{ℕ, zero, suc, ◌+◌, ◌-◌, ◌*◌, ◌/◌, ◌%◌, ◌^◌, ◌<◌, ◌≤◌}
use mathlib.Core.Path.{◌≡◌, refl, sym, ap, ap₂, ◌∙◌}
use mathlib.Core.Logic.{◌⊎◌, inl, inr, ⊎_elim}
use mathlib.Core.Bool.{Bool, false, true, ◌&&◌, ◌||◌, cond, not, or-false, xor}
use mathlib.Core.List.{List}
use native.Mathlib.Nat.{div-eq_of_lt, lt_of_lt_of_le, mul_assoc}
use native.Mathlib.Decide.{dec_lt}
use native.Mathlib.Omega.{arith}
use lib.Dec.{eqb, ltb}
use lib.ListN.{length, get_or, set, replicate, get_or-eq_default}
use lib.Seq.{get_or-set_same, get_or-set_other}
use lib.Pow.{pow_pos, pow_mono, pow-add, shl-shr, shr-shr, high, ones_lt, ones_split}
use lib.Bits.{bit_and, bit_or, bit_xor, and_shr, or_shr, xor_shr, and_step, or_add_and, xor_add_and, shifted_even}
use borrow.Author.Count.{below_more}
use borrow.Author.Tests.{lt-ltb, le-ltb}
use Rattle.pauli_word.specs.Bytes.{odd}
use Rattle.pauli_word.proofs.Bits.{odd_cases}
use Rattle.packed.specs.Packed.{word_bits, bit_at, bit_of}
use Rattle.packed.proofs.Packing.{bit-mod, bit_shr, bit-zero, bit_of_past, bit_of_word, WordOf, Between, between-set}

-- of two numbers, the first is below the second or is not
pub below_or_not : (a b : ℕ) → (a < b) ⊎ (b ≤ a)
below_or_not a b = go (dec_lt a b)
  where
    go : Dec (a < b) → (a < b) ⊎ (b ≤ a)
    go (yes h) = inl h
    go (no h) = inr (omega arith)

odd_of : (x y : ℕ) → x % 2 ≡ y % 2 → odd x ≡ odd y
odd_of x y e = ap (λ (r : ℕ). eqb r 1) e

Parity : ℕ → Type 0
Parity x = ((x % 2 ≡ 0) × (odd x ≡ false)) ⊎ ((x % 2 ≡ 1) × (odd x ≡ true))

odd-and : (a b : ℕ) → odd (bit_and a b) ≡ (odd a && odd b)
unfolding Parity
odd-and a b = go (odd_cases a) (odd_cases b)
  where
    go : Parity a → Parity b → odd (bit_and a b) ≡ (odd a && odd b)
    go (inl h) (inl k) = odd_of (bit_and a b) 0 (omega (arith, and_step a b)) ∙ sym (ap₂ ◌&&◌ h.1 k.1)
    go (inl h) (inr k) = odd_of (bit_and a b) 0 (omega (arith, and_step a b)) ∙ sym (ap₂ ◌&&◌ h.1 k.1)
    go (inr h) (inl k) = odd_of (bit_and a b) 0 (omega (arith, and_step a b)) ∙ sym (ap₂ ◌&&◌ h.1 k.1)
    go (inr h) (inr k) = odd_of (bit_and a b) 1 (omega (arith, and_step a b)) ∙ sym (ap₂ ◌&&◌ h.1 k.1)

odd-or : (a b : ℕ) → odd (bit_or a b) ≡ (odd a || odd b)
unfolding Parity
odd-or a b = go (odd_cases a) (odd_cases b)
  where
    go : Parity a → Parity b → odd (bit_or a b) ≡ (odd a || odd b)
    go (inl h) (inl k) = odd_of (bit_or a b) 0 (omega (arith, and_step a b, or_add_and a b)) ∙ sym (ap₂ ◌||◌ h.1 k.1)
    go (inl h) (inr k) = odd_of (bit_or a b) 1 (omega (arith, and_step a b, or_add_and a b)) ∙ sym (ap₂ ◌||◌ h.1 k.1)
    go (inr h) (inl k) = odd_of (bit_or a b) 1 (omega (arith, and_step a b, or_add_and a b)) ∙ sym (ap₂ ◌||◌ h.1 k.1)
    go (inr h) (inr k) = odd_of (bit_or a b) 1 (omega (arith, and_step a b, or_add_and a b)) ∙ sym (ap₂ ◌||◌ h.1 k.1)

odd_xor : (a b : ℕ) → odd (bit_xor a b) ≡ xor (odd a) (odd b)
unfolding Parity xor
odd_xor a b = go (odd_cases a) (odd_cases b)
  where
    go : Parity a → Parity b → odd (bit_xor a b) ≡ xor (odd a) (odd b)
    go (inl h) (inl k) = odd_of (bit_xor a b) 0 (omega (arith, xor_add_and a b)) ∙ sym (ap₂ xor h.1 k.1)
    go (inl h) (inr k) = odd_of (bit_xor a b) 1 (omega (arith, xor_add_and a b)) ∙ sym (ap₂ xor h.1 k.1)
    go (inr h) (inl k) = odd_of (bit_xor a b) 1 (omega (arith, xor_add_and a b)) ∙ sym (ap₂ xor h.1 k.1)
    go (inr h) (inr k) = odd_of (bit_xor a b) 0 (omega (arith, xor_add_and a b)) ∙ sym (ap₂ xor h.1 k.1)

-- a bit of `a & b` is set where both are
pub bit-and : (a b k : ℕ) → bit_at (bit_and a b) k ≡ (bit_at a k && bit_at b k)
bit-and a b k = ap odd (and_shr a b k) ∙ odd-and (a / 2 ^ k) (b / 2 ^ k)

-- a bit of `a | b` is set where one of them is
pub bit-or : (a b k : ℕ) → bit_at (bit_or a b) k ≡ (bit_at a k || bit_at b k)
bit-or a b k = ap odd (or_shr a b k) ∙ odd-or (a / 2 ^ k) (b / 2 ^ k)

-- a bit of `a ^ b` is set where just one of them is
pub bit_xor_lem : (a b k : ℕ) → bit_at (bit_xor a b) k ≡ xor (bit_at a k) (bit_at b k)
bit_xor_lem a b k = ap odd (xor_shr a b k) ∙ odd_xor (a / 2 ^ k) (b / 2 ^ k)

pick_bits : (m a b : Bool) → xor b (xor a b && m) ≡ cond m a b
unfolding xor
pick_bits false false false = refl
pick_bits false false true = refl
pick_bits false true false = refl
pick_bits false true true = refl
pick_bits true false false = refl
pick_bits true false true = refl
pick_bits true true false = refl
pick_bits true true true = refl

-- a number of w bits has none from w on
pub bit_past : (x w k : ℕ) → x < 2 ^ w → w ≤ k → bit_at x k ≡ false
bit_past x w k h l = ap odd (div-eq_of_lt (lt_of_lt_of_le h (pow_mono l)))

times_low : (x j k : ℕ) → k < j → bit_at (x * 2 ^ j) k ≡ false
times_low x j k h =
    let m = j - (1 + k) in
    let e : j ≡ suc m + k = omega arith in
    ap (λ (v : ℕ). odd (x * 2 ^ v / 2 ^ k)) e
    ∙ ap (λ (v : ℕ). odd (x * v / 2 ^ k)) (pow-add 2 (suc m) k)
    ∙ ap (λ (v : ℕ). odd (v / 2 ^ k)) (sym (mul_assoc x (2 ^ suc m) (2 ^ k)))
    ∙ ap odd (shl-shr (x * 2 ^ suc m) k)
    ∙ odd_of (x * 2 ^ suc m) 0 (shifted_even x m)

times_high : (x j m : ℕ) → bit_at (x * 2 ^ j) (j + m) ≡ bit_at x m
times_high x j m = ap odd (sym (shr-shr (x * 2 ^ j) j m)) ∙ ap (λ (v : ℕ). odd (v / 2 ^ m)) (shl-shr x j)

-- `x << j` in words of w bits: no bit below j is set
pub bit_shl_low : (x w j k : ℕ) → k < w → k < j → bit_at (x * 2 ^ j % 2 ^ w) k ≡ false
bit_shl_low x w j k h l = bit-mod (x * 2 ^ j) w k h ∙ times_low x j k l

-- `x << j` in words of w bits: each other bit comes from j below it
pub bit_shl : (x w j k : ℕ) → k < w → j ≤ k → bit_at (x * 2 ^ j % 2 ^ w) k ≡ bit_at x (k - j)
bit_shl x w j k h l =
    let e : k ≡ j + (k - j) = omega arith in
    bit-mod (x * 2 ^ j) w k h ∙ ap (bit_at (x * 2 ^ j)) e ∙ times_high x j (k - j)

-- `(1 << n) - 1`: the n lowest bits are set
pub bit_ones : (n k : ℕ) → bit_at (2 ^ n - 1) k ≡ ltb k n
bit_ones n k = ⊎_elim inside outside (below_or_not k n)
  where
    inside : k < n → bit_at (2 ^ n - 1) k ≡ ltb k n
    inside h =
        let m = n - (1 + k) in
        let e : n ≡ suc m + k = omega arith in
        ap (λ (v : ℕ). odd ((2 ^ v - 1) / 2 ^ k)) e
        ∙ ap (λ (v : ℕ). odd (v / 2 ^ k)) (ones_split (suc m) k)
        ∙ ap odd (high (2 ^ suc m - 1) k (ones_lt k))
        ∙ odd_of (2 ^ suc m - 1) 1 (omega (arith, pow_pos m))
        ∙ sym (lt-ltb k n h)

    outside : n ≤ k → bit_at (2 ^ n - 1) k ≡ ltb k n
    outside h = bit_past (2 ^ n - 1) n k (ones_lt n) h ∙ sym (le-ltb k n h)

-- a word of w bits that is moved up by b, with the highest bits of hi below it
abbrev pub joined_up : ℕ → ℕ → ℕ → ℕ → ℕ
joined_up w b lo hi = bit_or (lo * 2 ^ b % 2 ^ w) (hi / 2 ^ 1 / 2 ^ (w - 1 - b))

carried_up : (hi w b k : ℕ) → b < w → bit_at (hi / 2 ^ 1 / 2 ^ (w - 1 - b)) k ≡ bit_at hi (w - b + k)
carried_up hi w b k h =
    let e : 1 + (w - 1 - b + k) ≡ w - b + k = omega arith in
    bit_shr (hi / 2 ^ 1) (w - 1 - b) k ∙ bit_shr hi 1 (w - 1 - b + k) ∙ ap (bit_at hi) e

-- from b on it has the bits of lo
pub joined-up : (lo hi w b k : ℕ) → hi < 2 ^ w → k < w → b ≤ k → bit_at (joined_up w b lo hi) k ≡ bit_at lo (k - b)
joined-up lo hi w b k f h l =
    bit-or (lo * 2 ^ b % 2 ^ w) (hi / 2 ^ 1 / 2 ^ (w - 1 - b)) k
    ∙ ap₂ ◌||◌ (bit_shl lo w b k h l) (carried_up hi w b k (omega arith) ∙ bit_past hi w (w - b + k) f (omega arith))
    ∙ or-false (bit_at lo (k - b))

-- below b it has the highest bits of hi
pub joined-up_low : (lo hi w b k : ℕ) → k < b → b < w → bit_at (joined_up w b lo hi) k ≡ bit_at hi (w - b + k)
joined-up_low lo hi w b k h l =
    bit-or (lo * 2 ^ b % 2 ^ w) (hi / 2 ^ 1 / 2 ^ (w - 1 - b)) k
    ∙ ap₂ ◌||◌ (bit_shl_low lo w b k (omega arith) h) (carried_up hi w b k l)

-- a word of w bits that is moved down by b, with the lowest bits of hi above it
abbrev pub joined_down : ℕ → ℕ → ℕ → ℕ → ℕ
joined_down w b lo hi = bit_or (lo / 2 ^ b) (hi * 2 ^ 1 % 2 ^ w * 2 ^ (w - 1 - b) % 2 ^ w)

carried_down : (hi w b k : ℕ) → b < w → k < w → w - b ≤ k → bit_at (hi * 2 ^ 1 % 2 ^ w * 2 ^ (w - 1 - b) % 2 ^ w) k ≡ bit_at hi (k - (w - b))
carried_down hi w b k l h r =
    let e : k - (w - 1 - b) - 1 ≡ k - (w - b) = omega arith in
    bit_shl (hi * 2 ^ 1 % 2 ^ w) w (w - 1 - b) k h (omega arith)
    ∙ bit_shl hi w 1 (k - (w - 1 - b)) (omega arith) (omega arith)
    ∙ ap (bit_at hi) e

carried_room : (hi w b k : ℕ) → b < w → k < w - b → bit_at (hi * 2 ^ 1 % 2 ^ w * 2 ^ (w - 1 - b) % 2 ^ w) k ≡ false
carried_room hi w b k l r =
    ⊎_elim (λ h. bit_shl_low (hi * 2 ^ 1 % 2 ^ w) w (w - 1 - b) k (omega arith) h)
    (λ h. bit_shl (hi * 2 ^ 1 % 2 ^ w) w (w - 1 - b) k (omega arith) h ∙ bit_shl_low hi w 1 (k - (w - 1 - b)) (omega arith) (omega arith))
    (below_or_not k (w - 1 - b))

-- below w - b it has the bits of lo
pub joined-down : (lo hi w b k : ℕ) → b < w → k < w - b → bit_at (joined_down w b lo hi) k ≡ bit_at lo (b + k)
joined-down lo hi w b k l h =
    bit-or (lo / 2 ^ b) (hi * 2 ^ 1 % 2 ^ w * 2 ^ (w - 1 - b) % 2 ^ w) k
    ∙ ap₂ ◌||◌ (bit_shr lo b k) (carried_room hi w b k l h)
    ∙ or-false (bit_at lo (b + k))

-- from w - b on it has the lowest bits of hi
pub joined-down_high : (lo hi w b k : ℕ) → lo < 2 ^ w → b < w → k < w → w - b ≤ k → bit_at (joined_down w b lo hi) k ≡ bit_at hi (k - (w - b))
joined-down_high lo hi w b k f l h r =
    bit-or (lo / 2 ^ b) (hi * 2 ^ 1 % 2 ^ w * 2 ^ (w - 1 - b) % 2 ^ w) k
    ∙ ap₂ ◌||◌ (bit_shr lo b k ∙ bit_past lo w (b + k) f (omega arith)) (carried_down hi w b k l h r)

-- bit m of word j of a plane is bit word_bits * j + m of the plane, whose place may be said in another way
pub at_word : (ws : List ℕ) (j m q : ℕ) → m < word_bits → word_bits * j + m ≡ q → bit_at (get_or ws j 0) m ≡ bit_of ws q
at_word ws j m q h e = sym (bit_of_word ws j m h) ∙ ap (bit_of ws) e

-- bits moved up by s, with nothing below
abbrev pub moved_up : ℕ → (ℕ → Bool) → ℕ → Bool
moved_up s f q = not (ltb q s) && f (q - s)

-- below s there is nothing
pub moved_low : (s : ℕ) (f : ℕ → Bool) (q : ℕ) → q < s → moved_up s f q ≡ false
moved_low s f q h = ap (λ (t : Bool). not t && f (q - s)) (lt-ltb q s h)

-- from s on each bit comes from s below it
pub moved_high : (s : ℕ) (f : ℕ → Bool) (q : ℕ) → s ≤ q → moved_up s f q ≡ f (q - s)
moved_high s f q h = ap (λ (t : Bool). not t && f (q - s)) (le-ltb q s h)

-- word i of a plane moved up by s: a word below the shift is 0
pub up_none : (ws : List ℕ) (i s k : ℕ) → k < word_bits → i < s / word_bits → bit_at 0 k ≡ moved_up s (bit_of ws) (word_bits * i + k)
up_none ws i s k h l = bit-zero k ∙ sym (moved_low s (bit_of ws) (word_bits * i + k) (omega arith))

-- word i of a plane moved up by s: the word where the shift ends is the plane's first
pub up_first : (ws : List ℕ) (i s lo k : ℕ) → lo ≡ get_or ws (i - s / word_bits) 0 → k < word_bits → i ≡ s / word_bits
    → bit_at (lo * 2 ^ (s % word_bits) % 2 ^ word_bits) k ≡ moved_up s (bit_of ws) (word_bits * i + k)
up_first ws i s lo k e h l = ⊎_elim under over (below_or_not k (s % word_bits))
  where
    under : k < s % word_bits → bit_at (lo * 2 ^ (s % word_bits) % 2 ^ word_bits) k ≡ moved_up s (bit_of ws) (word_bits * i + k)
    under r = bit_shl_low lo word_bits (s % word_bits) k h r ∙ sym (moved_low s (bit_of ws) (word_bits * i + k) (omega arith))

    over : s % word_bits ≤ k → bit_at (lo * 2 ^ (s % word_bits) % 2 ^ word_bits) k ≡ moved_up s (bit_of ws) (word_bits * i + k)
    over r =
        bit_shl lo word_bits (s % word_bits) k h r ∙ ap (λ (x : ℕ). bit_at x (k - s % word_bits)) e
        ∙ at_word ws (i - s / word_bits) (k - s % word_bits) (word_bits * i + k - s) (omega arith) (omega arith)
        ∙ sym (moved_high s (bit_of ws) (word_bits * i + k) (omega arith))

-- word i of a plane moved up by s: a word above the shift is made of two
pub up-whole : (ws : List ℕ) (i s lo hi k : ℕ) → lo ≡ get_or ws (i - s / word_bits) 0 → hi ≡ get_or ws (i - s / word_bits - 1) 0 → hi < 2 ^ word_bits
    → k < word_bits → s / word_bits < i → bit_at (joined_up word_bits (s % word_bits) lo hi) k ≡ moved_up s (bit_of ws) (word_bits * i + k)
up-whole ws i s lo hi k e f b h l = ⊎_elim under over (below_or_not k (s % word_bits))
  where
    under : k < s % word_bits → bit_at (joined_up word_bits (s % word_bits) lo hi) k ≡ moved_up s (bit_of ws) (word_bits * i + k)
    under r =
        joined-up_low lo hi word_bits (s % word_bits) k r (omega arith) ∙ ap (λ (x : ℕ). bit_at x (word_bits - s % word_bits + k)) f
        ∙ at_word ws (i - s / word_bits - 1) (word_bits - s % word_bits + k) (word_bits * i + k - s) (omega arith) (omega arith)
        ∙ sym (moved_high s (bit_of ws) (word_bits * i + k) (omega arith))

    over : s % word_bits ≤ k → bit_at (joined_up word_bits (s % word_bits) lo hi) k ≡ moved_up s (bit_of ws) (word_bits * i + k)
    over r =
        joined-up lo hi word_bits (s % word_bits) k b h r ∙ ap (λ (x : ℕ). bit_at x (k - s % word_bits)) e
        ∙ at_word ws (i - s / word_bits) (k - s % word_bits) (word_bits * i + k - s) (omega arith) (omega arith)
        ∙ sym (moved_high s (bit_of ws) (word_bits * i + k) (omega arith))

-- a bit of `b ^ ((a ^ b) & m)` is that of a where m has a bit, and that of b elsewhere
pub bit_pick : (m a b k : ℕ) → bit_at (bit_xor b (bit_and (bit_xor a b) m)) k ≡ cond (bit_at m k) (bit_at a k) (bit_at b k)
bit_pick m a b k =
    bit_xor_lem b (bit_and (bit_xor a b) m) k
    ∙ ap (xor (bit_at b k)) (bit-and (bit_xor a b) m k ∙ ap (λ (t : Bool). t && bit_at m k) (bit_xor_lem a b k))
    ∙ pick_bits (bit_at m k) (bit_at a k) (bit_at b k)

-- a word moved up by s
pub lift_some : (x s k : ℕ) → k < word_bits → s < word_bits → bit_at (x * 2 ^ s % 2 ^ word_bits) k ≡ moved_up s (bit_at x) k
lift_some x s k h l =
    ⊎_elim (λ r. bit_shl_low x word_bits s k h r ∙ sym (moved_low s (bit_at x) k r)) (λ r. bit_shl x word_bits s k h r ∙ sym (moved_high s (bit_at x) k r))
    (below_or_not k s)

-- a word moved down by t
pub lower_some : (x t k : ℕ) → bit_at (x / 2 ^ t) k ≡ bit_at x (k + t)
lower_some x t k = let e : t + k ≡ k + t = omega arith in bit_shr x t k ∙ ap (bit_at x) e

-- a word moved down by all its bits or more
pub lower_all : (x t k : ℕ) → x < 2 ^ word_bits → word_bits ≤ t → bit_at 0 k ≡ bit_at x (k + t)
lower_all x t k f h = bit-zero k ∙ sym (bit_past x word_bits (k + t) f (omega arith))

-- a word moved up by all its bits or more
pub lift_all : (x s k : ℕ) → k < word_bits → word_bits ≤ s → bit_at 0 k ≡ moved_up s (bit_at x) k
lift_all x s k h l = bit-zero k ∙ sym (moved_low s (bit_at x) k (omega arith))

-- a plane of one word has the bits of that word
pub single : (ws : List ℕ) (q : ℕ) → length ws ≡ 1 → get_or ws 0 0 < 2 ^ word_bits → bit_of ws q ≡ bit_at (get_or ws 0 0) q
single ws q e f =
    ⊎_elim (λ l. sym (at_word ws 0 q q l (omega arith))) (λ l. bit_of_past ws q (omega arith) ∙ sym (bit_past (get_or ws 0 0) word_bits q f l)) (below_or_not q word_bits)

-- the words of ws before the m-th are 0, and from there on it has the first i words of vs, and then zeros
abbrev pub Padded : ℕ → ℕ → List ℕ → List ℕ → Type 0
Padded m i vs ws = ((k : ℕ) → k < m → get_or ws k 0 ≡ 0) × ((k : ℕ) → k < i → get_or ws (m + k) 0 ≡ get_or vs k 0) × ((k : ℕ) → i ≤ k → get_or ws (m + k) 0 ≡ 0)

-- one word more is copied
pub padded_next : (m : ℕ) (vs ws : List ℕ) (i : ℕ) → m + i < length ws → Padded m i vs ws → Padded m (i + 1) vs (set ws (m + i) (get_or vs i 0))
padded_next m vs ws i h c =
    let v = get_or vs i 0 in (
      λ k l. get_or-set_other ws (m + i) k v 0 (omega arith) ∙ c.0 k l,
      below_more (λ k. get_or (set ws (m + i) (get_or vs i 0)) (m + k) 0 ≡ get_or vs k 0) i
          (λ k l. get_or-set_other ws (m + i) (m + k) (get_or vs i 0) 0 (omega arith) ∙ c.1 k l) (get_or-set_same ws (m + i) (get_or vs i 0) 0 h),
      λ k l. get_or-set_other ws (m + i) (m + k) v 0 (omega arith) ∙ c.2 k (omega arith),
    )

-- all words are copied: past the end there is 0 in both
pub padded_all : (m : ℕ) (vs ws : List ℕ) (i : ℕ) → length vs ≤ i → Padded m i vs ws → (k : ℕ) → get_or ws (m + k) 0 ≡ get_or vs k 0
padded_all m vs ws i h c k = ⊎_elim (λ l. c.1 k l) (λ l. c.2 k l ∙ sym (get_or-eq_default vs 0 (omega arith))) (below_or_not k i)

-- a plane that is padded has no bit below, and its bits from there on
module _ (m : ℕ) (vs ws : List ℕ) (before : (k : ℕ) → k < m → get_or ws k 0 ≡ 0) (words : (k : ℕ) → get_or ws (m + k) 0 ≡ get_or vs k 0) where
  pub padded-low : (q : ℕ) → q < word_bits * m → bit_of ws q ≡ false
  unfolding bit_of
  padded-low q h = ap (λ (x : ℕ). bit_at x (q % word_bits)) (before (q / word_bits) (omega arith)) ∙ bit-zero (q % word_bits)

  pub padded-high : (q : ℕ) → bit_of ws (word_bits * m + q) ≡ bit_of vs q
  unfolding bit_of
  padded-high q =
      let d : (word_bits * m + q) / word_bits ≡ m + q / word_bits = omega arith in
      let r : (word_bits * m + q) % word_bits ≡ q % word_bits = omega arith in
      ap₂ (λ (a b : ℕ). bit_at (get_or ws a 0) b) d r ∙ ap (λ (x : ℕ). bit_at x (q % word_bits)) (words (q / word_bits))

  -- s places below a bit of it stands what moves up by s
  pub padded-up : (s q : ℕ) → s ≤ word_bits * m → bit_of ws (word_bits * m + q - s) ≡ moved_up s (bit_of vs) q
  padded-up s q h =
      ⊎_elim (λ l. padded-low (word_bits * m + q - s) (omega arith) ∙ sym (moved_low s (bit_of vs) q l))
      (λ l. let e : word_bits * m + q - s ≡ word_bits * m + (q - s) = omega arith in ap (bit_of ws) e ∙ padded-high (q - s) ∙ sym (moved_high s (bit_of vs) q l))
      (below_or_not q s)

  -- t places above a bit of it stands what moves down by t
  pub padded-down : (t q : ℕ) → bit_of ws (word_bits * m + q + t) ≡ bit_of vs (q + t)
  padded-down t q = let e : word_bits * m + q + t ≡ word_bits * m + (q + t) = omega arith in ap (bit_of ws) e ∙ padded-high (q + t)

-- the bits of a plane from bit p on, made of two words
pub window_whole : (ws : List ℕ) (p k : ℕ) → get_or ws (p / word_bits) 0 < 2 ^ word_bits → k < word_bits
    → bit_at (joined_down word_bits (p % word_bits) (get_or ws (p / word_bits) 0) (get_or ws (p / word_bits + 1) 0)) k ≡ bit_of ws (p + k)
window_whole ws p k f h = ⊎_elim under over (below_or_not k (word_bits - p % word_bits))
  where
    lo : ℕ
    lo = get_or ws (p / word_bits) 0

    hi : ℕ
    hi = get_or ws (p / word_bits + 1) 0

    under : k < word_bits - p % word_bits → bit_at (joined_down word_bits (p % word_bits) lo hi) k ≡ bit_of ws (p + k)
    under r =
        joined-down lo hi word_bits (p % word_bits) k (omega arith) r
        ∙ at_word ws (p / word_bits) (p % word_bits + k) (p + k) (omega arith) (omega arith)

    over : word_bits - p % word_bits ≤ k → bit_at (joined_down word_bits (p % word_bits) lo hi) k ≡ bit_of ws (p + k)
    over r =
        joined-down_high lo hi word_bits (p % word_bits) k f (omega arith) h r
        ∙ at_word ws (p / word_bits + 1) (k - (word_bits - p % word_bits)) (p + k) (omega arith) (omega arith)

-- bits together with those moved up by s
abbrev pub with_moved : ℕ → (ℕ → Bool) → ℕ → Bool
with_moved s f q = f q || moved_up s f q

-- one word more, from above: the words below it are still as they were, and it needs no others
pub moved-next : (s : ℕ) (old ws : List ℕ) (i n v : ℕ) → 0 < i → i ≤ length ws → ((j : ℕ) → j < i → get_or ws j 0 ≡ get_or old j 0)
    → WordOf (moved_up s (bit_of ws)) (i - 1) v → Between (with_moved s (bit_of old)) i n ws
    → Between (with_moved s (bit_of old)) (i - 1) n (set ws (i - 1) (bit_or (get_or ws (i - 1) 0) v))
moved-next s old ws i n v p h same moved above =
    between-set (with_moved s (bit_of old)) (i - 1) n ws (i - 1) (bit_or (get_or ws (i - 1) 0) v) (omega arith) here (λ q l m d. above q (omega arith) m)
  where
    still : (q : ℕ) → q < word_bits * i → bit_of ws q ≡ bit_of old q
    still q l = unfold bit_of in ap (λ (x : ℕ). bit_at x (q % word_bits)) (same (q / word_bits) (omega arith))

    here : WordOf (with_moved s (bit_of old)) (i - 1) (bit_or (get_or ws (i - 1) 0) v)
    here k l =
        bit-or (get_or ws (i - 1) 0) v k
        ∙ ap₂ ◌||◌ (sym (bit_of_word ws (i - 1) k l) ∙ still (word_bits * (i - 1) + k) (omega arith))
        (moved k l ∙ ap (λ (t : Bool). not (ltb (word_bits * (i - 1) + k) s) && t) (still (word_bits * (i - 1) + k - s) (omega arith)))

-- a list of zeros has 0 everywhere
pub zeros-at : (n k : ℕ) → get_or (replicate {A = ℕ} n 0) k 0 ≡ 0
zeros-at zero k = refl
zeros-at (suc n) zero = refl
zeros-at (suc n) (suc k) = zeros-at n k
