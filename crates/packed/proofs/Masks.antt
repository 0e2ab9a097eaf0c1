-- Masks of places in blocks, made by doubling a pattern, and the rotation inside blocks by such a mask. Two masks give the same (`two-masks`).
use Prim.Native.Nat.{ℕ, ◌+◌, ◌-◌, ◌*◌, ◌/◌, ◌%◌, ◌^◌, ◌<◌, ◌≤◌, min}
use mathlib.Core.Path.{◌≡◌, refl, sym, ap, ap₂, ◌∙◌}
use mathlib.Core.Logic.{⊎_elim}
use mathlib.Core.Bool.{Bool, true, false, ◌&&◌, ◌||◌, cond, not, and-false, and-true, or-false, or_self, and_assoc, xor}
use mathlib.Core.List.{List}
use native.Mathlib.Nat.{mod-eq_of_lt, mod-lt, mod-eq-sub-mod, mul-add-mod_self_left, div-add-mod, div-add-mod', div-lt_iff_lt-mul, mul-le-mul_left, add-mul-mod_self_left, dvd_of_mod-eq-zero, mod-eq-zero_of_dvd, dvd-add, dvd-sub}
use native.Mathlib.Omega.{arith}
use lib.Dec.{ltb}
use lib.ListN.{length, get_or, set}
use lib.Seq.{get_or-set_same}
use lib.Pow.{pow-lt}
use lib.Bits.{bit_xor}
use borrow.Author.Tests.{lt-ltb, le-ltb}
use Rattle.packed.specs.Packed.{word_bits, bit_at, bit_of, Clear, rotated, keep_at, high_at, Mask}
use Rattle.packed.proofs.Packing.{bit-zero, bit_of_past, bit_of_word, WordOf, Between}
use Rattle.packed.proofs.Shifts.{below_or_not, bit_xor_lem, bit_ones, at_word, single, moved_up, moved_low, moved_high, with_moved, padded-up, padded-down}

-- the bits below n
abbrev pub below_bits : ℕ → ℕ → Bool
below_bits n q = ltb q n

-- the bits from low on that are below high
abbrev pub run_bits : ℕ → ℕ → ℕ → Bool
run_bits low high q = not (ltb q low) && ltb q high

-- word i of the bits below n: a word below the last is full
pub ones_full : (n i : ℕ) → i < n / word_bits → WordOf (below_bits n) i (2 ^ word_bits - 1)
ones_full n i h k l = bit_ones word_bits k ∙ lt-ltb k word_bits l ∙ sym (lt-ltb (word_bits * i + k) n (omega arith))

-- word i of the bits below n: a word above the last is 0
pub ones_none : (n i : ℕ) → n / word_bits < i → WordOf (below_bits n) i 0
ones_none n i h k l = bit-zero k ∙ sym (le-ltb (word_bits * i + k) n (omega arith))

-- a power of two below a word's bits, as a shift gives it
pub one_shifted : (b : ℕ) → b < word_bits → 1 * 2 ^ b % 2 ^ word_bits ≡ 2 ^ b
one_shifted b h = let l = pow-lt h in let e : 1 * 2 ^ b ≡ 2 ^ b = omega arith in ap (λ (x : ℕ). x % 2 ^ word_bits) e ∙ mod-eq_of_lt l

-- word i of the bits below n: the last word
pub ones_last : (n i x : ℕ) → x ≡ 2 ^ (n % word_bits) → i ≡ n / word_bits → WordOf (below_bits n) i (x - 1)
ones_last n i x e h k l =
    ap (λ (v : ℕ). bit_at (v - 1) k) e ∙ bit_ones (n % word_bits) k
    ∙ ⊎_elim (λ r. lt-ltb k (n % word_bits) r ∙ sym (lt-ltb (word_bits * i + k) n (omega arith)))
    (λ r. le-ltb k (n % word_bits) r ∙ sym (le-ltb (word_bits * i + k) n (omega arith)))
    (below_or_not k (n % word_bits))

xor_runs : (low high q : ℕ) → low ≤ high → xor (ltb q high) (ltb q low) ≡ run_bits low high q
unfolding xor
xor_runs low high q h =
    ⊎_elim (λ l. rw (lt-ltb q low l, lt-ltb q high (omega arith)) refl)
    (λ l. ⊎_elim (λ m. rw (le-ltb q low l, lt-ltb q high m) refl) (λ m. rw (le-ltb q low l, le-ltb q high m) refl) (below_or_not q high))
    (below_or_not q low)

-- a word of the run from low to high is that below high without that below low
pub run_word : (low high i x y : ℕ) → low ≤ high → WordOf (below_bits high) i x → WordOf (below_bits low) i y → WordOf (run_bits low high) i (bit_xor x y)
run_word low high i x y h hx hy k l = bit_xor_lem x y k ∙ ap₂ xor (hx k l) (hy k l) ∙ xor_runs low high (word_bits * i + k) h

-- the pattern f of a block of b places, block after block as far as c
abbrev pub pattern_bits : (ℕ → Bool) → ℕ → ℕ → ℕ → Bool
pattern_bits f b c q = ltb q c && f (q % b)

-- before c there is the pattern
pub pattern_in : (f : ℕ → Bool) (b c q : ℕ) → q < c → pattern_bits f b c q ≡ f (q % b)
pattern_in f b c q h = ap (λ (t : Bool). t && f (q % b)) (lt-ltb q c h)

-- from c on there is nothing
pub pattern_out : (f : ℕ → Bool) (b c q : ℕ) → c ≤ q → pattern_bits f b c q ≡ false
pattern_out f b c q h = ap (λ (t : Bool). t && f (q % b)) (le-ltb q c h)

-- the place in a block, whole blocks before
pub place_back : (b s q : ℕ) → s % b ≡ 0 → s ≤ q → (q - s) % b ≡ q % b
place_back b s q d h =
    let w = div-add-mod s b in
    let e : q - s + b * (s / b) ≡ q = omega arith in
    sym (add-mul-mod_self_left (q - s) b (s / b)) ∙ ap (λ (x : ℕ). x % b) e

-- a run in the first block is the pattern of one block
pub pattern_start : (low high b q : ℕ) → high ≤ b → run_bits low high q ≡ pattern_bits (run_bits low high) b b q
pattern_start low high b q h =
    ⊎_elim (λ l. ap (run_bits low high) (sym (mod-eq_of_lt l)) ∙ sym (pattern_in (run_bits low high) b b q l))
    (λ l. ap (λ (t : Bool). not (ltb q low) && t) (le-ltb q high (omega arith)) ∙ and-false (not (ltb q low)) ∙ sym (pattern_out (run_bits low high) b b q l))
    (below_or_not q b)

-- a pattern with itself moved up by s places, which are whole blocks, goes s places further
pub pattern_more : (f : ℕ → Bool) (b c s q : ℕ) → s % b ≡ 0 → s ≤ c → (pattern_bits f b c q || moved_up s (pattern_bits f b c) q) ≡ pattern_bits f b (c + s) q
pattern_more f b c s q d h = ⊎_elim inside outside (below_or_not q c)
  where
    back : s ≤ q → q < c + s → moved_up s (pattern_bits f b c) q ≡ f (q % b)
    back l m = moved_high s (pattern_bits f b c) q l ∙ pattern_in f b c (q - s) (omega arith) ∙ ap f (place_back b s q d l)

    inside : q < c → (pattern_bits f b c q || moved_up s (pattern_bits f b c) q) ≡ pattern_bits f b (c + s) q
    inside l =
        ⊎_elim
        (λ m. ap₂ ◌||◌ (pattern_in f b c q l) (moved_low s (pattern_bits f b c) q m) ∙ or-false (f (q % b)) ∙ sym (pattern_in f b (c + s) q (omega arith)))
        (λ m. ap₂ ◌||◌ (pattern_in f b c q l) (back m (omega arith)) ∙ or_self (f (q % b)) ∙ sym (pattern_in f b (c + s) q (omega arith)))
        (below_or_not q s)

    outside : c ≤ q → (pattern_bits f b c q || moved_up s (pattern_bits f b c) q) ≡ pattern_bits f b (c + s) q
    outside l =
        ⊎_elim
        (λ m. ap₂ ◌||◌ (pattern_out f b c q l) (back (omega arith) m) ∙ sym (pattern_in f b (c + s) q m))
        (λ m. ap₂ ◌||◌ (pattern_out f b c q l) (moved_high s (pattern_bits f b c) q (omega arith) ∙ pattern_out f b c (q - s) (omega arith)) ∙ sym (pattern_out f b (c + s) q m))
        (below_or_not q (c + s))

-- whole blocks and whole blocks are whole blocks
pub blocks_add : (b m n : ℕ) → m % b ≡ 0 → n % b ≡ 0 → (m + n) % b ≡ 0
blocks_add b m n h k = mod-eq-zero_of_dvd b (dvd-add b (dvd_of_mod-eq-zero b h) (dvd_of_mod-eq-zero b k))

-- whole blocks less whole blocks are whole blocks
pub blocks_less : (b m n : ℕ) → m % b ≡ 0 → n % b ≡ 0 → (m - n) % b ≡ 0
blocks_less b m n h k = mod-eq-zero_of_dvd b (dvd-sub b (dvd_of_mod-eq-zero b h) (dvd_of_mod-eq-zero b k))

-- the fewer of two numbers of whole blocks are whole blocks
pub blocks_least : (b m n : ℕ) → m % b ≡ 0 → n % b ≡ 0 → min m n % b ≡ 0
blocks_least b m n h k =
    ⊎_elim (λ l. let e : min m n ≡ m = omega arith in ap (λ (x : ℕ). x % b) e ∙ h) (λ l. let e : min m n ≡ n = omega arith in ap (λ (x : ℕ). x % b) e ∙ k)
    (below_or_not m n)

-- the block of a site ends within the sites, where these are whole blocks
pub block_end : (b n q : ℕ) → 0 < b → n % b ≡ 0 → q < n → b * (q / b) + b ≤ n
block_end b n q h d l =
    let w = div-add-mod' n b in
    let m : q < n / b * b = omega arith in
    let k = mul-le-mul_left b ((div-lt_iff_lt-mul h).1 m) in
    let v = div-add-mod n b in
    omega arith

run_keep : (s b n q : ℕ) → 0 < b → (ltb q n && not (ltb (q % b) s) && ltb (q % b) b) ≡ keep_at s b n q
unfolding keep_at
run_keep s b n q h = ap (λ (t : Bool). ltb q n && not (ltb (q % b) s) && t) (lt-ltb (q % b) b (mod-lt q h)) ∙ and-true (ltb q n && not (ltb (q % b) s))

-- the mask of the places of a block from s on
pub keep_masked : (s b n : ℕ) (ws : List ℕ) → 0 < b → ((q : ℕ) → bit_of ws q ≡ (ltb q n && not (ltb (q % b) s) && ltb (q % b) b)) → Mask (keep_at s b n) ws
keep_masked s b n ws h has q = has q ∙ run_keep s b n q h

-- a rotation that stays in its block moves up
pub rotated_on : (s b q : ℕ) → q % b + s < b → rotated s b q ≡ q + s
unfolding rotated
rotated_on s b q h = let m = mod-eq_of_lt h in let w = div-add-mod q b in omega arith

-- a rotation that goes round moves down
pub rotated_round : (s b q : ℕ) → 0 < b → s ≤ b → b ≤ q % b + s → rotated s b q + (b - s) ≡ q
unfolding rotated
rotated_round s b q p l h =
    let r = mod-lt q p in
    let m : (q % b + s) % b ≡ q % b + s - b = mod-eq-sub-mod h ∙ mod-eq_of_lt (omega arith) in
    let w = div-add-mod q b in
    omega arith

-- the place that a rotation sends a site to
pub rotated-place : (s b q : ℕ) → 0 < b → rotated s b q % b ≡ (q % b + s) % b
unfolding rotated
rotated-place s b q p = mul-add-mod_self_left b (q / b) ((q % b + s) % b) ∙ mod-eq_of_lt (mod-lt (q % b + s) p)

-- a rotation stays within the sites
pub rotated-below : (s b n q : ℕ) → 0 < b → n % b ≡ 0 → q < n → rotated s b q < n
unfolding rotated
rotated-below s b n q p d l = let e = block_end b n q p d l in let m = mod-lt (q % b + s) p in omega arith

-- what a rotation by a mask brings to place p: x from s below it where the mask has it, and from t above it elsewhere
abbrev pub turned : ℕ → ℕ → (ℕ → Bool) → (ℕ → Bool) → ℕ → Bool
turned s t x keep p = cond (keep p) (moved_up s x p) (x (p + t))

-- what a rotation by two masks brings there: x from s below it where the first has it, with x from t above it where the second has that
abbrev pub turned_both : ℕ → ℕ → (ℕ → Bool) → (ℕ → Bool) → (ℕ → Bool) → ℕ → Bool
turned_both s t x keep high p = (keep p && moved_up s x p) || (x (p + t) && high (p + t))

module _ (s b n : ℕ) (x keep : ℕ → Bool) (is_keep : (p : ℕ) → keep p ≡ keep_at s b n p) where
  -- past the sites nothing arrives
  pub turned-past : (p : ℕ) → ((q : ℕ) → n ≤ q → x q ≡ false) → n ≤ p → turned s (b - s) x keep p ≡ false
  unfolding keep_at
  turned-past p clear h =
      ap (λ (t : Bool). cond t (moved_up s x p) (x (p + (b - s)))) (is_keep p ∙ ap (λ (t : Bool). t && not (ltb (p % b) s)) (le-ltb p n h))
      ∙ clear (p + (b - s)) (omega arith)

  -- at the place that the rotation sends site q to, the bit of site q arrives
  pub turned-at : (q : ℕ) → 0 < b → s ≤ b → n % b ≡ 0 → q < n → turned s (b - s) x keep (rotated s b q) ≡ x q
  unfolding keep_at
  turned-at q h l d m = ⊎_elim on round (below_or_not (q % b + s) b)
    where
      on : q % b + s < b → turned s (b - s) x keep (rotated s b q) ≡ x q
      on k =
          let p = rotated s b q in
          let e = rotated_on s b q k in
          let inside = rotated-below s b n q h d m in
          let place : p % b ≡ q % b + s = rotated-place s b q h ∙ mod-eq_of_lt k in
          let g : p - s ≡ q = omega arith in
          ap (λ (t : Bool). cond t (moved_up s x p) (x (p + (b - s))))
          (is_keep p ∙ ap₂ (λ (u v : Bool). u && not v) (lt-ltb p n inside) (le-ltb (p % b) s (omega arith)))
          ∙ moved_high s x p (omega arith) ∙ ap x g

      round : b ≤ q % b + s → turned s (b - s) x keep (rotated s b q) ≡ x q
      round k =
          let p = rotated s b q in
          let e = rotated_round s b q h l k in
          let r = mod-lt q h in
          let place : p % b ≡ q % b + s - b = rotated-place s b q h ∙ mod-eq-sub-mod k ∙ mod-eq_of_lt (omega arith) in
          ap (λ (t : Bool). cond t (moved_up s x p) (x (p + (b - s))))
          (is_keep p ∙ ap (λ (v : Bool). ltb p n && not v) (lt-ltb (p % b) s (omega arith)) ∙ and-false (ltb p n))
          ∙ ap x e

  -- a second mask, of the last s places of each block, makes no difference: at every place, a site or past the sites, the two bring what the one brings
  pub two-masks : (high : ℕ → Bool) → ((q : ℕ) → high q ≡ high_at s b n q) → ((q : ℕ) → n ≤ q → x q ≡ false) → 0 < b → s ≤ b → n % b ≡ 0
      → (p : ℕ) → turned_both s (b - s) x keep high p ≡ turned s (b - s) x keep p
  unfolding keep_at high_at
  two-masks high is_high clear h l d p = ⊎_elim (λ m. ⊎_elim (round m) (stay m) (below_or_not (p % b) s)) past (below_or_not p n)
    where
      -- where the first mask has no bit the second has all that there is
      by_high : keep p ≡ false → (x (p + (b - s)) && high (p + (b - s))) ≡ x (p + (b - s))
          → turned_both s (b - s) x keep high p ≡ turned s (b - s) x keep p
      by_high e f =
          ap (λ (k : Bool). (k && moved_up s x p) || (x (p + (b - s)) && high (p + (b - s)))) e ∙ f
          ∙ sym (ap (λ (k : Bool). cond k (moved_up s x p) (x (p + (b - s)))) e)

      past : n ≤ p → turned_both s (b - s) x keep high p ≡ turned s (b - s) x keep p
      past m =
          let nothing = clear (p + (b - s)) (omega arith) in
          by_high (is_keep p ∙ ap (λ (u : Bool). u && not (ltb (p % b) s)) (le-ltb p n m))
          (ap (λ (v : Bool). v && high (p + (b - s))) nothing ∙ sym nothing)

      round : p < n → p % b < s → turned_both s (b - s) x keep high p ≡ turned s (b - s) x keep p
      round m k =
          let w = div-add-mod p b in
          let e : p + (b - s) ≡ b * (p / b) + (p % b + (b - s)) = omega arith in
          let place : (p + (b - s)) % b ≡ p % b + (b - s) =
          ap (λ (r : ℕ). r % b) e ∙ mul-add-mod_self_left b (p / b) (p % b + (b - s)) ∙ mod-eq_of_lt (omega arith) in
          let inside : p + (b - s) < n = omega (arith, block_end b n p h d m) in
          by_high (is_keep p ∙ ap (λ (v : Bool). ltb p n && not v) (lt-ltb (p % b) s k) ∙ and-false (ltb p n))
          (ap (λ (v : Bool). x (p + (b - s)) && v)
          (is_high (p + (b - s)) ∙ ap₂ (λ (u v : Bool). u && not v) (lt-ltb (p + (b - s)) n inside) (le-ltb ((p + (b - s)) % b + s) b (omega arith)))
          ∙ and-true (x (p + (b - s))))

      stay : p < n → s ≤ p % b → turned_both s (b - s) x keep high p ≡ turned s (b - s) x keep p
      stay m k =
          let w = div-add-mod p b in
          let r = mod-lt p h in
          let e : p + (b - s) ≡ b * (p / b + 1) + (p % b - s) = omega arith in
          let place : (p + (b - s)) % b ≡ p % b - s =
          ap (λ (r : ℕ). r % b) e ∙ mul-add-mod_self_left b (p / b + 1) (p % b - s) ∙ mod-eq_of_lt (omega arith) in
          let kept : keep p ≡ true = is_keep p ∙ ap₂ (λ (u v : Bool). u && not v) (lt-ltb p n m) (le-ltb (p % b) s k) in
          let low : high (p + (b - s)) ≡ false =
          is_high (p + (b - s))
          ∙ ap (λ (v : Bool). ltb (p + (b - s)) n && not v) (lt-ltb ((p + (b - s)) % b + s) b (omega arith)) ∙ and-false (ltb (p + (b - s)) n) in
          ap₂ (λ (u v : Bool). (u && moved_up s x p) || (x (p + (b - s)) && v)) kept low
          ∙ ap (λ (v : Bool). moved_up s x p || v) (and-false (x (p + (b - s)))) ∙ or-false (moved_up s x p)
          ∙ sym (ap (λ (u : Bool). cond u (moved_up s x p) (x (p + (b - s)))) kept)

-- a plane whose words have the bits of a run has no others
pub run_bits_lem : (low high : ℕ) (ws : List ℕ) (i : ℕ) → high ≤ word_bits * length ws → length ws ≤ i → Between (run_bits low high) 0 i ws → (q : ℕ) → bit_of ws q ≡ run_bits low high q
run_bits_lem low high ws i h l has q =
    ⊎_elim (λ m. has q (omega arith) (omega arith))
    (λ m. bit_of_past ws q m ∙ sym (ap (λ (t : Bool). not (ltb q low) && t) (le-ltb q high (omega arith)) ∙ and-false (not (ltb q low))))
    (below_or_not q (word_bits * length ws))

-- a mask that holds a pattern as far as c, with its bits moved up by whole blocks, holds the pattern further
pub pattern_next : (f : ℕ → Bool) (b c s : ℕ) (ws vs : List ℕ) → s % b ≡ 0 → s ≤ c → c + s ≤ word_bits * length ws → length vs ≡ length ws
    → ((q : ℕ) → bit_of ws q ≡ pattern_bits f b c q) → ((q : ℕ) → q < word_bits * length ws → bit_of vs q ≡ with_moved s (bit_of ws) q)
    → (q : ℕ) → bit_of vs q ≡ pattern_bits f b (c + s) q
pattern_next f b c s ws vs d h l e has new q =
    ⊎_elim
    (λ m. new q m ∙ ap₂ ◌||◌ (has q) (ap (λ (t : Bool). not (ltb q s) && t) (has (q - s))) ∙ pattern_more f b c s q d h)
    (λ m. bit_of_past vs q (omega arith) ∙ sym (pattern_out f b (c + s) q (omega arith)))
    (below_or_not q (word_bits * length ws))

-- a mask that holds the pattern of a run over all sites
pub pattern_done : (low high b c n q : ℕ) → c ≡ n → pattern_bits (run_bits low high) b c q ≡ (ltb q n && not (ltb (q % b) low) && ltb (q % b) high)
pattern_done low high b c n q e =
    ap (λ (m : ℕ). pattern_bits (run_bits low high) b m q) e ∙ sym (and_assoc (ltb q n) (not (ltb (q % b) low)) (ltb (q % b) high))

-- without sites there is nothing to mask
pub pattern_none : (f g : ℕ → Bool) (n q : ℕ) → n ≡ 0 → run_bits 0 0 q ≡ (ltb q n && f q && g q)
pattern_none f g n q e =
    ap (λ (t : Bool). not (ltb q 0) && t) (le-ltb q 0 (omega arith)) ∙ and-false (not (ltb q 0))
    ∙ sym (ap (λ (t : Bool). t && f q && g q) (le-ltb q n (omega arith)))

-- whole blocks, and not none: at least one
pub block_fits : (b n : ℕ) → n % b ≡ 0 → 0 < n → b ≤ n
block_fits b n d h = ⊎_elim (λ l. let e = mod-eq_of_lt l in absurd (omega arith)) (λ l. l) (below_or_not n b)

-- the rotation of a plane of one word
pub turned_one : (s t : ℕ) (plane keep : List ℕ) (v : ℕ) → length plane ≡ 1 → get_or plane 0 0 < 2 ^ word_bits
    → ((k : ℕ) → k < word_bits → bit_at v k ≡ turned s t (bit_at (get_or plane 0 0)) (bit_at (get_or keep 0 0)) k)
    → (q : ℕ) → q < word_bits * length plane → bit_of (set plane 0 v) q ≡ turned s t (bit_of plane) (bit_of keep) q
turned_one s t plane keep v e f new q h =
    let l : q < word_bits = omega arith in
    let x = bit_at (get_or plane 0 0) in
    sym (at_word (set plane 0 v) 0 q q l (omega arith))
    ∙ ap (λ (y : ℕ). bit_at y q) (get_or-set_same plane 0 v 0 (omega arith))
    ∙ new q l
    ∙ ap₂ (λ (a b : Bool). cond a (not (ltb q s) && b) (x (q + t))) (at_word keep 0 q q l (omega arith)) (sym (single plane (q - s) e f))
    ∙ ap (λ (c : Bool). cond (bit_of keep q) (moved_up s (bit_of plane) q) c) (sym (single plane (q + t) e f))

-- the bits of the word that `pick` makes of a word moved up and down
pub turned_picked : (s t x m u d v k : ℕ) → bit_at v k ≡ cond (bit_at m k) (bit_at u k) (bit_at d k) → bit_at u k ≡ moved_up s (bit_at x) k → bit_at d k ≡ bit_at x (k + t)
    → bit_at v k ≡ turned s t (bit_at x) (bit_at m) k
turned_picked s t x m u d v k hv hu hd = hv ∙ ap₂ (λ (a b : Bool). cond (bit_at m k) a b) hu hd

-- a word of a padded plane that is turned
pub turned_word : (s t i m : ℕ) (pad keep : List ℕ) (u d v : ℕ) → s ≤ word_bits * m
    → ((k : ℕ) → bit_at v k ≡ cond (bit_at (get_or keep i 0) k) (bit_at u k) (bit_at d k))
    → ((k : ℕ) → k < word_bits → bit_at u k ≡ bit_of pad (word_bits * (m + i) - s + k)) → ((k : ℕ) → k < word_bits → bit_at d k ≡ bit_of pad (word_bits * (m + i) + t + k))
    → WordOf (λ q. cond (bit_of keep q) (bit_of pad (word_bits * m + q - s)) (bit_of pad (word_bits * m + q + t))) i v
turned_word s t i m pad keep u d v h hv hu hd k l =
    let e : word_bits * (m + i) - s + k ≡ word_bits * m + (word_bits * i + k) - s = omega arith in
    let f : word_bits * (m + i) + t + k ≡ word_bits * m + (word_bits * i + k) + t = omega arith in
    hv k ∙ ap (λ (a : Bool). cond a (bit_at u k) (bit_at d k)) (sym (bit_of_word keep i k l))
    ∙ ap₂ (λ (a b : Bool). cond (bit_of keep (word_bits * i + k)) a b) (hu k l ∙ ap (bit_of pad) e) (hd k l ∙ ap (bit_of pad) f)

-- a padded plane that is turned is the plane that is turned
pub turned_padded : (s t m : ℕ) (plane pad keep vs : List ℕ) (n : ℕ) → s ≤ word_bits * m
    → ((k : ℕ) → k < m → get_or pad k 0 ≡ 0) → ((k : ℕ) → get_or pad (m + k) 0 ≡ get_or plane k 0)
    → ((q : ℕ) → q < n → bit_of vs q ≡ cond (bit_of keep q) (bit_of pad (word_bits * m + q - s)) (bit_of pad (word_bits * m + q + t)))
    → (q : ℕ) → q < n → bit_of vs q ≡ turned s t (bit_of plane) (bit_of keep) q
turned_padded s t m plane pad keep vs n h before words new q l =
    new q l ∙ ap₂ (λ (a b : Bool). cond (bit_of keep q) a b) (padded-up m plane pad before words s q h) (padded-down m plane pad before words t q)

-- the rotation of a plane by a mask
pub turned_plane : (s b n : ℕ) (plane keep vs : List ℕ) → 0 < b → s ≤ b → n % b ≡ 0 → n ≤ word_bits * length plane → length vs ≡ length plane
    → Clear n plane → Mask (keep_at s b n) keep
    → ((q : ℕ) → q < word_bits * length plane → bit_of vs q ≡ turned s (b - s) (bit_of plane) (bit_of keep) q)
    → ((q : ℕ) → q < n → bit_of vs (rotated s b q) ≡ bit_of plane q) × Clear n vs
turned_plane s b n plane keep vs h l d m e clear is_keep new = (moved, still)
  where
    moved : (q : ℕ) → q < n → bit_of vs (rotated s b q) ≡ bit_of plane q
    moved q k = let r = rotated-below s b n q h d k in new (rotated s b q) (omega arith) ∙ turned-at s b n (bit_of plane) (bit_of keep) is_keep q h l d k

    still : (q : ℕ) → n ≤ q → bit_of vs q ≡ false
    still q k =
        ⊎_elim (λ r. new q r ∙ turned-past s b n (bit_of plane) (bit_of keep) is_keep q clear k) (λ r. bit_of_past vs q (omega arith))
        (below_or_not q (word_bits * length plane))

-- without sites there is nothing to rotate
pub turned_none : (s b n : ℕ) (plane : List ℕ) → n ≡ 0 → Clear n plane → ((q : ℕ) → q < n → bit_of plane (rotated s b q) ≡ bit_of plane q) × Clear n plane
turned_none s b n plane e clear = (λ q h. absurd (omega arith), clear)
