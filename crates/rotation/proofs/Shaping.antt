-- Which permutations rotate: block after block looked at, the blocks before having been seen to rotate.
use Prim.Native.Nat.{ℕ, ◌+◌, ◌-◌, ◌*◌, ◌/◌, ◌%◌, ◌≤◌, ◌<◌}
use mathlib.Core.Path.{◌≡◌, refl, sym, ap, ◌∙◌}
use mathlib.Core.Logic.{◌⊎◌, inl, inr}
use mathlib.Core.Bool.{Bool, true, false}
use mathlib.Core.List.{List}
use native.Mathlib.Nat.{mod-add-div, mod-eq_of_lt, mul_comm, mul-le-mul_right, lt_of_mul-lt-mul_right, add-mod_right}
use native.Mathlib.Omega.{arith}
use lib.Arith.{digits_div, digits_mod}
use lib.Dec.{ltb}
use lib.ListN.{length, get_or, set, take, drop, length-drop}
use lib.Seq.{get_or-set_same, get_or-set_other, length-take-le}
use borrow.Author.Count.{below_more}
use borrow.Author.Tests.{ltb-true, ltb-false}
use Rattle.pauli_word.specs.Limits.{max_sites}
use Rattle.action.proofs.Below.{map-below-of}
use Rattle.permutation.specs.Limits.{max_generators, target_places}
use Rattle.permutation.specs.Generators.{row_at}
use Rattle.elements.proofs.Steps.{row-part}
use Rattle.packed.specs.Packed.{rotated}
use Rattle.rotation.specs.Rotation.{rotation, Rotates}

-- a number is below another or not
pub below-or-from : (a b : ℕ) → (a < b) ⊎ (b ≤ a)
below-or-from a b = go (ltb a b) refl
  where
    go : (t : Bool) → ltb a b ≡ t → (a < b) ⊎ (b ≤ a)
    go true e = inl (ltb-true a b e)
    go false e = inr (ltb-false a b e)

-- a place below a block, taken round, stays
pub round_below : (p b : ℕ) → p < b → p ≡ p % b
round_below p b h = sym (mod-eq_of_lt h)

-- from a block on it is taken back by one
pub round_above : (p b : ℕ) → b ≤ p → p < b + b → p - b ≡ p % b
round_above p b h k =
    let e : p - b + b ≡ p = omega arith in
    sym (ap (λ (t : ℕ). t % b) (sym e) ∙ add-mod_right (p - b) b ∙ mod-eq_of_lt (omega arith))

-- where a place of block k goes
pub rotated-at : (s b k p : ℕ) → p < b → rotated s b (k * b + p) ≡ k * b + (p + s) % b
unfolding rotated
rotated-at s b k p h = rw (digits_div k h, digits_mod k h, mul_comm b k)

-- the sites before base rotate, and base is the first of its block
pub record Seen (perm : List ℕ) (s b base : ℕ) : Type 0 where
  pub blocks : (k : ℕ) × (base ≡ k * b)
  pub inside : base ≤ length perm
  pub same : (q : ℕ) → q < base → get_or perm q 0 ≡ rotated s b q

-- before the first block nothing is to be seen
pub seen_start : (perm : List ℕ) (s b : ℕ) → Seen perm s b 0
seen_start perm s b = record { blocks = (0, omega arith); inside = omega arith; same = λ q h. absurd (omega arith) }

-- where a block begins below a multiple of its length, it ends there
multiple-inside : (n b k : ℕ) → 0 < b → n % b ≡ 0 → k * b < n → k * b + b ≤ n
multiple-inside n b k pos e l =
    let whole : n / b * b ≡ n = omega (arith, mod-add-div n b, mul_comm b (n / b)) in
    let less : k < n / b = lt_of_mul-lt-mul_right b (rw whole l) in
    let up : (k + 1) * b ≤ n / b * b = mul-le-mul_right b (omega arith) in
    omega (arith, up, whole)

-- the block from base on ends within the sites
pub block_inside : {perm : List ℕ} {s b base : ℕ} → s < b → length perm % b ≡ 0 → base < length perm → Seen perm s b base → base + b ≤ length perm
block_inside {perm} {s} {b} {base} pos whole more seen =
    let (k, e) = seen.blocks in
    omega (arith, multiple-inside (length perm) b k (omega arith) whole (rw (← e) more), e)

-- one block more that rotates
pub seen_next : {perm : List ℕ} {s b base : ℕ} → s < b → length perm % b ≡ 0 → base < length perm → Seen perm s b base
    → ((p : ℕ) → p < b → get_or perm (base + p) 0 ≡ base + (p + s) % b) → Seen perm s b (base + b)
seen_next {perm} {s} {b} {base} pos whole more seen block =
    record { blocks = (k + 1, omega (arith, e)); inside = block_inside pos whole more seen; same = λ q h. go q h (below-or-from q base) }
  where
    k : ℕ
    k = seen.blocks.0

    e : base ≡ k * b
    e = seen.blocks.1

    go : (q : ℕ) → q < base + b → (q < base) ⊎ (base ≤ q) → get_or perm q 0 ≡ rotated s b q
    go q h (inl l) = seen.same q l
    go q h (inr l) =
        let split : base + (q - base) ≡ q = omega arith in
        ap (λ (t : ℕ). get_or perm t 0) (sym split)
        ∙ block (q - base) (omega arith)
        ∙ ap (λ (t : ℕ). t + (q - base + s) % b) e
        ∙ sym (rotated-at s b k (q - base) (omega arith))
        ∙ ap (rotated s b) (ap (λ (t : ℕ). t + (q - base)) (sym e) ∙ split)

-- after the last block the permutation rotates
pub seen_end : {perm : List ℕ} {s b base : ℕ} → Seen perm s b base → length perm ≤ base → perm ≡ rotation (length perm) s b
unfolding rotation
seen_end {perm} {s} {b} {base} seen over =
    map-below-of (rotated s b) (length perm) 0 perm refl (λ i h. seen.same i (omega arith))

-- ---- the shapes of all generators, one after the other

-- row g as a part of the targets, from its start to its end
module _ (n g : ℕ) (targets : List ℕ) (places : length targets ≡ target_places) (small : n ≤ max_sites) (few : g < max_generators) where
  -- it has a target for each site
  pub row-length : length (take (max_sites * g + n - max_sites * g) (drop (max_sites * g) targets)) ≡ n
  row-length = ap length (row-part n g targets) ∙ length-take-le n (drop (max_sites * g) targets) (omega (arith, length-drop (max_sites * g) targets))

  -- and where it rotates, the generator does
  pub row-rotates : {s b : ℕ}
      → Rotates (length (take (max_sites * g + n - max_sites * g) (drop (max_sites * g) targets))) s b (take (max_sites * g + n - max_sites * g) (drop (max_sites * g) targets))
      → Rotates n s b (row_at n targets g)
  row-rotates r = rw (row-length, row-part n g targets) at r

-- the generators before g have the shapes that stand in two lists
abbrev pub Shaped : ℕ → List ℕ → List ℕ → List ℕ → ℕ → Type 0
Shaped n targets strides rests g = (h : ℕ) → h < g → Rotates n (get_or strides h 0) (get_or strides h 0 + get_or rests h 0) (row_at n targets h)

-- one generator more
pub shaped_next : (n : ℕ) (targets strides rests : List ℕ) (g s r : ℕ) → g < length strides → g < length rests
    → Shaped n targets strides rests g → Rotates n s (s + r) (row_at n targets g) → Shaped n targets (set strides g s) (set rests g r) (g + 1)
shaped_next n targets strides rests g s r i j before own =
    below_more (λ h. Rotates n (get_or (set strides g s) h 0) (get_or (set strides g s) h 0 + get_or (set rests g r) h 0) (row_at n targets h)) g
    (λ h k. rw (get_or-set_other strides g h s 0 (omega arith), get_or-set_other rests g h r 0 (omega arith)) (before h k))
    (rw (get_or-set_same strides g s 0 i, get_or-set_same rests g r 0 j) own)
