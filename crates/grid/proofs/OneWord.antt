-- Rounds where a set of candidates is one machine word: those without a bit, a set of one, the turn by a mask, and the digit that is counted up.
use Prim.Native.Nat.{ℕ, suc, ◌+◌, ◌-◌, ◌*◌, ◌/◌, ◌%◌, ◌^◌, ◌≤◌, ◌<◌}
use mathlib.Core.Path.{◌≡◌, refl, sym, ap, ◌∙◌}
use mathlib.Core.Logic.{⊎_elim}
use mathlib.Core.Bool.{Bool, true, false, ◌&&◌, not, false≢true}
use mathlib.Core.List.{List}
use native.Mathlib.Nat.{mod-lt, div-add-mod, one-mul, add-zero, add-sub_cancel}
use native.Mathlib.Numerals.{add-one}
use native.Mathlib.Omega.{arith}
use lib.Dec.{eqb}
use lib.Bits.{bit_and, bit_xor, and_le_l, xor_lt}
use lib.Count.{count_trailing_zeros}
use lib.ListN.{length, get_or, take, drop, set, length-set}
use lib.Arith.{digits_div}
use lib.Pow.{pow_pos}
use lib.Seq.{get_or-take, get_or-drop, get_or-set_same}
use borrow.Author.Tests.{eq-eqb, ne_eqb}
use Rattle.packed.specs.Packed.{word_bits, bit_at, bit_of, Clear, rotated, keep_at}
use Rattle.packed.proofs.Packing.{bit-mod, bit_shr, bit-zero}
use Rattle.packed.proofs.Shifts.{below_or_not, bit-and, bit_past, single}
use Rattle.packed.proofs.Masks.{turned, turned-past, turned-at, rotated-below}
use Rattle.packed.proofs.Comparing.{trailing_low}
use Rattle.cyclic.proofs.BitOrder.{by_equal, by_order}
use Rattle.rotation.proofs.Moved.{lent, lent-part, lent_length}
use Rattle.action.specs.Index.{order_of, add}
use Rattle.action.specs.Permutation.{Generator}
use Rattle.elements.specs.HeldGroup.{generators_in, Tables}
use Rattle.grid.specs.Grid.{Steps}
use Rattle.grid.specs.Candidates.{Left}
use Rattle.grid.specs.Stages.{Refined}
use Rattle.grid.specs.declared.refine.Stage.{Stage}
use Rattle.grid.specs.declared.refine.Stage.TheVariants.{Alone, Through, Tired}
use Rattle.grid.proofs.Refining.{left_struck, left_none, left_by}
use Rattle.grid.proofs.Rounds.{Shows, Rounds}
use Rattle.grid.proofs.Sets.{without_bit, first_bit}
use Rattle.grid.proofs.Stepping.{stays-digit, rolls-digit, block-some, block-whole, block-keep}

-- ---- striking out

module _ (at left : ℕ) where
  -- some of those left have no bit here: these stay
  pub strike-some : left < 2 ^ word_bits → (bit_xor left (bit_and left at) ≡ 0 → ⊥) → Rounds (bit_at at) (bit_at left) (bit_at (bit_xor left (bit_and left at)))
  strike-some fits some o t F l m =
      let both : bit_and left at < 2 ^ word_bits = omega (arith, and_le_l left at) in
      let rest = bit_xor left (bit_and left at) in
      left_struck l m (without_bit left at) (count_trailing_zeros word_bits rest) (first_bit rest some (xor_lt word_bits left (bit_and left at) fits both)).1

  -- all of those left have a bit here: all stay
  pub strike-none : bit_xor left (bit_and left at) ≡ 0 → Rounds (bit_at at) (bit_at left) (bit_at left)
  strike-none none o t F l m = left_none l m (λ k. sym (without_bit left at k) ∙ ap (λ (x : ℕ). bit_at x k) none ∙ bit-zero k)

-- ---- a set of one

-- what is not a whole multiple goes as often into the number before it
div_pred : (x b : ℕ) → (x % b ≡ 0 → ⊥) → 0 < b → (x - 1) / b ≡ x / b
div_pred x b some pos =
    let l = mod-lt x pos in
    let e : x - 1 ≡ x / b * b + (x % b - 1) = omega (arith, div-add-mod x b) in
    ap (λ (y : ℕ). y / b) e ∙ digits_div (x / b) (omega arith)

both-same : (a : Bool) → (a && a) ≡ a
both-same true = refl
both-same false = refl

-- a word that has no bit in common with the number before it has one bit, the first
module _ (x : ℕ) (some : x ≡ 0 → ⊥) (fits : x < 2 ^ word_bits) (alone : bit_and x (x - 1) ≡ 0) where
  abbrev first : ℕ
  first = count_trailing_zeros word_bits x

  above_first : (i : ℕ) → bit_at x (suc first + i) ≡ false
  above_first i =
      let b = 2 ^ suc first in
      let odd : x % b ≡ 0 → ⊥ = λ e. false≢true (sym (bit-zero first) ∙ ap (λ (y : ℕ). bit_at y first) (sym e) ∙ bit-mod x (suc first) first (omega arith) ∙ (first_bit x some fits).1) in
      let same : bit_at (x - 1) (suc first + i) ≡ bit_at x (suc first + i) =
      sym (bit_shr (x - 1) (suc first) i) ∙ ap (λ (y : ℕ). bit_at y i) (div_pred x b odd (pow_pos (suc first))) ∙ bit_shr x (suc first) i in
      sym (both-same (bit_at x (suc first + i))) ∙ ap (λ (t : Bool). bit_at x (suc first + i) && t) (sym same) ∙ sym (bit-and x (x - 1) (suc first + i))
      ∙ ap (λ (y : ℕ). bit_at y (suc first + i)) alone ∙ bit-zero (suc first + i)

  pub alone-first : (j : ℕ) → bit_at x j ≡ eqb j (count_trailing_zeros word_bits x)
  alone-first j = by_equal j first
      (λ e. ap (bit_at x) e ∙ (first_bit x some fits).1 ∙ sym (eq-eqb j first e))
      (λ d. by_order first j
      (λ l. let e : suc first + (j - suc first) ≡ j = omega arith in ap (bit_at x) (sym e) ∙ above_first (j - suc first))
      (λ l. ap (λ (r : ℕ). eqb r 1) (trailing_low word_bits x j l))
      ∙ sym (ne_eqb j first d))

-- ---- the turn of a step

-- what a generator is lent of masks of one word each is its word
one_lent : (g q : ℕ) (ws : List ℕ) → length (lent 1 g ws) ≡ 1 → get_or ws g 0 < 2 ^ word_bits → bit_of (lent 1 g ws) q ≡ bit_at (get_or ws g 0) q
one_lent g q ws long fits =
    let e : get_or (lent 1 g ws) 0 0 ≡ get_or ws g 0 = rw (lent-part 1 g ws, get_or-take 1 (drop (1 * g) ws) 0 0 (omega arith), get_or-drop, one-mul, add-zero) in
    single (lent 1 g ws) q long (rw e fits) ∙ ap (λ (x : ℕ). bit_at x q) e

-- a word that is turned by the mask of generator g
module _ {k n order : ℕ} {targets orders strides rests masks : List ℕ} (t : Tables k n targets orders) (all : order ≡ order_of (generators_in k n targets orders))
    (s : Steps k order 1 orders strides rests masks) (g : ℕ) (h : g < k) (mask : get_or masks g 0 < 2 ^ word_bits) (x v : ℕ) (fits : v < 2 ^ word_bits)
    (clear : (q : ℕ) → order ≤ q → bit_at x q ≡ false)
    (new : (q : ℕ) → q < word_bits → bit_at v q ≡ turned (get_or rests g 0) (get_or strides g 0) (bit_at x) (bit_at (get_or masks g 0)) q) where
  keep : (q : ℕ) → bit_at (get_or masks g 0) q ≡ keep_at (get_or rests g 0) (get_or strides g 0 + get_or rests g 0) order q
  keep q = sym (one_lent g q masks (lent_length t.few s.kept g h) mask) ∙ block-keep t all s g h q

  turns : (q : ℕ) → q < word_bits
      → bit_at v q ≡ turned (get_or rests g 0) (get_or strides g 0 + get_or rests g 0 - get_or rests g 0) (bit_at x) (bit_at (get_or masks g 0)) q
  turns q l = rw (add-sub_cancel (get_or strides g 0) (get_or rests g 0)) (new q l)

  -- is rotated inside blocks
  pub turn_moved : (q : ℕ) → q < order → bit_at v (rotated (get_or rests g 0) (get_or strides g 0 + get_or rests g 0) q) ≡ bit_at x q
  turn_moved q l =
      let r = rotated-below (get_or rests g 0) (get_or strides g 0 + get_or rests g 0) order q (block-some t all s g h) (block-whole t all s g h) l in
      turns (rotated (get_or rests g 0) (get_or strides g 0 + get_or rests g 0) q) (omega (arith, s.room))
      ∙ turned-at (get_or rests g 0) (get_or strides g 0 + get_or rests g 0) order (bit_at x) (bit_at (get_or masks g 0)) keep q
      (block-some t all s g h) (omega arith) (block-whole t all s g h) l

  -- and has no bit past the candidates
  pub turn-clear : (q : ℕ) → order ≤ q → bit_at v q ≡ false
  turn-clear q l =
      ⊎_elim
      (λ m. turns q m ∙ turned-past (get_or rests g 0) (get_or strides g 0 + get_or rests g 0) order (bit_at x) (bit_at (get_or masks g 0)) keep q clear l)
      (bit_past v word_bits q fits)
      (below_or_not q word_bits)

-- ---- the digit that is counted up

-- the first digit is the one at generator 0
pub digit_first : (orders : List ℕ) (low h d g : ℕ) → low ≡ h % get_or orders 0 0 → d ≡ h → g ≡ 0 → low ≡ d % get_or orders g 0
digit_first orders low h d g e same first = rw (same, first) e

module _ (low o h : ℕ) (some : 0 < o) (digit : low ≡ h % o) where
  -- it rolls over
  pub count-rolls : low + 1 ≡ o → 0 ≡ (h + 1) % o
  count-rolls e = sym (rw add-one (rolls-digit o h (omega arith)))

  -- or not
  pub count-stays : (low + 1 ≡ o → ⊥) → low + 1 ≡ (h + 1) % o
  count-stays d = let e = stays-digit o h (omega (arith, mod-lt h some)) in rw (add-one h, e) (omega arith)

-- ---- a block

-- the same set, where refining stops
refined_by : (r : Stage) (o : ℕ) (F : ℕ → ℕ → Bool) (t : ℕ) (S T : ℕ → Bool) → ((k : ℕ) → T k ≡ S k) → Refined r o F t S → Refined r o F t T
refined_by (Alone k) o F t S T e (l, one) = (left_by l e, λ j. e j ∙ one j)
refined_by Through o F t S T e l = left_by l e
refined_by Tired o F t S T e (u, h, l) = (u, h, left_by l e)

module _ (at left : List ℕ) (at_one : length at ≡ 1) (left_one : length left ≡ 1) (at_fits : get_or at 0 0 < 2 ^ word_bits) (left_fits : get_or left 0 0 < 2 ^ word_bits) where
  -- a plane of one word that has no bit from n on is a word that has none
  pub clear-word : (n : ℕ) → Clear n at → (k : ℕ) → n ≤ k → bit_at (get_or at 0 0) k ≡ false
  clear-word n clear k h = sym (single at k at_one at_fits) ∙ clear k h

  -- what is refined in a word and stored is refined in the set
  pub refined-word : (r : Stage) (gs : List Generator) (order v : ℕ) → v < 2 ^ word_bits
      → ((F : ℕ → ℕ → Bool) (t : ℕ) → Left order F t (bit_at (get_or left 0 0)) → Shows gs order (bit_at (get_or at 0 0)) F t → Refined r order F (t + order) (bit_at v))
      → (F : ℕ → ℕ → Bool) (t : ℕ) → Left order F t (bit_of left) → Shows gs order (bit_of at) F t → Refined r order F (t + order) (bit_of (set left 0 v))
  refined-word r gs order v fits word F t l s =
      let e : get_or (set left 0 v) 0 0 ≡ v = get_or-set_same left 0 v 0 (omega arith) in
      refined_by r order F (t + order) (bit_at v) (bit_of (set left 0 v)) (λ k. single (set left 0 v) k (simp length-set left_one) (rw e fits) ∙ ap (λ (x : ℕ). bit_at x k) e)
      (word F t (left_by l (λ k. sym (single left k left_one left_fits))) (λ h k a b. s h k a b ∙ single at (add gs h k) at_one at_fits))
