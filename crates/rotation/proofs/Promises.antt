-- What is promised of groups whose generators rotate sites inside blocks, in a reader's words: each statement is followed by the law that shows it.
use Prim.Native.Nat.{ℕ, ◌+◌, ◌-◌, ◌*◌, ◌/◌, ◌%◌, ◌≤◌, ◌<◌}
use mathlib.Core.Path.{◌≡◌, refl, sym, ap, ap₂, ◌∙◌}
use mathlib.Core.Logic.{inl, inr}
use mathlib.Core.Bool.{Bool, false}
use mathlib.Core.List.{List, [], ◌∷◌}
use native.Mathlib.Nat.{mod-lt, mul_comm, mul-pos}
use native.Mathlib.Omega.{arith}
use lib.Arith.{digits_div, digits_mod, mod-mul}
use lib.ListN.{length}
use Rattle.pauli_word.specs.Word.{Word, same}
use Rattle.action.specs.Lists.{below, Member, count}
use Rattle.action.specs.Permutation.{Generator, Valid}
use Rattle.action.specs.Index.{order_of}
use Rattle.action.specs.Orbit.{move, reach, least, forward}
use Rattle.action.specs.Lattice.{shifted, shift, shifts}
use Rattle.action.proofs.Below.{map-below-cong}
use Rattle.packed.specs.Packed.{letters_by, rotated, keep_at, high_at}
use Rattle.packed.proofs.Packing.{letters_by_cong}
use Rattle.packed.proofs.Masks.{turned, turned_both, turned-at, two-masks}
use Rattle.rotation.specs.Rotation.{rotation, x_part}
use Rattle.rotation.proofs.Rotations.{letters-rotation}
use Rattle.rotation.proofs.XPlane.{x_part-length, ties-fixing, unique-x-least, unique-x-forward}

-- ---- the shifts of a lattice rotate

module _ (stride side : ℕ) (apart : 0 < stride) (some : 0 < side) where
  -- a site's place in its round, by its place along the axis and what is in front of it
  round-place : (q : ℕ) → q % (stride * side) ≡ q / stride % side * stride + q % stride
  round-place q = ap (λ (m : ℕ). q % m) (mul_comm stride side) ∙ mod-mul q some apart

  -- one place on along the axis is a stride on in the round
  round-next : (c l : ℕ) → l < stride → (c * stride + l + stride) % (stride * side) ≡ (c + 1) % side * stride + l
  round-next c l h =
      let e : c * stride + l + stride ≡ (c + 1) * stride + l = omega arith in
      ap (λ (y : ℕ). y % (stride * side)) e
      ∙ round-place ((c + 1) * stride + l)
      ∙ ap₂ (λ (y r : ℕ). y % side * stride + r) (digits_div (c + 1) h) (digits_mod (c + 1) h)

  -- so a shift sends a site where a rotation does
  shifted-rotated : (q : ℕ) → shifted stride side q ≡ rotated stride (stride * side) q
  unfolding shifted rotated
  shifted-rotated q =
      let place : (q % (stride * side) + stride) % (stride * side) ≡ (q / stride % side + 1) % side * stride + q % stride =
      ap (λ (p : ℕ). (p + stride) % (stride * side)) (round-place q) ∙ round-next (q / stride % side) (q % stride) (mod-lt q apart) in
      omega (arith, place)

-- The generator that shifts a lattice along an axis, its places a stride apart and as many as its side, rotates by the stride inside blocks of one
-- round of the axis.
pub shift_rotates : (n stride side : ℕ) → 0 < stride → 0 < side → (shift n stride side).perm ≡ rotation n stride (stride * side)
unfolding shift rotation
shift_rotates n stride side apart some =
    map-below-cong (shifted stride side) (rotated stride (stride * side)) n 0 (λ q h. shifted-rotated stride side apart some q)

-- So does each generator of a lattice with any list of sides, which the chain, the ladder and the tori are.
pub shifts_rotate : (n stride : ℕ) (sides : List ℕ) → 0 < stride → ((a : ℕ) → Member a sides → 0 < a) → (g : Generator) → Member g (shifts n stride sides)
    → (s : ℕ) × (b : ℕ) × (g.perm ≡ rotation n s b)
unfolding shifts
shifts_rotate n stride [] apart some g m = absurd m
shifts_rotate n stride (a ∷ sides) apart some g (inl e) =
    (stride, stride * a, ap (λ (h : Generator). h.perm) e ∙ shift_rotates n stride a apart (some a (inl refl)))
shifts_rotate n stride (a ∷ sides) apart some g (inr m) =
    shifts_rotate n (stride * a) sides (mul-pos apart (some a (inl refl))) (λ b k. some b (inr k)) g m

-- ---- masks move words

module _ (n s b : ℕ) (some : 0 < b) (inside : s ≤ b) (whole : n % b ≡ 0) (x z keep : ℕ → Bool) (is_keep : (q : ℕ) → keep q ≡ keep_at s b n q) where
  -- A word's X bits and Z bits, each rotated by the mask of the sites that have s before them in their block, are the word moved by the generator.
  pub masked-move : letters_by n (turned s (b - s) x keep) (turned s (b - s) z keep) ≡ move (rotation n s b) (letters_by n x z)
  masked-move =
      letters-rotation n b some whole s x z (turned s (b - s) x keep) (turned s (b - s) z keep)
      (λ q h. turned-at s b n x keep is_keep q some inside whole h)
      (λ q h. turned-at s b n z keep is_keep q some inside whole h)

  -- So they are by two masks, that one and the mask of the sites that go round, where no bit stands past the sites.
  pub masked-move-both : (high : ℕ → Bool) → ((q : ℕ) → high q ≡ high_at s b n q) → ((q : ℕ) → n ≤ q → x q ≡ false) → ((q : ℕ) → n ≤ q → z q ≡ false)
      → letters_by n (turned_both s (b - s) x keep high) (turned_both s (b - s) z keep high) ≡ move (rotation n s b) (letters_by n x z)
  masked-move-both high is_high clear_x clear_z =
      letters_by_cong n (turned_both s (b - s) x keep high) (turned_both s (b - s) z keep high) (turned s (b - s) x keep) (turned s (b - s) z keep)
      (λ q h. two-masks s b n x keep is_keep high is_high clear_x some inside whole q)
      (λ q h. two-masks s b n z keep is_keep high is_high clear_z some inside whole q)
      ∙ masked-move

-- ---- the X bits decide

-- Where one index alone reaches the least of the X bits, it reaches the least word, and is the smallest that does.
pub one_reaches : {n : ℕ} {gs : List Generator} → Valid n gs → (w : Word) → length w ≡ n
    → count (λ i. same (reach gs i (x_part w)) (least gs (x_part w))) (below (order_of gs)) ≡ 1
    → (reach gs (forward gs (x_part w)) w ≡ least gs w) × (forward gs w ≡ forward gs (x_part w))
one_reaches v w long one =
    let alone = sym (ties-fixing v (x_part w) (x_part-length w ∙ long)) ∙ one in
    (sym (unique-x-least v w long alone), unique-x-forward v w long alone)
