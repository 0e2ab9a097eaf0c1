-- Generators that rotate sites inside blocks of b: they permute the sites, what they make of a word is said site by site, and a rotation that is
-- made c times is one rotation. What carries it: a rotation keeps a site's block and adds to its place in the block, modulo b.
use Prim.Native.Nat.{ℕ, zero, suc, ◌+◌, ◌-◌, ◌*◌, ◌/◌, ◌%◌, ◌<◌}
use mathlib.Core.Path.{◌≡◌, sym, ◌∙◌, ap, ap₂, fun_ext}
use mathlib.Core.Bool.{Bool}
use mathlib.Core.List.{List, map}
use native.Mathlib.Nat.{
  add_assoc,
  add-mod-mod,
  add-mod_right,
  add-zero,
  div-add-mod,
  div-eq_of_lt,
  div-lt_iff_lt-mul,
  mod-add-mod,
  mod-lt,
  mod-mod,
  mul-add-div,
  mul-add-mod_self_left,
  mul_comm,
  zero-mul,
}
use native.Mathlib.Omega.{arith}
use lib.Arith.{digits_lt}
use lib.ListN.{length, get_or}
use lib.Seq.{ext_get_or}
use Rattle.pauli_word.specs.Word.{I, Word, letter_of}
use Rattle.action.specs.Lists.{below}
use Rattle.action.specs.Permutation.{target, Permutes}
use Rattle.action.specs.Orbit.{move, moves}
use Rattle.action.proofs.Below.{map-below-at, map-below-length}
use Rattle.action.proofs.Move.{move-length, move_at}
use Rattle.packed.specs.Packed.{rotated, letters_by}
use Rattle.packed.proofs.Packing.{letters_by-at, letters_by-length}
use Rattle.rotation.specs.Rotation.{rotation}

-- ---- lists made of the numbers below n

-- ---- sites

-- a rotation by s modulo b is one by s
pub rotated-mod : (s b q : ℕ) → rotated (s % b) b q ≡ rotated s b q
unfolding rotated
rotated-mod s b q = ap (λ (r : ℕ). b * (q / b) + r) (add-mod-mod (q % b) s b)

-- a rotation by nothing keeps a site
pub rotated-zero : (b q : ℕ) → rotated 0 b q ≡ q
unfolding rotated
rotated-zero b q = simp (add-zero, mod-mod) (div-add-mod q b)

-- so does a rotation by a whole block
pub rotated-whole : (b q : ℕ) → rotated b b q ≡ q
unfolding rotated
rotated-whole b q = simp (add-mod_right, mod-mod) (div-add-mod q b)

module _ (b : ℕ) (some : 0 < b) where
  -- a rotation keeps a site's block
  pub rotated-block : (s q : ℕ) → rotated s b q / b ≡ q / b
  unfolding rotated
  rotated-block s q =
      mul-add-div some (q / b) ((q % b + s) % b)
      ∙ ap (λ (r : ℕ). q / b + r) (div-eq_of_lt (mod-lt (q % b + s) some))
      ∙ add-zero (q / b)

  -- it adds to a site's place in the block, modulo b
  pub rotated-place : (s q : ℕ) → rotated s b q % b ≡ (q % b + s) % b
  unfolding rotated
  rotated-place s q = mul-add-mod_self_left b (q / b) ((q % b + s) % b) ∙ mod-mod (q % b + s) b

  -- two rotations are one by their sum
  pub rotated-add : (s t q : ℕ) → rotated t b (rotated s b q) ≡ rotated (s + t) b q
  unfolding rotated
  rotated-add s t q =
      ap₂ (λ (x y : ℕ). b * x + (y + t) % b) (rotated-block s q) (rotated-place s q)
      ∙ ap (λ (r : ℕ). b * (q / b) + r) (mod-add-mod (q % b + s) b t ∙ ap (λ (x : ℕ). x % b) (add_assoc (q % b) s t))

  -- what is missing to a whole block rotates back
  pub rotated-back : (s q : ℕ) → rotated (b - s % b) b (rotated s b q) ≡ q
  rotated-back s q =
      let whole : s % b + (b - s % b) ≡ b = omega (arith, mod-lt s some) in
      ap (rotated (b - s % b) b) (sym (rotated-mod s b q))
      ∙ rotated-add (s % b) (b - s % b) q
      ∙ ap (λ (t : ℕ). rotated t b q) whole
      ∙ rotated-whole b q

  -- and may go first
  pub rotated-forth : (s q : ℕ) → rotated s b (rotated (b - s % b) b q) ≡ q
  rotated-forth s q =
      let whole : b - s % b + s % b ≡ b = omega (arith, mod-lt s some) in
      sym (rotated-mod s b (rotated (b - s % b) b q))
      ∙ rotated-add (b - s % b) (s % b) q
      ∙ ap (λ (t : ℕ). rotated t b q) whole
      ∙ rotated-whole b q

module _ (n b : ℕ) (some : 0 < b) (blocks : n % b ≡ 0) where
  -- a rotation takes a site of whole blocks to one of them
  pub rotated-inside : (s q : ℕ) → q < n → rotated s b q < n
  unfolding rotated
  rotated-inside s q h =
      rw (mul_comm b (q / b), ← all) (digits_lt ((div-lt_iff_lt-mul some).1 (rw all h)) (mod-lt (q % b + s) some))
    where
      all : n / b * b ≡ n
      all = omega (arith, div-add-mod n b)

-- where a rotation sends a site
pub target-rotation : (n s b q : ℕ) → q < n → target (rotation n s b) q ≡ rotated s b q
unfolding rotation
target-rotation n s b q h = map-below-at (rotated s b) n q 0 h

module _ (n b : ℕ) (some : 0 < b) (blocks : n % b ≡ 0) where
  -- a rotation inside blocks permutes the sites of whole blocks
  pub rotation-permutes : (s : ℕ) → Permutes n (rotation n s b)
  unfolding rotation
  rotation-permutes s = record {
    long = map-below-length (rotated s b) n;
    inside = λ q h. rw (target-rotation n s b q h) (rotated-inside n b some blocks s q h);
    apart = λ p q h k e. sym (rotated-back b some s p) ∙ ap (rotated (b - s % b) b) (images p q h k e) ∙ rotated-back b some s q;
  }
    where
      images : (p q : ℕ) → p < n → q < n → target (rotation n s b) p ≡ target (rotation n s b) q → rotated s b p ≡ rotated s b q
      images p q h k e = sym (target-rotation n s b p h) ∙ e ∙ target-rotation n s b q k

  -- the letter of site q is found where the rotation takes q
  pub move-rotation-at : (s : ℕ) (w : Word) → length w ≡ n → (q : ℕ) → q < n → get_or (move (rotation n s b) w) (rotated s b q) I ≡ get_or w q I
  move-rotation-at s w e q h =
      ap (λ (r : ℕ). get_or (move (rotation n s b) w) r I) (sym (target-rotation n s b q h)) ∙ move_at (rotation-permutes s) w e q h

  -- a word that has v's letters where the rotation takes them is v moved by it
  pub move-rotation :
      (s : ℕ) (v u : Word) → length v ≡ n → length u ≡ n
      → ((q : ℕ) → q < n → get_or u (rotated s b q) I ≡ get_or v q I) → move (rotation n s b) v ≡ u
  move-rotation s v u e l same =
      ext_get_or I (move (rotation n s b) v) u (move-length (rotation n s b) v ∙ e ∙ sym l) at-site
    where
      at-site : (r : ℕ) → r < length (move (rotation n s b) v) → get_or (move (rotation n s b) v) r I ≡ get_or u r I
      at-site r h =
          let k : rotated (b - s % b) b r < n = rotated-inside n b some blocks (b - s % b) r (rw (move-length, e) at h) in
          cc (move-rotation-at s v e (rotated (b - s % b) b r) k, same (rotated (b - s % b) b r) k, rotated-forth b some s r)

  -- the same of words by the bits of their sites
  pub letters-rotation :
      (s : ℕ) (x z x' z' : ℕ → Bool)
      → ((q : ℕ) → q < n → x' (rotated s b q) ≡ x q) → ((q : ℕ) → q < n → z' (rotated s b q) ≡ z q)
      → letters_by n x' z' ≡ move (rotation n s b) (letters_by n x z)
  letters-rotation s x z x' z' xs zs =
      sym (move-rotation s (letters_by n x z) (letters_by n x' z') (letters_by-length n x z) (letters_by-length n x' z') at-site)
    where
      at-site : (q : ℕ) → q < n → get_or (letters_by n x' z') (rotated s b q) I ≡ get_or (letters_by n x z) q I
      at-site q h =
          letters_by-at n x' z' (rotated s b q) (rotated-inside n b some blocks s q h)
          ∙ ap₂ letter_of (xs q h) (zs q h)
          ∙ sym (letters_by-at n x z q h)

  -- a rotation by nothing keeps a word
  pub move-rotation-zero : (w : Word) → length w ≡ n → move (rotation n 0 b) w ≡ w
  move-rotation-zero w e = move-rotation 0 w w e e (λ q h. ap (λ (r : ℕ). get_or w r I) (rotated-zero b q))

  -- one rotation after another is the rotation by their sum
  pub move-rotation-add :
      (s t : ℕ) (w : Word) → length w ≡ n → move (rotation n t b) (move (rotation n s b) w) ≡ move (rotation n (s + t) b) w
  move-rotation-add s t w e = sym (move-rotation (s + t) w (move (rotation n t b) v) e (move-length (rotation n t b) v ∙ l) at-site)
    where
      v : Word
      v = move (rotation n s b) w

      l : length v ≡ n
      l = move-length (rotation n s b) w ∙ e

      at-site : (q : ℕ) → q < n → get_or (move (rotation n t b) v) (rotated (s + t) b q) I ≡ get_or w q I
      at-site q h =
          ap (λ (r : ℕ). get_or (move (rotation n t b) v) r I) (sym (rotated-add b some s t q))
          ∙ move-rotation-at t v l (rotated s b q) (rotated-inside n b some blocks s q h)
          ∙ move-rotation-at s w e q h

  -- a rotation made c times is the rotation by c times as much
  pub moves-rotation : (c s : ℕ) (w : Word) → length w ≡ n → moves c (rotation n s b) w ≡ move (rotation n (c * s) b) w
  unfolding moves
  moves-rotation zero s w e = rw zero-mul (sym (move-rotation-zero w e))
  moves-rotation (suc c) s w e =
      moves-rotation c s (move (rotation n s b) w) (move-length (rotation n s b) w ∙ e)
      ∙ move-rotation-add s (c * s) w e
      ∙ ap (λ (t : ℕ). move (rotation n t b) w) (omega arith)

-- the rotation by s modulo b is that by s
pub rotation-mod : (n s b : ℕ) → rotation n (s % b) b ≡ rotation n s b
unfolding rotation
rotation-mod n s b = ap (λ (f : ℕ → ℕ). map f (below n)) (fun_ext (rotated-mod s b))

-- a rotation made c times is one that is below a block
pub moves-rotation-mod :
    (n b : ℕ) → 0 < b → n % b ≡ 0 → (c s : ℕ) (w : Word) → length w ≡ n → moves c (rotation n s b) w ≡ move (rotation n (c * s % b) b) w
moves-rotation-mod n b some blocks c s w e =
    moves-rotation n b some blocks c s w e ∙ ap (λ (p : List ℕ). move p w) (sym (rotation-mod n (c * s) b))
