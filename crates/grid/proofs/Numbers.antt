-- What a grid's generators do to sites: an index takes each letter of a word to the site that is as much further on in its block, digit by digit.
-- What carries it: an index's digit c at an axis is a rotation by c strides inside blocks of one round (`moves-rotation`), which adds c to that digit of
-- a site's number and leaves what is in front of the axis and behind it (`axis-along`).
use Prim.Native.Nat.{ℕ, ◌+◌, ◌*◌, ◌/◌, ◌%◌, ◌<◌}
use mathlib.Core.Path.{◌≡◌, sym, ap, ap₂, subst, ◌∙◌}
use mathlib.Core.Bool.{Bool}
use mathlib.Core.List.{List, [], ◌∷◌, map}
use native.Mathlib.Nat.{
  div-add-mod,
  div-div-eq-div-mul,
  div-lt_iff_lt-mul,
  div-one,
  dvd-mul_right,
  dvd_of_mod-eq-zero,
  dvd_trans,
  mod-add-div,
  mod-eq-zero_of_dvd,
  mod-lt,
  mod-one,
  mul_assoc,
  mul_comm,
  mul-pos,
  one-mul,
  zero-add,
}
use native.Mathlib.Omega.{arith}
use lib.Arith.{digits_div, digits_lt, digits_mod, mod-mul}
use lib.ListN.{length, get_or}
use Rattle.pauli_word.specs.Word.{I, Word}
use Rattle.action.specs.Permutation.{Generator, Valid}
use Rattle.action.specs.Index.{order_of, digits, index, add_digits, add, inverse}
use Rattle.action.specs.Lattice.{shift, shifts}
use Rattle.action.specs.Orbit.{moves, by_digits, reach}
use Rattle.action.proofs.Index.{Positive, valid_positive, order_of_positive, add-below}
use Rattle.action.proofs.Move.{moves-length}
use Rattle.action.proofs.Reach.{reach-length, reach-of-inverse}
use Rattle.packed.specs.Packed.{rotated, letters_by}
use Rattle.packed.proofs.Packing.{letters_by-at, letters_by-length, letters_by_of}
use Rattle.rotation.proofs.Rotations.{rotated-block, rotated-place, rotated-inside, move-rotation-at, moves-rotation}
use Rattle.rotation.proofs.Promises.{shift_rotates}
use Rattle.grid.specs.Grid.{Grid, further}
use Rattle.grid.specs.Candidates.{candidate}

-- ---- further on, axis by axis

-- without axes nothing is further on
pub further_nil : (k q : ℕ) → further [] k q ≡ q
unfolding further order_of add index
further_nil k q = omega arith

-- the first axis adds to the first digit, and the others to what is behind it
further_cons : (g : Generator) (gs : List Generator) → 0 < g.order → 0 < order_of gs → (k q : ℕ)
    → further (g ∷ gs) k q ≡ (q % g.order + k % g.order) % g.order + g.order * further gs (k / g.order) (q / g.order)
unfolding further order_of add index digits add_digits
further_cons g gs some rest k q =
    let o : ℕ = g.order in
    let d : ℕ = order_of gs in
    let place : q % (o * d) ≡ q / o % d * o + q % o = ap (λ (m : ℕ). q % m) (mul_comm o d) ∙ mod-mul q rest some in
    let low : q % (o * d) % o ≡ q % o = ap (λ (m : ℕ). m % o) place ∙ digits_mod (q / o % d) (mod-lt q some) in
    let high : q % (o * d) / o ≡ q / o % d = ap (λ (m : ℕ). m / o) place ∙ digits_div (q / o % d) (mod-lt q some) in
    rw (low, high, ← div-div-eq-div-mul q o d) (omega arith)

-- ---- along axes whose first places are a stride apart

-- the site whose number in steps of the stride is k further on
abbrev pub along : ℕ → List Generator → ℕ → ℕ → ℕ
along stride gs k q = q % stride + stride * further gs k (q / stride)

module _ (stride : ℕ) (apart : 0 < stride) (g : Generator) (some : 0 < g.order) (gs : List Generator) (rest : 0 < order_of gs) (k q : ℕ) where
  -- the rotation by the first digit, and along the other axes from there
  pub axis-along : along (stride * g.order) gs (k / g.order) (rotated (k % g.order * stride) (stride * g.order) q) ≡ along stride (g ∷ gs) k q
  axis-along =
      let o : ℕ = g.order in
      let b : ℕ = stride * o in
      let round : 0 < b = mul-pos apart some in
      let c : ℕ = k % o in
      let x : ℕ = q / stride % o in
      let place : (m : ℕ) → m % b ≡ m / stride % o * stride + m % stride = λ m. ap (λ (r : ℕ). m % r) (mul_comm stride o) ∙ mod-mul m some apart in
      let sum : q % b + c * stride ≡ (x + c) * stride + q % stride = omega (arith, place q) in
      let turned : (q % b + c * stride) % b ≡ (x + c) % o * stride + q % stride =
      ap (λ (m : ℕ). m % b) sum
      ∙ place ((x + c) * stride + q % stride)
      ∙ ap₂ (λ (y r : ℕ). y % o * stride + r) (digits_div (x + c) (mod-lt q apart)) (digits_mod (x + c) (mod-lt q apart)) in
      rw (rotated-place b round (c * stride) q, rotated-block b round (c * stride) q, turned, ← div-div-eq-div-mul q stride o, further_cons g gs some rest k (q / stride))
      (omega arith)

-- an index takes the letter of a site along axes whose rounds are whole
reach-along : (n stride : ℕ) → 0 < stride → (sides : List ℕ) → Positive (shifts n stride sides) → n % (stride * order_of (shifts n stride sides)) ≡ 0
    → (i q : ℕ) (w : Word) → length w ≡ n → q < n → get_or (reach (shifts n stride sides) i w) (along stride (shifts n stride sides) i q) I ≡ get_or w q I
unfolding shifts order_of reach digits by_digits
reach-along n stride apart [] some whole i q w long h =
    ap (λ (r : ℕ). get_or w r I) (rw (further_nil i (q / stride)) (mod-add-div q stride))
reach-along n stride apart (o ∷ sides) some whole i q w long h =
    let gs : List Generator = shifts n (stride * o) sides in
    let b : ℕ = stride * o in
    let all : n % (b * order_of gs) ≡ 0 = rw mul_assoc whole in
    let round : n % b ≡ 0 = mod-eq-zero_of_dvd b (dvd_trans b (dvd-mul_right b (order_of gs)) (dvd_of_mod-eq-zero (b * order_of gs) all)) in
    let c : ℕ = i % o in
    let s : 0 < b = mul-pos apart some.0 in
    let v : Word = moves c (shift n stride o).perm w in
    let r : ℕ = rotated (c * stride) b q in
    ap (λ (m : ℕ). get_or (reach gs (i / o) v) m I) (sym (axis-along stride apart (shift n stride o) some.0 gs (order_of_positive gs some.1) i q))
    ∙ reach-along n b s sides some.1 all (i / o) r v (moves-length c (shift n stride o).perm w ∙ long) (rotated-inside n b s round (c * stride) q h)
    ∙ ap (λ (p : List ℕ). get_or (moves c p w) r I) (shift_rotates n stride o apart some.0)
    ∙ ap (λ (u : Word). get_or u r I) (moves-rotation n b s round c stride w long)
    ∙ move-rotation-at n b s round (c * stride) w long q h

-- ---- a grid

module _ {n : ℕ} {gs : List Generator} (v : Valid n gs) (grid : Grid n gs) where
  order_some : 0 < order_of gs
  order_some = order_of_positive gs (valid_positive v)

  -- further on from a site is a site
  pub further-inside : (k q : ℕ) → q < n → further gs k q < n
  unfolding further
  further-inside k q h =
      let d : ℕ = order_of gs in
      let all : n / d * d ≡ n = omega (arith, div-add-mod n d, grid.whole) in
      let high : q / d < n / d = (div-lt_iff_lt-mul order_some).1 (rw all h) in
      omega (arith, digits_lt high (add-below gs (valid_positive v) (q % d) k))

  -- from place h of a block, k further on is the place that is their sum
  pub further-block : (k base h : ℕ) → base % order_of gs ≡ 0 → h < order_of gs → further gs k (base + h) ≡ base + add gs h k
  unfolding further
  further-block k base h whole small =
      let d : ℕ = order_of gs in
      let split : base + h ≡ base / d * d + h = omega (arith, div-add-mod base d) in
      rw (split, digits_div (base / d) small, digits_mod (base / d) small) (omega (arith, div-add-mod base d))

  -- index i takes the letter of a site to the site that is i further on
  pub reach-further : (i q : ℕ) (w : Word) → length w ≡ n → q < n → get_or (reach gs i w) (further gs i q) I ≡ get_or w q I
  reach-further i q w long h =
      let first : along 1 gs i q ≡ further gs i q = simp (mod-one, div-one, zero-add, one-mul) in
      ap (λ (r : ℕ). get_or (reach gs i w) r I) (sym first)
      ∙ subst (λ (hs : List Generator). Positive hs → n % (1 * order_of hs) ≡ 0 → get_or (reach hs i w) (along 1 hs i q) I ≡ get_or w q I) (sym grid.shifts)
      (λ some whole. reach-along n 1 (omega arith) (map (λ g. g.order) gs) some whole i q w long h)
      (valid_positive v)
      (rw one-mul grid.whole)

  -- candidate k has at a site the letter that the word has k further on
  pub candidate-at : (k q : ℕ) (w : Word) → length w ≡ n → q < n → get_or (candidate gs w k) q I ≡ get_or w (further gs k q) I
  candidate-at k q w long h =
      sym (reach-further k q (candidate gs w k) (reach-length gs (inverse gs k) w ∙ long) h)
      ∙ ap (λ (u : Word). get_or u (further gs k q) I) (reach-of-inverse v k w long)

  -- so it has the bits that the word has k further on
  pub candidate-letters : (k : ℕ) (x z : ℕ → Bool)
      → candidate gs (letters_by n x z) k ≡ letters_by n (λ q. x (further gs k q)) (λ q. z (further gs k q))
  candidate-letters k x z =
      letters_by_of n (λ q. x (further gs k q)) (λ q. z (further gs k q)) (candidate gs (letters_by n x z) k)
      (reach-length gs (inverse gs k) (letters_by n x z) ∙ letters_by-length n x z)
      (λ q h. candidate-at k q (letters_by n x z) (letters_by-length n x z) h ∙ letters_by-at n x z (further gs k q) (further-inside k q h))
