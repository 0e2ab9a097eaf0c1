-- The word that an index reaches, generator by generator: as often as a digit says is one rotation, which a mask made for it turns the planes by.
use Prim.Native.Nat.{ℕ, ◌+◌, ◌-◌, ◌*◌, ◌/◌, ◌%◌, ◌≤◌, ◌<◌}
use mathlib.Core.Path.{◌≡◌, refl, sym, ap, ◌∙◌}
use mathlib.Core.List.{List, ◌∷◌}
use native.Mathlib.Nat.{mod-lt, mul-le-mul_left, mul-le-mul_right}
use native.Mathlib.Omega.{arith}
use lib.ListN.{length, get_or, drop, drop_of_length-le}
use Rattle.pauli_word.specs.Limits.{max_sites}
use Rattle.pauli_word.specs.Word.{Word}
use Rattle.action.specs.Permutation.{Generator}
use Rattle.action.specs.Index.{digits}
use Rattle.action.specs.Orbit.{move, moves, by_digits, reach}
use Rattle.elements.specs.HeldGroup.{generators_in, Tables}
use Rattle.elements.proofs.TableRows.{generators-length, rest_at, order-positive-at}
use Rattle.rotation.specs.Rotation.{rotation, turn_at, Blocks, Shapes, Rotations, Turns}
use Rattle.rotation.proofs.Rotations.{moves-rotation-mod}

-- ---- a digit's rotation

-- a rotation that is made c times is one inside the same blocks
pub blocks_times : {n s b : ℕ} → Blocks n s b → (c : ℕ) → Blocks n (c * s % b) b
blocks_times {s = s} bl c = record { inside = mod-lt (c * s) (omega (arith, bl.inside)); whole = bl.whole; small = bl.small }

-- a digit times a stride is far below what a machine word holds
pub turns_small : (rest o : ℕ) → 0 < o → {n s b : ℕ} → Blocks n s b → rest % o * s ≤ o * (max_sites + max_sites)
turns_small rest o some {s = s} bl =
    let digit : rest % o * s ≤ o * s = mul-le-mul_right s (omega (arith, mod-lt rest some)) in
    let stride : o * s ≤ o * (max_sites + max_sites) = mul-le-mul_left o (omega (arith, bl.inside, bl.small)) in
    omega (arith, digit, stride)

-- ---- generator by generator

-- what is left of an index from generator g on, made of a word
abbrev pub rest_of : List Generator → ℕ → ℕ → Word → Word
rest_of gs g rest w = by_digits (drop g gs) (digits (drop g gs) rest) w

-- from the first generator on all of it is left
pub reached_start : (gs : List Generator) (index : ℕ) (w : Word) → reach gs index w ≡ rest_of gs 0 index w
unfolding reach
reached_start gs index w = refl

module _ {k n : ℕ} {gs : List Generator} {orders strides rests : List ℕ} (t : Turns k n gs orders strides rests) (g rest : ℕ) (w : Word) where
  -- a generator moves the word as often as its digit says, and those after it are left
  rest-moved : g < k
      → rest_of gs g rest w
      ≡ rest_of gs (g + 1) (rest / get_or orders g 0) (moves (rest % get_or orders g 0) (turn_at n orders strides rests g).perm w)
  unfolding by_digits digits
  rest-moved h = rw (t.each g h)

  -- after the last generator nothing is left
  pub reached-end : k ≤ g → rest_of gs g rest w ≡ w
  unfolding by_digits digits
  reached-end h = rw (drop_of_length-le gs {i = g} (rw t.count h))

  -- the digit's moves are one rotation
  pub reached-next : Blocks n (get_or strides g 0) (get_or strides g 0 + get_or rests g 0) → g < k → length w ≡ n → {v : Word}
      → v ≡ move (rotation n (rest % get_or orders g 0 * get_or strides g 0 % (get_or strides g 0 + get_or rests g 0)) (get_or strides g 0 + get_or rests g 0)) w
      → rest_of gs g rest w ≡ rest_of gs (g + 1) (rest / get_or orders g 0) v
  reached-next bl h long {v} e =
      let c : ℕ = rest % get_or orders g 0 in
      let b : ℕ = get_or strides g 0 + get_or rests g 0 in
      let turned : moves c (rotation n (get_or strides g 0) b) w ≡ v =
      moves-rotation-mod n b (omega (arith, bl.inside)) bl.whole c (get_or strides g 0) w long ∙ sym e in
      rest-moved h ∙ ap (rest_of gs (g + 1) (rest / get_or orders g 0)) turned

-- ---- the generators of tables

module _ {k n : ℕ} {targets orders strides rests : List ℕ} (t : Tables k n targets orders) (s : Shapes k n targets strides rests) where
  -- those that rotate are rotations
  pub rotations-of : Rotations k n orders strides rests
  rotations-of = record {
    few = t.few;
    order_count = t.declared_orders;
    stride_count = s.stride_count;
    rest_count = s.rest_count;
    some = order-positive-at t;
    blocks = λ g h. (s.each g h).blocks;
  }

  pub turns-of : Turns k n (generators_in k n targets orders) orders strides rests
  turns-of = record {
    count = generators-length t;
    each = λ g h. rest_at t g h ∙ ap (λ (p : List ℕ). record { perm = p; order = get_or orders g 0 } ∷ drop (g + 1) (generators_in k n targets orders)) (s.each g h).turns;
  }
