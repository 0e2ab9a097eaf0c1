-- The rotations that shift along axes are the generators of a grid with the same orders, of any number of sites: what they make of a block of a plane are the
-- candidates' bits at a place of it.
use Prim.Native.Nat.{ℕ, zero, suc, ◌+◌, ◌-◌, ◌*◌, ◌/◌, ◌%◌, ◌≤◌, ◌<◌, ◌∣◌}
use mathlib.Core.Path.{◌≡◌, refl, sym, ap, ap₂, ◌∙◌}
use mathlib.Core.List.{List, ◌∷◌}
use native.Mathlib.Nat.{div-add-mod, dvd_of_mod-eq-zero, dvd_trans, mod-eq-zero_of_dvd, mod-lt, mod_self, mul-mod_right, zero-add, zero-mod}
use native.Mathlib.Numerals.{add-one}
use native.Mathlib.Omega.{arith}
use lib.ListN.{get_or, take, drop, length-map}
use lib.Seq.{drop-drop}
use Rattle.pauli_word.specs.Word.{I, Word, x_bit}
use Rattle.pauli_word.proofs.Words.{x_bit-letter_of}
use Rattle.action.specs.Arithmetic.{product}
use Rattle.action.specs.Permutation.{Generator, Valid}
use Rattle.action.specs.Index.{order_of, add, inverse}
use Rattle.action.specs.Lattice.{shift, shifts}
use Rattle.action.specs.Orbit.{reach}
use Rattle.action.proofs.Below.{map-below-cong}
use Rattle.action.proofs.Index.{valid_positive, order_of_positive, add-below, add_comm}
use Rattle.action.proofs.Lattice.{shifts-length}
use Rattle.elements.specs.HeldGroup.{generators_in, Tables}
use Rattle.elements.proofs.TableRows.{generators-length, rest_at, order-positive-at}
use Rattle.packed.specs.Packed.{bit_of, letters_by, letters_at}
use Rattle.packed.proofs.Packing.{letters_by-at}
use Rattle.rotation.specs.Rotation.{rotation, turn_at, Rotations, Turns}
use Rattle.grid.specs.Grid.{Axes, Grid, further}
use Rattle.grid.proofs.Grids.{axes-order, place-next}
use Rattle.grid.proofs.Numbers.{further-block, candidate-letters}
use Rattle.renumbered.specs.Renumbered.{grid_of}
use Rattle.renumbered.proofs.Orders.{orders_of, grid-order, grid-inverse, grid-further, grid-grid, grid-some}

module _ {k n : ℕ} {targets orders : List ℕ} (t : Tables k n targets orders) {strides rests : List ℕ} (a : Axes k orders strides rests) (m : ℕ) where
  abbrev gs : List Generator
  gs = generators_in k n targets orders

  -- the shifts from generator g on
  abbrev shifts_from : ℕ → List Generator
  shifts_from g = shifts m (product (take g orders)) (orders_of (drop g gs))

  -- a shift is the rotation
  shift-turn : (g : ℕ) → g < k → shift m (product (take g orders)) (get_or orders g 0) ≡ turn_at m orders strides rests g
  unfolding shift rotation
  shift-turn g h =
      ap (λ (perm : List ℕ). record { perm = perm; order = get_or orders g 0 }) (map-below-cong _ _ m 0 (λ q l. sym (a.shifts g h q)))

  first-turn : (g : ℕ) → g < k → shifts_from g ≡ turn_at m orders strides rests g ∷ shifts_from (g + 1)
  unfolding shifts
  first-turn g h =
      let os : List ℕ = orders_of (drop (g + 1) gs) in
      rw (rest_at t g h) (ap₂ ◌∷◌ (shift-turn g h) (ap (λ (p : ℕ). shifts m p os) (sym (place-next t g h))))

  drop-shifts : (g : ℕ) → g ≤ k → drop g (shifts_from 0) ≡ shifts_from g
  drop-shifts zero h = refl
  drop-shifts (suc g) h =
      ap (λ (j : ℕ). drop j (shifts_from 0)) (sym (add-one g))
      ∙ sym (drop-drop 1 g (shifts_from 0))
      ∙ ap (λ (l : List Generator). drop 1 l) (drop-shifts g (omega arith) ∙ first-turn g h)
      ∙ ap shifts_from (add-one g)

  grid-first : grid_of m gs ≡ shifts_from 0
  unfolding product
  grid-first = refl

  -- the generators of the grid are the rotations
  pub grid-turns : Turns k m (grid_of m (generators_in k n targets orders)) orders strides rests
  grid-turns = record {
    count = shifts-length m 1 (orders_of gs) ∙ length-map gs (λ g. g.order) ∙ generators-length t;
    each = λ g h.
        ap (λ (l : List Generator). drop g l) grid-first
        ∙ drop-shifts g (omega arith)
        ∙ first-turn g h
        ∙ ap (λ (l : List Generator). turn_at m orders strides rests g ∷ l)
        (sym (ap (λ (l : List Generator). drop (g + 1) l) grid-first ∙ drop-shifts (g + 1) (omega arith)));
  }

  -- where blocks of the group's order make up the sites
  pub grid-rotations : m % order_of (generators_in k n targets orders) ≡ 0 → Rotations k m orders strides rests
  grid-rotations whole = record {
    few = t.few;
    order_count = t.declared_orders;
    stride_count = a.stride_count;
    rest_count = a.rest_count;
    some = order-positive-at t;
    blocks = λ g h.
        let b : ℕ = get_or strides g 0 + get_or rests g 0 in
        let inner : b ∣ order_of gs = rw (← axes-order t) (dvd_of_mod-eq-zero b (a.whole g h)) in
        record {
          inside = omega (arith, a.some g h);
          whole = mod-eq-zero_of_dvd b (dvd_trans b inner (dvd_of_mod-eq-zero (order_of gs) whole));
          small = a.small g h;
        };
  }

-- ---- the candidates' bits at a number

module _ {n : ℕ} {gs : List Generator} (v : Valid n gs) {order : ℕ} (is : order ≡ order_of gs) where
  abbrev hs : List Generator
  hs = grid_of order gs

  pub order_some : 0 < order
  order_some = rw is (order_of_positive gs (valid_positive v))

  -- a block is whole blocks
  pub block-whole : order % order_of gs ≡ 0
  block-whole = rw is (mod_self (order_of gs))

  block-valid : Valid order hs
  block-valid = grid-some order gs order_some block-whole

  block-grid : Grid order hs
  block-grid = grid-grid order gs block-whole

  hs-order : order_of hs ≡ order
  hs-order = grid-order order gs ∙ sym is

  -- at place h of a block, bit k of the block that is moved by the inverse of h is bit h + k
  block-moved : (h : ℕ) (bits₀ none₀ bits none : List ℕ) → letters_at order bits none ≡ reach hs (inverse gs h) (letters_at order bits₀ none₀)
      → (k : ℕ) → k < order → bit_of bits k ≡ bit_of bits₀ (add hs h k)
  block-moved h bits₀ none₀ bits none e k l =
      let all : letters_at order bits none ≡ letters_by order (λ q. bit_of bits₀ (further hs h q)) (λ q. bit_of none₀ (further hs h q)) =
      e ∙ ap (λ (i : ℕ). reach hs i (letters_at order bits₀ none₀)) (sym (grid-inverse order gs h)) ∙ candidate-letters block-valid block-grid h (bit_of bits₀) (bit_of none₀) in
      let on : further hs h (0 + k) ≡ 0 + add hs k h = further-block block-valid block-grid h 0 k (zero-mod (order_of hs)) (rw hs-order l) in
      let place : further hs h k ≡ add hs h k = ap (further hs h) (sym (zero-add k)) ∙ on ∙ zero-add (add hs k h) ∙ add_comm hs k h in
      sym (ap x_bit (letters_by-at order (bit_of bits) (bit_of none) k l) ∙ x_bit-letter_of (bit_of bits k) (bit_of none k))
      ∙ ap (λ (w : Word). x_bit (get_or w k I)) all
      ∙ ap x_bit (letters_by-at order (λ q. bit_of bits₀ (further hs h q)) (λ q. bit_of none₀ (further hs h q)) k l)
      ∙ x_bit-letter_of (bit_of bits₀ (further hs h k)) (bit_of none₀ (further hs h k))
      ∙ ap (bit_of bits₀) place

  -- so the block that number a is in, moved by its place there, has the candidates' bits
  pub block-bits : (a : ℕ) (plane bits₀ none₀ bits none : List ℕ) → ((k : ℕ) → k < order → bit_of bits₀ k ≡ bit_of plane (a - a % order + k))
      → letters_at order bits none ≡ reach (grid_of order gs) (inverse gs (a % order)) (letters_at order bits₀ none₀)
      → (k : ℕ) → k < order → bit_of bits k ≡ bit_of plane (further gs k a)
  block-bits a plane bits₀ none₀ bits none copied e k l =
      let h : ℕ = a % order in
      let base : ℕ = a - a % order in
      let split : base + h ≡ a = omega (arith, div-add-mod a order) in
      let rounds : base ≡ order * (a / order) = omega (arith, div-add-mod a order) in
      let start : base % order_of hs ≡ 0 = rw (hs-order, rounds) (mul-mod_right order (a / order)) in
      let on : further hs k (base + h) ≡ base + add hs h k = further-block block-valid block-grid k base h start (rw hs-order (mod-lt a order_some)) in
      block-moved h bits₀ none₀ bits none e k l
      ∙ copied (add hs h k) (rw hs-order at (add-below hs (valid_positive block-valid) h k))
      ∙ ap (bit_of plane) (sym on ∙ ap (further hs k) split ∙ grid-further order gs k a)
