-- The test of a table, number after number and generator after generator: where each generator does to the numbers what the rotation along its axis does, the
-- generators are carried.
use Prim.Native.Nat.{ℕ, zero, suc, ◌+◌, ◌-◌, ◌*◌, ◌/◌, ◌%◌, ◌≤◌, ◌<◌}
use mathlib.Core.Path.{◌≡◌, refl, sym, ap, ◌∙◌}
use mathlib.Core.List.{List}
use native.Mathlib.Nat.{div-add-mod}
use native.Mathlib.Omega.{arith}
use lib.ListN.{length, get_or, take, drop}
use lib.Seq.{get_or-take, get_or-drop}
use Rattle.pauli_word.specs.Limits.{max_sites}
use Rattle.action.specs.Arithmetic.{product}
use Rattle.action.specs.Permutation.{Generator, target}
use Rattle.action.specs.Index.{order_of}
use Rattle.action.specs.Lattice.{shift, shifts}
use Rattle.permutation.specs.Generators.{row_at}
use Rattle.elements.specs.HeldGroup.{generators_in, Tables}
use Rattle.elements.proofs.TableRows.{rest_at, rest_end, order-positive-at}
use Rattle.packed.specs.Packed.{rotated}
use Rattle.rotation.proofs.Promises.{shift_rotates}
use Rattle.rotation.proofs.Rotations.{target-rotation}
use Rattle.parts.specs.Numbered.{Carried}
use Rattle.grid.proofs.Grids.{place-positive, place-next}
use Rattle.renumbered.specs.Renumbered.{at, grid_of, Renumbered}
use Rattle.renumbered.proofs.Orders.{orders_of}

-- ---- one number after the other

-- a rotation adds to the place in the block, taken round
pub rotated-next : (s b a : ℕ) → a - a % b + (a % b + s) % b ≡ rotated s b a
unfolding rotated
rotated-next s b a = let e : a - a % b ≡ b * (a / b) = omega (arith, div-add-mod a b) in ap (λ (x : ℕ). x + (a % b + s) % b) e

-- ---- one generator after the other

module _ {k n : ℕ} {targets orders : List ℕ} (t : Tables k n targets orders) (site : List ℕ) (inside : (a : ℕ) → a < n → at site a < n)
    (each : (g : ℕ) → g < k → (a : ℕ) → a < n
    → at site (rotated (product (take g orders)) (product (take g orders) * get_or orders g 0) a) ≡ get_or targets (max_sites * g + at site a) 0) where
  abbrev gs : List Generator
  gs = generators_in k n targets orders

  row_target : (g q : ℕ) → q < n → target (row_at n targets g) q ≡ get_or targets (max_sites * g + q) 0
  row_target g q h = get_or-take n (drop (max_sites * g) targets) q 0 h ∙ get_or-drop (max_sites * g) targets q 0

  shift-target : (g : ℕ) → g < k → (a : ℕ) → a < n
      → target (shift n (product (take g orders)) (get_or orders g 0)).perm a ≡ rotated (product (take g orders)) (product (take g orders) * get_or orders g 0) a
  shift-target g h a l =
      let p : ℕ = product (take g orders) in
      ap (λ (f : List ℕ). target f a) (shift_rotates n p (get_or orders g 0) (place-positive t g (omega arith)) (order-positive-at t g h))
      ∙ target-rotation n p (p * get_or orders g 0) a l

  carried_from : (f g : ℕ) → f + g ≡ k → Carried n (at site) (drop g gs) (shifts n (product (take g orders)) (orders_of (drop g gs)))
  unfolding shifts shift
  carried_from zero g e = rw (rest_end t g (omega arith)) tt
  carried_from (suc f) g e =
      let h : g < k = omega arith in
      rw (rest_at t g h) (
        refl,
        (λ a l. ap (at site) (shift-target g h a l) ∙ each g h a l ∙ sym (row_target g (at site a) (inside a l))),
        rw (place-next t g h) at (carried_from f (g + 1) (omega arith)),
      )

  pub all-carried : Carried n (at site) (generators_in k n targets orders) (grid_of n (generators_in k n targets orders))
  unfolding product
  all-carried = carried_from k 0 (omega arith)

-- ---- the whole test

-- each table undoes the other on n places
abbrev pub Undo : ℕ → List ℕ → List ℕ → Type 0
Undo n site place = (a : ℕ) → a < n → (at site a < n) × (at place a < n) × (at place (at site a) ≡ a) × (at site (at place a) ≡ a)

-- the first g generators do to the numbers what the rotations along their axes do
abbrev pub Carries : ℕ → List ℕ → List ℕ → List ℕ → ℕ → Type 0
Carries n targets orders site g = (j : ℕ) → j < g → (a : ℕ) → a < n
    → at site (rotated (product (take j orders)) (product (take j orders) * get_or orders j 0) a) ≡ get_or targets (max_sites * j + at site a) 0

pub all_renumbered : {k n : ℕ} {targets orders : List ℕ} → Tables k n targets orders → {order : ℕ} → order ≡ order_of (generators_in k n targets orders)
    → (site place : List ℕ) → length site ≡ max_sites → length place ≡ max_sites → n % order ≡ 0 → Undo n site place → (g : ℕ) → k ≤ g → Carries n targets orders site g
    → Renumbered n (generators_in k n targets orders) site place
all_renumbered t is site place site_long place_long whole undo g over each = record {
  site_long = site_long;
  place_long = place_long;
  whole = rw is at whole;
  site_inside = λ a h. (undo a h).0;
  place_inside = λ a h. (undo a h).1;
  placed = λ a h. (undo a h).2;
  sited = λ a h. (undo a h).3;
  carried = all-carried t site (λ a h. (undo a h).0) (λ j h. each j (omega arith));
}
