-- Where indices send sites: along the axes of a grid an index sends a site further on, and under a table of numbers to the site whose number is further on.
use Prim.Native.Nat.{ℕ, zero, suc, ◌+◌, ◌*◌, ◌/◌, ◌%◌, ◌<◌}
use mathlib.Core.Path.{◌≡◌, refl, sym, ap, ◌∙◌}
use mathlib.Core.Logic.{inl}
use mathlib.Core.List.{List, [], ◌∷◌}
use native.Mathlib.Nat.{div-one, dvd-mul_right, dvd_of_mod-eq-zero, dvd_trans, mod-add-div, mod-eq-zero_of_dvd, mod-one, mul_assoc, mul-pos, one-mul, zero-add, zero-mul}
use native.Mathlib.Omega.{arith}
use lib.ListN.{length, get_or}
use Rattle.pauli_word.specs.Word.{I, Word}
use Rattle.action.specs.Permutation.{Generator, target, after, Permutes, Valid}
use Rattle.action.specs.Index.{order_of, digits, add, inverse}
use Rattle.action.specs.Lattice.{shift, shifts}
use Rattle.action.specs.Orbit.{moves, by_digits, reach}
use Rattle.action.proofs.ExactOrders.{after-inside}
use Rattle.action.proofs.Index.{Positive, valid_positive, order_of_positive, add_comm, add-undo}
use Rattle.action.proofs.Move.{moves-length, moves-at}
use Rattle.packed.specs.Packed.{rotated}
use Rattle.rotation.specs.Rotation.{rotation}
use Rattle.rotation.proofs.Rotations.{rotated-zero, rotated-add, rotated-inside, target-rotation}
use Rattle.rotation.proofs.Promises.{shift_rotates}
use Rattle.parts.specs.Numbered.{Carried}
use Rattle.parts.proofs.Joined.{valid_rest}
use Rattle.grid.specs.Grid.{further}
use Rattle.grid.proofs.Numbers.{further_nil, along, axis-along}
use Rattle.renumbered.specs.Renumbered.{at, grid_of, Renumbered, sent}
use Rattle.renumbered.proofs.Orders.{orders_of, grid-order, grid-further}
use Rattle.renumbered.proofs.Numbers.{numbering, grid-valid, number-inside}

-- ---- any group

-- an index takes the letter of a site to where it sends the site
pub reach-sent : {n : ℕ} (gs : List Generator) → Valid n gs → (i q : ℕ) (w : Word) → length w ≡ n → q < n → get_or (reach gs i w) (sent gs i q) I ≡ get_or w q I
unfolding reach digits by_digits sent
reach-sent [] v i q w long h = refl
reach-sent (g ∷ gs) v i q w long h =
    let p = v.permutes g (inl refl) in
    let c : ℕ = i % g.order in
    reach-sent gs (valid_rest v) (i / g.order) (after g.perm c q) (moves c g.perm w) (moves-length c g.perm w ∙ long) (after-inside p c q h)
    ∙ moves-at p c w long q h

-- generators of numbers send a number where those of the sites send its site
module _ {m : ℕ} (site : ℕ → ℕ) where
  after-number : (f g : List ℕ) → Permutes m g → ((a : ℕ) → a < m → site (target g a) ≡ target f (site a)) → (c a : ℕ) → a < m
      → site (after g c a) ≡ after f c (site a)
  unfolding after
  after-number f g p same zero a h = refl
  after-number f g p same (suc c) a h = after-number f g p same c (target g a) (p.inside a h) ∙ ap (after f c) (same a h)

  sent-number : (gs hs : List Generator) → Valid m hs → Carried m site gs hs → (i a : ℕ) → a < m → site (sent hs i a) ≡ sent gs i (site a)
  unfolding sent
  sent-number [] [] v c i a h = refl
  sent-number [] (x ∷ hs) v c i a h = absurd c
  sent-number (g ∷ gs) [] v c i a h = absurd c
  sent-number (g ∷ gs) (x ∷ hs) v c i a h =
      let p = v.permutes x (inl refl) in
      rw c.0
      (sent-number gs hs (valid_rest v) c.2 (i / g.order) (after x.perm (i % g.order) a) (after-inside p (i % g.order) a h)
      ∙ ap (sent gs (i / g.order)) (after-number g.perm x.perm p c.1 (i % g.order) a h))

-- ---- a grid

-- a rotation made c times
after-rotation : (n b : ℕ) → 0 < b → n % b ≡ 0 → (s c q : ℕ) → q < n → after (rotation n s b) c q ≡ rotated (c * s) b q
unfolding after
after-rotation n b some blocks s zero q h = rw zero-mul (sym (rotated-zero b q))
after-rotation n b some blocks s (suc c) q h =
    let e : s + c * s ≡ suc c * s = omega arith in
    rw (target-rotation n s b q h)
    (after-rotation n b some blocks s c (rotated s b q) (rotated-inside n b some blocks s q h)
    ∙ rotated-add b some s (c * s) q
    ∙ ap (λ (t : ℕ). rotated t b q) e)

-- along axes whose rounds are whole an index sends a site further on
sent-along : (n stride : ℕ) → 0 < stride → (sides : List ℕ) → Positive (shifts n stride sides) → n % (stride * order_of (shifts n stride sides)) ≡ 0
    → (i q : ℕ) → q < n → sent (shifts n stride sides) i q ≡ along stride (shifts n stride sides) i q
unfolding shifts shift order_of sent
sent-along n stride apart [] some whole i q h = sym (rw (further_nil i (q / stride)) (mod-add-div q stride))
sent-along n stride apart (o ∷ sides) some whole i q h =
    let gs : List Generator = shifts n (stride * o) sides in
    let b : ℕ = stride * o in
    let all : n % (b * order_of gs) ≡ 0 = rw mul_assoc whole in
    let round : n % b ≡ 0 = mod-eq-zero_of_dvd b (dvd_trans b (dvd-mul_right b (order_of gs)) (dvd_of_mod-eq-zero (b * order_of gs) all)) in
    let c : ℕ = i % o in
    let s : 0 < b = mul-pos apart some.0 in
    let r : ℕ = rotated (c * stride) b q in
    ap (λ (p : List ℕ). sent gs (i / o) (after p c q)) (shift_rotates n stride o apart some.0)
    ∙ ap (sent gs (i / o)) (after-rotation n b s round stride c q h)
    ∙ sent-along n b s sides some.1 all (i / o) r (rotated-inside n b s round (c * stride) q h)
    ∙ axis-along stride apart (shift n stride o) some.0 gs (order_of_positive gs some.1) i q

-- further on by two numbers of places from the same site are two sites
pub further-apart : {n : ℕ} {gs : List Generator} → Valid n gs → (i j a : ℕ) → i < order_of gs → j < order_of gs → further gs i a ≡ further gs j a → i ≡ j
unfolding further
further-apart {gs = gs} v i j a hi hj e =
    let h : ℕ = a % order_of gs in
    let same : add gs h i ≡ add gs h j = omega (arith, e) in
    let p = valid_positive v in
    sym (add-undo gs p i h hi)
    ∙ ap (λ (x : ℕ). add gs x (inverse gs h)) (add_comm gs i h ∙ same ∙ add_comm gs h j)
    ∙ add-undo gs p j h hj

-- ---- sites under other numbers

module _ {n : ℕ} {gs : List Generator} (v : Valid n gs) {site place : List ℕ} (r : Renumbered n gs site place) where
  grid-sent : (i a : ℕ) → a < n → sent (grid_of n gs) i a ≡ further gs i a
  grid-sent i a h =
      let first : along 1 (grid_of n gs) i a ≡ further (grid_of n gs) i a = simp (mod-one, div-one, zero-add, one-mul) in
      sent-along n 1 (omega arith) (orders_of gs) (valid_positive (grid-valid v r)) (rw (one-mul, grid-order n gs) r.whole) i a h
      ∙ first
      ∙ grid-further n gs i a

  -- an index sends a site to the one whose number is further on
  pub sent-further : (i q : ℕ) → q < n → sent gs i q ≡ at site (further gs i (at place q))
  sent-further i q h =
      let l : at place q < n = r.place_inside q h in
      ap (sent gs i) (sym (r.sited q h))
      ∙ sym (sent-number (at site) gs (grid_of n gs) (grid-valid v r) r.carried i (at place q) l)
      ∙ ap (at site) (grid-sent i (at place q) l)

  pub sent-apart : (i j q : ℕ) → i < order_of gs → j < order_of gs → q < n → sent gs i q ≡ sent gs j q → i ≡ j
  sent-apart i j q hi hj h e =
      let a : ℕ = at place q in
      let l : a < n = r.place_inside q h in
      further-apart v i j a hi hj
      ((numbering v r).apart (further gs i a) (further gs j a) (number-inside v r i a l) (number-inside v r j a l)
      (sym (sent-further i q h) ∙ e ∙ sent-further j q h))
