-- What moving does to a word: the letter of site q is found at the target of q, so that moves by commuting permutations commute, and as many moves
-- as the exact order give the word back. What carries it: no two sites have the same target, so that no letter is written over.
use Prim.Native.Nat.{ℕ, zero, suc, ◌+◌, ◌-◌, ◌<◌, suc-le-suc}
use mathlib.Core.Path.{◌≡◌, refl, sym, ◌∙◌}
use mathlib.Core.Logic.{◌≢◌}
use mathlib.Core.List.{List, [], ◌∷◌}
use native.Mathlib.Nat.{le_of_suc-le-suc, zero-lt-suc, suc-ne-zero, suc_inj}
use native.Mathlib.Omega.{arith}
use lib.ListN.{length, get_or, set, replicate, length-set, length-replicate}
use lib.Seq.{ext_get_or, get_or-set_same, get_or-set_other}
use Rattle.pauli_word.specs.Word.{I, Word}
use Rattle.action.specs.Permutation.{target, after, exact_order, Permutes, Commute}
use Rattle.action.specs.Orbit.{place, move, moves}
use Rattle.action.proofs.ExactOrders.{after-add, after-inside, order-returns, order_positive}

pub place-length : (ps : List ℕ) (w out : Word) → length (place ps w out) ≡ length out
unfolding place
place-length ps [] out = refl
place-length [] (a ∷ w) out = refl
place-length (p ∷ ps) (a ∷ w) out = place-length ps w (set out p a) ∙ length-set out p a

-- a site that is no target keeps its letter
pub place_other : (ps : List ℕ) (w out : Word) (j : ℕ) → ((i : ℕ) → i < length ps → j ≢ target ps i) → get_or (place ps w out) j I ≡ get_or out j I
unfolding place
place_other ps [] out j h = refl
place_other [] (a ∷ w) out j h = refl
place_other (p ∷ ps) (a ∷ w) out j h =
    place_other ps w (set out p a) j (λ i k. h (suc i) (suc-le-suc k)) ∙ get_or-set_other out p j a I (h 0 (zero-lt-suc (length ps)))

-- where no two targets are the same, the letter of site q is found at its target
place_at : (ps : List ℕ) (w out : Word) (q : ℕ) → q < length ps → q < length w
    → ((i : ℕ) → i < length ps → target ps i < length out)
    → ((i j : ℕ) → i < length ps → j < length ps → target ps i ≡ target ps j → i ≡ j)
    → get_or (place ps w out) (target ps q) I ≡ get_or w q I
unfolding place
place_at ps [] out q h k inside apart = absurd (omega arith)
place_at [] (a ∷ w) out q h k inside apart = absurd (omega arith)
place_at (p ∷ ps) (a ∷ w) out zero h k inside apart =
    place_other ps w (set out p a) p (λ i l e. suc-ne-zero i (sym (apart 0 (suc i) h (suc-le-suc l) e))) ∙ get_or-set_same out p a I (inside 0 h)
place_at (p ∷ ps) (a ∷ w) out (suc q) h k inside apart =
    place_at ps w (set out p a) q (le_of_suc-le-suc h) (le_of_suc-le-suc k)
    (λ i l. rw length-set (inside (suc i) (suc-le-suc l)))
    (λ i j l m e. suc_inj (apart (suc i) (suc j) (suc-le-suc l) (suc-le-suc m) e))

pub move-length : (perm : List ℕ) (w : Word) → length (move perm w) ≡ length w
unfolding move
move-length perm w = place-length perm w (replicate (length w) I) ∙ length-replicate (length w) I

pub moves-length : (c : ℕ) (perm : List ℕ) (w : Word) → length (moves c perm w) ≡ length w
unfolding moves
moves-length zero perm w = refl
moves-length (suc c) perm w = moves-length c perm (move perm w) ∙ move-length perm w

module _ {n : ℕ} {perm : List ℕ} (permutes : Permutes n perm) where
  pub move_at : (w : Word) → length w ≡ n → (q : ℕ) → q < n → get_or (move perm w) (target perm q) I ≡ get_or w q I
  unfolding move
  move_at w e q h =
      place_at perm w (replicate (length w) I) q (rw permutes.long h) (rw e h)
      (λ i l. rw (length-replicate, e) (permutes.inside i (rw permutes.long at l)))
      (λ i j l m. permutes.apart i j (rw permutes.long at l) (rw permutes.long at m))

  pub moves-at : (c : ℕ) (w : Word) → length w ≡ n → (q : ℕ) → q < n → get_or (moves c perm w) (after perm c q) I ≡ get_or w q I
  unfolding moves after
  moves-at zero w e q h = refl
  moves-at (suc c) w e q h = moves-at c (move perm w) (move-length perm w ∙ e) (target perm q) (permutes.inside q h) ∙ move_at w e q h

  -- every site is the target of a site: of the one that it reaches last before it comes back
  pub source : (q : ℕ) → q < n → (p : ℕ) × (p < n) × (target perm p ≡ q)
  unfolding after
  source q h =
      let c : ℕ = exact_order perm - 1 in
      let sum : c + 1 ≡ exact_order perm = omega (arith, order_positive perm) in
      (after perm c q, after-inside permutes c q h, cc (after-add perm c 1 q, sum, order-returns permutes q h))

  pub moves-order : (w : Word) → length w ≡ n → moves (exact_order perm) perm w ≡ w
  moves-order w e = ext_get_or I (moves (exact_order perm) perm w) w (moves-length (exact_order perm) perm w) same
    where
      same : (q : ℕ) → q < length (moves (exact_order perm) perm w) → get_or (moves (exact_order perm) perm w) q I ≡ get_or w q I
      same q l =
          let h : q < n = omega (arith, moves-length (exact_order perm) perm w) in
          cc (moves-at (exact_order perm) w e q h, order-returns permutes q h)

-- every site is f's target of g's target of a site q; both words have the letter of q there
pub move_commute : {n : ℕ} {f g : List ℕ} → Permutes n f → Permutes n g → Commute n f g
    → (w : Word) → length w ≡ n → move f (move g w) ≡ move g (move f w)
move_commute {n} {f} {g} F G commute w e = ext_get_or I (move f (move g w)) (move g (move f w)) lengths same
  where
    lengths : length (move f (move g w)) ≡ length (move g (move f w))
    lengths = simp move-length

    same : (r : ℕ) → r < length (move f (move g w)) → get_or (move f (move g w)) r I ≡ get_or (move g (move f w)) r I
    same r l =
        let (p, h, a) = source F r (rw (move-length, move-length, e) at l) in
        let (q, k, b) = source G p h in
        cc (
          move_at F (move g w) (move-length g w ∙ e) (target g q) (G.inside q k),
          move_at G w e q k,
          move_at G (move f w) (move-length f w ∙ e) (target f q) (F.inside q k),
          move_at F w e q k,
          commute q k,
          a,
          b,
        )
