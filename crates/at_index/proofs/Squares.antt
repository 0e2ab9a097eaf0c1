-- The square of a permutation: it permutes the sites, moves a word as two moves do (`move-squared`), and so half as often as the permutation
-- (`moves-halved`).
use Prim.Native.Nat.{ℕ, zero, suc, ◌+◌, ◌/◌, ◌%◌, ◌<◌}
use mathlib.Core.Path.{◌≡◌, refl, sym, ap, ◌∙◌}
use mathlib.Core.List.{List, [], ◌∷◌, map}
use native.Mathlib.Nat.{le_of_suc-le-suc, not-suc-le-zero}
use native.Mathlib.Omega.{arith}
use lib.ListN.{length, get_or, length-map}
use lib.Seq.{ext_get_or}
use Rattle.pauli_word.specs.Word.{I, Word}
use Rattle.action.specs.Permutation.{target, Permutes}
use Rattle.action.specs.Orbit.{move, moves}
use Rattle.action.proofs.Move.{move-length, moves-length, move_at, source}
use Rattle.action.proofs.Reach.{moves-add}
use Rattle.at_index.specs.Powers.{squared}

map_at : (f : ℕ → ℕ) (xs : List ℕ) (i : ℕ) → i < length xs → get_or (map f xs) i 0 ≡ f (get_or xs i 0)
map_at f [] i h = absurd (not-suc-le-zero h)
map_at f (x ∷ xs) zero h = refl
map_at f (x ∷ xs) (suc i) h = map_at f xs i (le_of_suc-le-suc h)

pub squared-length : (perm : List ℕ) → length (squared perm) ≡ length perm
unfolding squared
squared-length perm = length-map perm (target perm)

-- it sends a site where two moves do
pub squared-at : (perm : List ℕ) (q : ℕ) → q < length perm → target (squared perm) q ≡ target perm (target perm q)
unfolding squared
squared-at perm q h = map_at (target perm) perm q h

module _ {n : ℕ} {perm : List ℕ} (permutes : Permutes n perm) where
  sends : (q : ℕ) → q < n → target (squared perm) q ≡ target perm (target perm q)
  sends q h = squared-at perm q (rw permutes.long h)

  pub squared-permutes : Permutes n (squared perm)
  squared-permutes = record {
    long = squared-length perm ∙ permutes.long;
    inside = λ q h. rw (sends q h) (permutes.inside (target perm q) (permutes.inside q h));
    apart = λ p q h k e.
        permutes.apart p q h k
        (permutes.apart (target perm p) (target perm q) (permutes.inside p h) (permutes.inside q k) (sym (sends p h) ∙ e ∙ sends q k));
  }

  pub move-squared : (w : Word) → length w ≡ n → move (squared perm) w ≡ move perm (move perm w)
  move-squared w e = ext_get_or I (move (squared perm) w) (move perm (move perm w)) (simp move-length) same
    where
      same : (r : ℕ) → r < length (move (squared perm) w) → get_or (move (squared perm) w) r I ≡ get_or (move perm (move perm w)) r I
      same r l =
          let (q, h, a) = source squared-permutes r (rw (move-length, e) at l) in
          cc (
            a,
            sends q h,
            move_at squared-permutes w e q h,
            move_at permutes (move perm w) (move-length perm w ∙ e) (target perm q) (permutes.inside q h),
            move_at permutes w e q h,
          )

  pub moves-squared : (c : ℕ) (w : Word) → length w ≡ n → moves c (squared perm) w ≡ moves (c + c) perm w
  unfolding moves
  moves-squared zero w e = refl
  moves-squared (suc c) w e =
      let twice : Word = move perm (move perm w) in
      let long : length twice ≡ n = move-length perm (move perm w) ∙ move-length perm w ∙ e in
      let sum : suc c + suc c ≡ suc (suc (c + c)) = omega arith in
      ap (moves c (squared perm)) (move-squared w e) ∙ moves-squared c twice long ∙ ap (λ (k : ℕ). moves k perm w) (sym sum)

  -- a count's last digit by the permutation, and half of the count by its square
  pub moves-halved : (c : ℕ) (w : Word) → length w ≡ n → moves c perm w ≡ moves (c / 2) (squared perm) (moves (c % 2) perm w)
  moves-halved c w e =
      let half : ℕ = c / 2 in
      let digit : ℕ = c % 2 in
      let sum : c ≡ digit + (half + half) = omega arith in
      ap (λ (k : ℕ). moves k perm w) sum
      ∙ moves-add digit (half + half) perm w
      ∙ sym (moves-squared half (moves digit perm w) (moves-length digit perm w ∙ e))
