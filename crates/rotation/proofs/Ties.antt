-- How many of the first i indices reach the least word so far: one where the next entry is less, one more where it is the same, and as many where it
-- is greater. After the last index they are as many as the indices that fix the word.
use Rattle.std.specs.declared.cmp.Ordering.TheVariants.{Less, Equal, Greater}
use Prim.Native.Nat.{ℕ, ◌+◌, ◌≤◌}
use mathlib.Core.Path.{◌≡◌, refl, sym, ap, ◌∙◌}
use mathlib.Core.Bool.{Bool, true, false, cond}
use mathlib.Core.List.{List, [], ◌∷◌}
use native.Mathlib.Nat.{add-zero}
use native.Mathlib.Omega.{arith}
use lib.ListN.{length}
use Rattle.pauli_word.specs.Word.{Word, same, less}
use Rattle.pauli_word.specs.Calls.{order_of_words}
use Rattle.pauli_word.proofs.WordOrder.{same_refl, same_eq}
use Rattle.action.specs.Lists.{from, below, Member, count}
use Rattle.action.specs.Permutation.{Generator, Valid}
use Rattle.action.specs.Index.{order_of}
use Rattle.action.specs.Orbit.{reach, least, fixing}
use Rattle.action.proofs.Lists.{member-map, count-append, count-cong, count-false, length-below}
use Rattle.action.proofs.Reach.{reach-length}
use Rattle.elements.proofs.Orbits.{below_next}
use Rattle.elements.proofs.LeastSoFar.{least_so_far, lead-length, lead-taken, lead-kept, lead-new, lead-end, order_less, order_not-less, order_same, order_not-same}
use Rattle.rotation.proofs.XPlane.{ties-fixing}

-- how many of the first i indices reach the least word so far
abbrev pub ties : List Generator → Word → ℕ → ℕ
ties gs w i = count (λ j. same (reach gs j w) (least_so_far gs w i)) (below i)

-- one number more
count_next : (p : ℕ → Bool) (i : ℕ) → count p (below (i + 1)) ≡ count p (below i) + cond (p i) 1 0
unfolding count
count_next p i =
    ap (count p) (below_next i) ∙ count-append p (below i) (i ∷ []) ∙ ap (λ (k : ℕ). count p (below i) + k) (add-zero (cond (p i) 1 0))

-- no number passes
count_none : (p : ℕ → Bool) (i : ℕ) → ((j : ℕ) → Member j (below i) → p j ≡ false) → count p (below i) ≡ 0
count_none p i none = count-cong p (λ j. false) (below i) none ∙ count-false (below i)

-- no more than there are numbers
count_small : (p : ℕ → Bool) (xs : List ℕ) → count p xs ≤ length xs
unfolding count
count_small p [] = omega arith
count_small p (x ∷ xs) = go (p x) (count_small p xs)
  where
    go : (b : Bool) → count p xs ≤ length xs → cond b 1 0 + count p xs ≤ length (x ∷ xs)
    go true h = omega arith
    go false h = omega arith

-- before the first index none reaches it
pub ties-start : (gs : List Generator) (w : Word) → 0 ≡ ties gs w 0
unfolding below from count
ties-start gs w = refl

module _ (gs : List Generator) (w : Word) (i : ℕ) where
  -- no more indices reach it than there are so far
  pub ties-small : ties gs w i ≤ i
  ties-small = omega (arith, count_small (λ j. same (reach gs j w) (least_so_far gs w i)) (below i), length-below i)

  -- a less entry is the only one
  pub ties-less : order_of_words (reach gs i w) (least_so_far gs w i) ≡ Less → ties gs w (i + 1) ≡ 1
  ties-less e =
      ap (λ (v : Word). count (λ j. same (reach gs j w) v) (below (i + 1))) (lead-taken gs w i h)
      ∙ count_next (λ j. same (reach gs j w) (reach gs i w)) i
      ∙ rw (count_none (λ j. same (reach gs j w) (reach gs i w)) i other, same_refl (reach gs i w))
    where
      h : less (reach gs i w) (least_so_far gs w i) ≡ true
      h = order_less (reach gs i w) (least_so_far gs w i) e

      other : (j : ℕ) → Member j (below i) → same (reach gs j w) (reach gs i w) ≡ false
      other j m = go (same (reach gs j w) (reach gs i w)) refl
        where
          go : (b : Bool) → same (reach gs j w) (reach gs i w) ≡ b → b ≡ false
          go false t = refl
          go true t =
              absurd (lead-new gs w i h (rw (sym (same_eq (reach gs j w) (reach gs i w) t)) (member-map (λ k. reach gs k w) (below i) j m)))

  -- an entry that is not less leaves the least so far
  kept : less (reach gs i w) (least_so_far gs w i) ≡ false
      → ties gs w (i + 1) ≡ ties gs w i + cond (same (reach gs i w) (least_so_far gs w i)) 1 0
  kept h =
      ap (λ (v : Word). count (λ j. same (reach gs j w) v) (below (i + 1))) (lead-kept gs w i h)
      ∙ count_next (λ j. same (reach gs j w) (least_so_far gs w i)) i

  -- an entry that is the same is one more
  pub ties-same : order_of_words (reach gs i w) (least_so_far gs w i) ≡ Equal → ties gs w (i + 1) ≡ ties gs w i + 1
  ties-same e =
      kept (order_not-less (reach gs i w) (least_so_far gs w i) (λ k. let z : ◌≡◌ {A = ℕ} 0 1 = cc in omega arith))
      ∙ rw (order_same (reach gs i w) (least_so_far gs w i) (reach-length gs i w ∙ sym (lead-length gs w i)) e)

  -- a greater entry changes nothing
  pub ties-greater : order_of_words (reach gs i w) (least_so_far gs w i) ≡ Greater → ties gs w (i + 1) ≡ ties gs w i
  ties-greater e =
      kept (order_not-less (reach gs i w) (least_so_far gs w i) (λ k. let z : ◌≡◌ {A = ℕ} 0 1 = cc in omega arith))
      ∙ rw (order_not-same (reach gs i w) (least_so_far gs w i) (λ k. let z : ◌≡◌ {A = ℕ} 0 1 = cc in omega arith), add-zero)

-- after the last index they are as many as fix the word
pub ties_end :
    {n : ℕ} {gs : List Generator} → Valid n gs → (w : Word) → length w ≡ n → (i : ℕ) → i ≡ order_of gs → ties gs w i ≡ length (fixing gs w)
ties_end {gs = gs} v w e i h =
    ap (λ (u : Word). count (λ j. same (reach gs j w) u) (below i)) (lead-end gs w i h)
    ∙ ap (λ (k : ℕ). count (λ j. same (reach gs j w) (least gs w)) (below k)) h
    ∙ ties-fixing v w e
