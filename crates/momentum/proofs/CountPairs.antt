-- Lists of pairs: each member of a list with each member of another, once; and counts over them, taken apart.
-- What carries it: a count over pairs is a count over the first list for each member of the second (`count-pairs`).
use Prim.Native.Nat.{ℕ, ◌+◌}
use native.Mathlib.Omega.{arith}
use mathlib.Core.Path.{◌≡◌, refl, sym, ◌∙◌, ap, ap₂, subst}
use mathlib.Core.Logic.{inl, inr, ⊎_elim}
use mathlib.Core.Bool.{Bool, true, false, ◌&&◌, cond}
use mathlib.Core.List.{List, [], ◌∷◌, map}
use Rattle.action.specs.Lists.{Member, NoRepeats, select, count, total}
use Rattle.action.proofs.Lists.{member-append-left, member-append-right, of-member-append, no_repeats_append, member-map, of-member-map, no_repeats_map, count-append, count_map, count-false, total-count-swap}
use Rattle.momentum.specs.Counts.{pairs}

module _ {A B : Type 0} where
  pub member-pairs : (xs : List A) (ys : List B) (p : A × B) → Member p.0 xs → Member p.1 ys → Member p (pairs xs ys)
  unfolding pairs
  member-pairs [] ys p h k = absurd h
  member-pairs (x ∷ xs) ys p (inl e) k =
      member-append-left (map (λ y. (x, y)) ys) (pairs xs ys) p
      (subst (λ (a : A). Member {A = A × B} (a, p.1) (map (λ y. (x, y)) ys)) (sym e) (member-map (λ y. (x, y)) ys p.1 k))
  member-pairs (x ∷ xs) ys p (inr h) k = member-append-right (map (λ y. (x, y)) ys) (pairs xs ys) p (member-pairs xs ys p h k)

  pub of-member-pairs : (xs : List A) (ys : List B) (p : A × B) → Member p (pairs xs ys) → Member p.0 xs × Member p.1 ys
  unfolding pairs
  of-member-pairs [] ys p h = absurd h
  of-member-pairs (x ∷ xs) ys p h =
      ⊎_elim
      (λ m.
      let r : (y : B) × Member y ys × (p ≡ (x, y)) = of-member-map (λ y. (x, y)) ys p m in
      (inl (ap (λ (q : A × B). q.0) r.2), subst (λ (q : A × B). Member q.1 ys) (sym r.2) r.1))
      (λ m. let r : Member p.0 xs × Member p.1 ys = of-member-pairs xs ys p m in (inr r.0, r.1))
      (of-member-append (map (λ y. (x, y)) ys) (pairs xs ys) p h)

  pub no_repeats_pairs : (xs : List A) (ys : List B) → NoRepeats xs → NoRepeats ys → NoRepeats (pairs xs ys)
  unfolding pairs
  no_repeats_pairs [] ys u v = tt
  no_repeats_pairs (x ∷ xs) ys u v =
      no_repeats_append (map (λ y. (x, y)) ys) (pairs xs ys)
      (no_repeats_map (λ y. (x, y)) ys (λ a b h k e. ap (λ (q : A × B). q.1) e) v)
      (no_repeats_pairs xs ys u.1 v) apart
    where
      apart : (p : A × B) → Member p (map (λ y. (x, y)) ys) → Member p (pairs xs ys) → ⊥
      apart p m k =
          let r : (y : B) × Member y ys × (p ≡ (x, y)) = of-member-map (λ y. (x, y)) ys p m in
          u.0 (subst (λ (q : A × B). Member q.0 xs) r.2 (of-member-pairs xs ys p k).0)

  count-rows : (t : A × B → Bool) (xs : List A) (ys : List B) → count t (pairs xs ys) ≡ total (λ x. count (λ y. t (x, y)) ys) xs
  unfolding pairs total count
  count-rows t [] ys = refl
  count-rows t (x ∷ xs) ys =
      count-append t (map (λ y. (x, y)) ys) (pairs xs ys) ∙ ap₂ ◌+◌ (count_map t (λ y. (x, y)) ys) (count-rows t xs ys)

  pub count-pairs : (t : A × B → Bool) (xs : List A) (ys : List B) → count t (pairs xs ys) ≡ total (λ y. count (λ x. t (x, y)) xs) ys
  count-pairs t xs ys = count-rows t xs ys ∙ total-count-swap (λ x y. t (x, y)) xs ys

module _ {A : Type 0} where
  -- a condition that all members share
  pub count-both : (b : Bool) (t : A → Bool) (xs : List A) → count (λ a. b && t a) xs ≡ cond b (count t xs) 0
  count-both true t xs = refl
  count-both false t xs = count-false xs

  -- a sum over the members that pass a test
  pub total-select : (f : A → ℕ) (t : A → Bool) (xs : List A) → total f (select t xs) ≡ total (λ a. cond (t a) (f a) 0) xs
  unfolding total select
  total-select f t [] = refl
  total-select f t (a ∷ xs) = step (t a) (total-select f t xs)
    where
      step :
          (b : Bool) → total f (select t xs) ≡ total (λ a. cond (t a) (f a) 0) xs
          → total f (cond b (a ∷ select t xs) (select t xs)) ≡ cond b (f a) 0 + total (λ a. cond (t a) (f a) 0) xs
      step true e = ap (λ (n : ℕ). f a + n) e
      step false e = omega arith
