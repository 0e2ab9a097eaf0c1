-- Members of lists, lists without repeats, and counting.
-- The fact that carries the counting: a list without repeats is no longer than a list that holds its members (`length-le`).
use Prim.Native.Nat.{ℕ, zero, suc, ◌+◌, ◌*◌, ◌≤◌, ◌<◌, suc-le-suc}
use native.Mathlib.Nat.{le_antisymm, eq-or-lt_of_le, le_of_suc-le-suc, not-suc-le-zero, suc-mul, zero-lt-suc}
use native.Mathlib.Omega.{arith}
use mathlib.Core.Path.{◌≡◌, refl, sym, ◌∙◌, ap, ap₂, subst}
use mathlib.Core.Logic.{◌⊎◌, inl, inr, ⊎_elim}
use mathlib.Core.Bool.{Bool, true, false, cond, false≢true, true≢false, and-eq-true_iff, ◌&&◌, and_assoc}
use mathlib.Core.List.{List, [], ◌∷◌, ◌++◌, map, head-eq_of_cons-eq, tail-eq_of_cons-eq}
use lib.Dec.{eqb}
use lib.ListN.{length, get_or, length-map}
use borrow.Author.Tests.{eqb-true, eq-eqb}
use Rattle.action.specs.Arithmetic.{product}
use Rattle.action.specs.Lists.{from, below, same_numbers, Member, select, count, every, first_of, total, prefixed, choices, NoRepeats}

-- tests that hold together are the same
pub bool_ext : (a b : Bool) → (a ≡ true → b ≡ true) → (b ≡ true → a ≡ true) → a ≡ b
bool_ext true b f g = sym (f refl)
bool_ext false true f g = g refl
bool_ext false false f g = refl

-- the numbers below n

pub member_from : (n a b : ℕ) → a ≤ b → b < a + n → Member b (from a n)
unfolding from
member_from zero a b l h = omega arith
member_from (suc n) a b l h = ⊎_elim (λ e. inl (sym e)) (λ k. inr (member_from n (suc a) b k (omega arith))) (eq-or-lt_of_le l)

pub of_member_from : (n a b : ℕ) → Member b (from a n) → (a ≤ b) × (b < a + n)
unfolding from
of_member_from zero a b h = absurd h
of_member_from (suc n) a b (inl e) = omega arith
of_member_from (suc n) a b (inr h) = let k : (suc a ≤ b) × (b < suc a + n) = of_member_from n (suc a) b h in omega arith

no_repeats_from : (n a : ℕ) → NoRepeats (from a n)
unfolding from
no_repeats_from zero a = tt
no_repeats_from (suc n) a = (λ h. let k : suc a ≤ a = (of_member_from n (suc a) a h).0 in omega arith, no_repeats_from n (suc a))

from_suc : (n a : ℕ) → from (suc a) n ≡ map suc (from a n)
unfolding from
from_suc zero a = refl
from_suc (suc n) a = ap (λ (l : List ℕ). suc a ∷ l) (from_suc n (suc a))

length_from : (n a : ℕ) → length (from a n) ≡ n
unfolding from
length_from zero a = refl
length_from (suc n) a = ap suc (length_from n (suc a))

pub member_below : (n b : ℕ) → b < n → Member b (below n)
unfolding below
member_below n b h = member_from n 0 b (omega arith) (omega arith)

pub of_member_below : (n b : ℕ) → Member b (below n) → b < n
unfolding below
of_member_below n b h = let k : b < 0 + n = (of_member_from n 0 b h).1 in omega arith

pub no_repeats_below : (n : ℕ) → NoRepeats (below n)
unfolding below
no_repeats_below n = no_repeats_from n 0

pub length-below : (n : ℕ) → length (below n) ≡ n
unfolding below
length-below n = length_from n 0

-- no number below n that passes a test is less than the first

first_from : (d : ℕ) (p : ℕ → Bool) (n a i : ℕ) → Member i (from a n) → p i ≡ true → first_of d p (from a n) ≤ i
unfolding from first_of
first_from d p zero a i h e = absurd h
first_from d p (suc n) a i h e = split (p a) refl h (λ m. first_from d p n (suc a) i m e)
  where
    split :
        (t : Bool) → p a ≡ t → Member i (a ∷ from (suc a) n) → (Member i (from (suc a) n) → first_of d p (from (suc a) n) ≤ i)
        → cond t a (first_of d p (from (suc a) n)) ≤ i
    split true q m later = (of_member_from (suc n) a i h).0
    split false q (inl k) later = absurd (false≢true (sym q ∙ ap p (sym k) ∙ e))
    split false q (inr m) later = later m

pub first_least : (d : ℕ) (p : ℕ → Bool) (n i : ℕ) → i < n → p i ≡ true → first_of d p (below n) ≤ i
unfolding below
first_least d p n i h e = first_from d p n 0 i (member_from n 0 i (omega arith) (omega arith)) e

-- lists of numbers that are the same

pub same_numbers_eq : (xs ys : List ℕ) → same_numbers xs ys ≡ true → xs ≡ ys
unfolding same_numbers
same_numbers_eq [] [] h = refl
same_numbers_eq [] (y ∷ ys) h = absurd (false≢true h)
same_numbers_eq (x ∷ xs) [] h = absurd (false≢true h)
same_numbers_eq (x ∷ xs) (y ∷ ys) h =
    let p = (and-eq-true_iff (eqb x y) (same_numbers xs ys)).0 h in
    ap₂ ◌∷◌ (eqb-true x y p.0) (same_numbers_eq xs ys p.1)

pub same_numbers_refl : (xs : List ℕ) → same_numbers xs xs ≡ true
unfolding same_numbers
same_numbers_refl [] = refl
same_numbers_refl (x ∷ xs) = (and-eq-true_iff (eqb x x) (same_numbers xs xs)).1 (eq-eqb x x refl, same_numbers_refl xs)

-- a member stands at a place, and what stands at a place is a member
pub member_at : {A : Type 0} (xs : List A) (d : A) (g : ℕ) → g < length xs → Member (get_or xs g d) xs
member_at [] d g l = absurd (not-suc-le-zero l)
member_at (x ∷ xs) d zero l = inl refl
member_at (x ∷ xs) d (suc g) l = inr (member_at xs d g (le_of_suc-le-suc l))

pub of_member_at : {A : Type 0} (xs : List A) (d a : A) → Member a xs → (g : ℕ) × (g < length xs) × (a ≡ get_or xs g d)
of_member_at [] d a m = absurd m
of_member_at (x ∷ xs) d a (inl e) = (0, zero-lt-suc (length xs), e)
of_member_at (x ∷ xs) d a (inr m) = let (g, l, e) = of_member_at xs d a m in (suc g, suc-le-suc l, e)

module _ {A : Type 0} where
  pub member-append-left : (xs ys : List A) (a : A) → Member a xs → Member a (xs ++ ys)
  member-append-left [] ys a h = absurd h
  member-append-left (b ∷ xs) ys a (inl e) = inl e
  member-append-left (b ∷ xs) ys a (inr h) = inr (member-append-left xs ys a h)

  pub member-append-right : (xs ys : List A) (a : A) → Member a ys → Member a (xs ++ ys)
  member-append-right [] ys a h = h
  member-append-right (b ∷ xs) ys a h = inr (member-append-right xs ys a h)

  pub of-member-append : (xs ys : List A) (a : A) → Member a (xs ++ ys) → Member a xs ⊎ Member a ys
  of-member-append [] ys a h = inr h
  of-member-append (b ∷ xs) ys a (inl e) = inl (inl e)
  of-member-append (b ∷ xs) ys a (inr h) = ⊎_elim (λ k. inl (inr k)) (λ k. inr k) (of-member-append xs ys a h)

  pub no_repeats_append :
      (xs ys : List A) → NoRepeats xs → NoRepeats ys
      → ((a : A) → Member a xs → Member a ys → ⊥) → NoRepeats (xs ++ ys)
  no_repeats_append [] ys u v apart = v
  no_repeats_append (b ∷ xs) ys u v apart =
      (λ h. ⊎_elim u.0 (apart b (inl refl)) (of-member-append xs ys b h), no_repeats_append xs ys u.1 v (λ a h. apart a (inr h)))

  -- tests

  pub every-intro : (p : A → Bool) (xs : List A) → ((a : A) → Member a xs → p a ≡ true) → every p xs ≡ true
  unfolding every
  every-intro p [] h = refl
  every-intro p (a ∷ xs) h = (and-eq-true_iff (p a) (every p xs)).1 (h a (inl refl), every-intro p xs (λ b k. h b (inr k)))

  pub every_append : (p : A → Bool) (xs ys : List A) → every p (xs ++ ys) ≡ (every p xs && every p ys)
  unfolding every
  every_append p [] ys = refl
  every_append p (a ∷ xs) ys = ap (λ (t : Bool). p a && t) (every_append p xs ys) ∙ sym (and_assoc (p a) (every p xs) (every p ys))

  pub every-elim : (p : A → Bool) (xs : List A) → every p xs ≡ true → (a : A) → Member a xs → p a ≡ true
  unfolding every
  every-elim p [] e a h = absurd h
  every-elim p (b ∷ xs) e a (inl k) = ap p k ∙ ((and-eq-true_iff (p b) (every p xs)).0 e).0
  every-elim p (b ∷ xs) e a (inr h) = every-elim p xs ((and-eq-true_iff (p b) (every p xs)).0 e).1 a h

  -- not every member passes: one fails
  pub every-false : (p : A → Bool) (xs : List A) → every p xs ≡ false → (a : A) × Member a xs × (p a ≡ false)
  unfolding every
  every-false p [] e = absurd (true≢false e)
  every-false p (a ∷ xs) e = split (p a) refl e (every-false p xs)
    where
      split :
          (t : Bool) → p a ≡ t → (t && every p xs) ≡ false → (every p xs ≡ false → (b : A) × Member b xs × (p b ≡ false))
          → (b : A) × Member b (a ∷ xs) × (p b ≡ false)
      split true q e later = let r : (b : A) × Member b xs × (p b ≡ false) = later e in (r.0, inr r.1, r.2)
      split false q e later = (a, inl refl, q)

  -- one member passes: so does the first
  pub first_passes : (d : A) (p : A → Bool) (xs : List A) (a : A) → Member a xs → p a ≡ true → p (first_of d p xs) ≡ true
  unfolding first_of
  first_passes d p [] a h e = absurd h
  first_passes d p (b ∷ xs) a h e = split (p b) refl h (λ m. first_passes d p xs a m e)
    where
      split :
          (t : Bool) → p b ≡ t → Member a (b ∷ xs) → (Member a xs → p (first_of d p xs) ≡ true) → p (cond t b (first_of d p xs)) ≡ true
      split true q m later = q
      split false q (inl k) later = absurd (false≢true (sym q ∙ ap p (sym k) ∙ e))
      split false q (inr m) later = later m

  pub member-select : (p : A → Bool) (xs : List A) (a : A) → Member a xs → p a ≡ true → Member a (select p xs)
  unfolding select
  member-select p [] a h e = absurd h
  member-select p (b ∷ xs) a (inl k) e = rw (sym (ap p k) ∙ e) (inl k)
  member-select p (b ∷ xs) a (inr h) e = skip (p b) (member-select p xs a h e)
    where
      skip : (t : Bool) → Member a (select p xs) → Member a (cond t (b ∷ select p xs) (select p xs))
      skip true m = inr m
      skip false m = m

  pub of-member-select : (p : A → Bool) (xs : List A) (a : A) → Member a (select p xs) → Member a xs × (p a ≡ true)
  unfolding select
  of-member-select p [] a h = absurd h
  of-member-select p (b ∷ xs) a h =
      split (p b) refl (λ m. let k : Member a xs × (p a ≡ true) = of-member-select p xs a m in (inr k.0, k.1)) h
    where
      split :
          (t : Bool) → p b ≡ t → (Member a (select p xs) → Member a (b ∷ xs) × (p a ≡ true))
          → Member a (cond t (b ∷ select p xs) (select p xs)) → Member a (b ∷ xs) × (p a ≡ true)
      split true e later (inl k) = (inl k, ap p k ∙ e)
      split true e later (inr m) = later m
      split false e later m = later m

  pub no_repeats_select : (p : A → Bool) (xs : List A) → NoRepeats xs → NoRepeats (select p xs)
  unfolding select
  no_repeats_select p [] u = tt
  no_repeats_select p (a ∷ xs) u = keep (p a) (λ m. u.0 (of-member-select p xs a m).0) (no_repeats_select p xs u.1)
    where
      keep : (t : Bool) → (Member a (select p xs) → ⊥) → NoRepeats (select p xs) → NoRepeats (cond t (a ∷ select p xs) (select p xs))
      keep true n v = (n, v)
      keep false n v = v

  -- sums and counts

  pub total-cong : (f g : A → ℕ) (xs : List A) → ((a : A) → Member a xs → f a ≡ g a) → total f xs ≡ total g xs
  unfolding total
  total-cong f g [] h = refl
  total-cong f g (a ∷ xs) h = ap₂ ◌+◌ (h a (inl refl)) (total-cong f g xs (λ b k. h b (inr k)))

  pub total-add : (f g : A → ℕ) (xs : List A) → total (λ a. f a + g a) xs ≡ total f xs + total g xs
  unfolding total
  total-add f g [] = refl
  total-add f g (a ∷ xs) = omega (arith, total-add f g xs)

  pub total-mul : (c : ℕ) (f : A → ℕ) (xs : List A) → total (λ a. f a * c) xs ≡ total f xs * c
  unfolding total
  total-mul c f [] = omega arith
  total-mul c f (a ∷ xs) = omega (arith, total-mul c f xs)

  pub total-const : (c : ℕ) (xs : List A) → total (λ a. c) xs ≡ length xs * c
  unfolding total
  total-const c [] = omega arith
  total-const c (a ∷ xs) = omega (arith, total-const c xs)

  pub total-le : (f g : A → ℕ) (xs : List A) → ((a : A) → Member a xs → f a ≤ g a) → total f xs ≤ total g xs
  unfolding total
  total-le f g [] h = omega arith
  total-le f g (a ∷ xs) h = omega (arith, h a (inl refl), total-le f g xs (λ b m. h b (inr m)))

  pub total-within : (f : A → ℕ) (c : ℕ) (xs : List A) → ((a : A) → Member a xs → f a ≤ c) → total f xs ≤ length xs * c
  unfolding total
  total-within f c [] h = omega arith
  total-within f c (a ∷ xs) h =
      let here = h a (inl refl) in
      let later = total-within f c xs (λ b m. h b (inr m)) in
      omega (arith, suc-mul (length xs) c)

  pub total-append : (f : A → ℕ) (xs ys : List A) → total f (xs ++ ys) ≡ total f xs + total f ys
  unfolding total
  total-append f [] ys = omega arith
  total-append f (a ∷ xs) ys = omega (arith, total-append f xs ys)

  pub count-total : (p : A → Bool) (xs : List A) → count p xs ≡ total (λ a. cond (p a) 1 0) xs
  unfolding count total
  count-total p [] = refl
  count-total p (a ∷ xs) = ap (λ (n : ℕ). cond (p a) 1 0 + n) (count-total p xs)

  pub count-select : (p : A → Bool) (xs : List A) → count p xs ≡ length (select p xs)
  unfolding count select
  count-select p [] = refl
  count-select p (a ∷ xs) = step (p a) (count-select p xs)
    where
      step : (t : Bool) → count p xs ≡ length (select p xs) → cond t 1 0 + count p xs ≡ length (cond t (a ∷ select p xs) (select p xs))
      step true e = omega arith
      step false e = omega arith

  pub count-cong : (p q : A → Bool) (xs : List A) → ((a : A) → Member a xs → p a ≡ q a) → count p xs ≡ count q xs
  count-cong p q xs h = simp count-total (total-cong _ _ xs (λ a k. ap (λ (t : Bool). cond t 1 0) (h a k)))

  pub count-true : (xs : List A) → count (λ a. true) xs ≡ length xs
  count-true xs = rw count-total (total-const 1 xs ∙ omega arith)

  pub count-false : (xs : List A) → count (λ a. false) xs ≡ 0
  count-false xs = rw count-total (total-const 0 xs ∙ omega arith)

  pub count-append : (p : A → Bool) (xs ys : List A) → count p (xs ++ ys) ≡ count p xs + count p ys
  count-append p xs ys = simp (count-total, total-append)

  -- a count is positive exactly if a member passes
  pub count-pos : (p : A → Bool) (xs : List A) (a : A) → Member a xs → p a ≡ true → 0 < count p xs
  unfolding count
  count-pos p [] a h e = absurd h
  count-pos p (b ∷ xs) a (inl k) e = rw (sym (ap p k) ∙ e) (omega arith)
  count-pos p (b ∷ xs) a (inr h) e = let k : 0 < count p xs = count-pos p xs a h e in omega arith

  pub of-count-pos : (p : A → Bool) (xs : List A) → 0 < count p xs → (a : A) × Member a xs × (p a ≡ true)
  unfolding count
  of-count-pos p [] h = absurd (not-suc-le-zero h)
  of-count-pos p (a ∷ xs) h = split (p a) refl h (of-count-pos p xs)
    where
      split :
          (t : Bool) → p a ≡ t → 0 < cond t 1 0 + count p xs → (0 < count p xs → (b : A) × Member b xs × (p b ≡ true))
          → (b : A) × Member b (a ∷ xs) × (p b ≡ true)
      split true e k later = (a, inl refl, e)
      split false e k later = let r : (b : A) × Member b xs × (p b ≡ true) = later (omega arith) in (r.0, inr r.1, r.2)

module _ {A B : Type 0} where
  pub total-map : (f : B → ℕ) (g : A → B) (xs : List A) → total f (map g xs) ≡ total (λ a. f (g a)) xs
  unfolding total
  total-map f g [] = refl
  total-map f g (a ∷ xs) = ap (λ (n : ℕ). f (g a) + n) (total-map f g xs)

  pub count_map : (p : B → Bool) (g : A → B) (xs : List A) → count p (map g xs) ≡ count (λ a. p (g a)) xs
  count_map p g xs = simp (count-total, total-map)

  -- the sum over the pairs, by rows and by columns
  pub total-swap : (f : A → B → ℕ) (xs : List A) (ys : List B) → total (λ a. total (f a) ys) xs ≡ total (λ b. total (λ a. f a b) xs) ys
  unfolding total
  total-swap f [] ys = sym (total-const 0 ys ∙ omega arith)
  total-swap f (a ∷ xs) ys = ap (λ (n : ℕ). total (f a) ys + n) (total-swap f xs ys) ∙ sym (total-add (f a) (λ b. total (λ c. f c b) xs) ys)

  pub total-count-swap :
      (r : A → B → Bool) (xs : List A) (ys : List B)
      → total (λ a. count (r a) ys) xs ≡ total (λ b. count (λ a. r a b) xs) ys
  total-count-swap r xs ys = simp count-total (total-swap (λ a b. cond (r a b) 1 0) xs ys)

  pub member-map : (f : A → B) (xs : List A) (a : A) → Member a xs → Member (f a) (map f xs)
  member-map f [] a h = absurd h
  member-map f (b ∷ xs) a (inl e) = inl (ap f e)
  member-map f (b ∷ xs) a (inr h) = inr (member-map f xs a h)

  pub of-member-map : (f : A → B) (xs : List A) (b : B) → Member b (map f xs) → (a : A) × Member a xs × (b ≡ f a)
  of-member-map f [] b h = absurd h
  of-member-map f (a ∷ xs) b (inl e) = (a, inl refl, e)
  of-member-map f (a ∷ xs) b (inr h) = let k : (c : A) × Member c xs × (b ≡ f c) = of-member-map f xs b h in (k.0, inr k.1, k.2)

  pub no_repeats_map :
      (f : A → B) (xs : List A) → ((a b : A) → Member a xs → Member b xs → f a ≡ f b → a ≡ b)
      → NoRepeats xs → NoRepeats (map f xs)
  no_repeats_map f [] inj u = tt
  no_repeats_map f (a ∷ xs) inj u = (fresh, no_repeats_map f xs (λ b c h k. inj b c (inr h) (inr k)) u.1)
    where
      fresh : Member (f a) (map f xs) → ⊥
      fresh h =
          let k : (c : A) × Member c xs × (f a ≡ f c) = of-member-map f xs (f a) h in
          u.0 (rw (inj a k.0 (inl refl) (inr k.1) k.2) k.1)

module _ {A : Type 0} where
  -- counting by places is counting by members
  pub count-places : (p : A → Bool) (d : A) (xs : List A) → count (λ q. p (get_or xs q d)) (below (length xs)) ≡ count p xs
  unfolding count below from
  count-places p d [] = refl
  count-places p d (a ∷ xs) =
      ap (λ (n : ℕ). cond (p a) 1 0 + n)
      (ap (count (λ q. p (get_or (a ∷ xs) q d))) (from_suc (length xs) 0)
      ∙ count_map (λ q. p (get_or (a ∷ xs) q d)) suc (below (length xs))
      ∙ count-places p d xs)

  -- ys without the member at one place
  without : (a : A) (ys : List A) → Member a ys → List A
  without a [] h = []
  without a (b ∷ ys) (inl e) = ys
  without a (b ∷ ys) (inr h) = b ∷ without a ys h

  length_without : (a : A) (ys : List A) (h : Member a ys) → length ys ≡ suc (length (without a ys h))
  unfolding without
  length_without a [] h = absurd h
  length_without a (b ∷ ys) (inl e) = refl
  length_without a (b ∷ ys) (inr h) = ap suc (length_without a ys h)

  member-without : (a : A) (ys : List A) (h : Member a ys) (b : A) → (b ≡ a → ⊥) → Member b ys → Member b (without a ys h)
  unfolding without
  member-without a [] h b n k = k
  member-without a (c ∷ ys) (inl e) b n (inl k) = absurd (n (k ∙ sym e))
  member-without a (c ∷ ys) (inl e) b n (inr k) = k
  member-without a (c ∷ ys) (inr h) b n (inl k) = inl k
  member-without a (c ∷ ys) (inr h) b n (inr k) = inr (member-without a ys h b n k)

  -- a list without repeats has at most as many members as a list that holds them all
  pub length-le : (xs ys : List A) → NoRepeats xs → ((a : A) → Member a xs → Member a ys) → length xs ≤ length ys
  length-le [] ys u held = omega arith
  length-le (a ∷ xs) ys u held =
      omega (arith, length_without a ys (held a (inl refl)), length-le xs (without a ys (held a (inl refl))) u.1 rest)
    where
      rest : (b : A) → Member b xs → Member b (without a ys (held a (inl refl)))
      rest b k = member-without a ys (held a (inl refl)) b (λ e. u.0 (subst (λ (c : A). Member c xs) e k)) (held b (inr k))

module _ {A B : Type 0} where
  -- f takes the members of xs that pass p to different members of ys that pass q
  count-le :
      (xs : List A) (ys : List B) (p : A → Bool) (q : B → Bool) (f : A → B) (g : B → A) → NoRepeats xs
      → ((a : A) → Member a xs → p a ≡ true → Member (f a) ys × (q (f a) ≡ true) × (g (f a) ≡ a))
      → count p xs ≤ count q ys
  count-le xs ys p q f g u h =
      let l : length (map f (select p xs)) ≤ length (select q ys) = length-le (map f (select p xs)) (select q ys) apart into in
      omega (arith, length-map (select p xs) f, count-select p xs, count-select q ys)
    where
      image : (a : A) → Member a (select p xs) → Member (f a) ys × (q (f a) ≡ true) × (g (f a) ≡ a)
      image a m = let k : Member a xs × (p a ≡ true) = of-member-select p xs a m in h a k.0 k.1

      into : (b : B) → Member b (map f (select p xs)) → Member b (select q ys)
      into b m =
          let k : (a : A) × Member a (select p xs) × (b ≡ f a) = of-member-map f (select p xs) b m in
          rw k.2 (member-select q ys (f k.0) (image k.0 k.1).0 (image k.0 k.1).1)

      apart : NoRepeats (map f (select p xs))
      apart =
          no_repeats_map f (select p xs) (λ a b m n e. sym (image a m).2 ∙ ap g e ∙ (image b n).2) (no_repeats_select p xs u)

-- as many members of xs pass p as members of ys pass q, if f and g take the ones to the others and undo one another there
pub count_bijection :
    {A B : Type 0} (xs : List A) (ys : List B) (p : A → Bool) (q : B → Bool) (f : A → B) (g : B → A) → NoRepeats xs → NoRepeats ys
    → ((a : A) → Member a xs → p a ≡ true → Member (f a) ys × (q (f a) ≡ true) × (g (f a) ≡ a))
    → ((b : B) → Member b ys → q b ≡ true → Member (g b) xs × (p (g b) ≡ true) × (f (g b) ≡ b))
    → count p xs ≡ count q ys
count_bijection xs ys p q f g u v h k = le_antisymm (count-le xs ys p q f g u h) (count-le ys xs q p g f v k)

module _ {A : Type 0} where
  -- t has the length of cs, and each member of t is a member of the choice at its place
  abbrev pub Chosen : List A → List (List A) → Type 0
  Chosen [] [] = Unit {0}
  Chosen [] (c ∷ cs) = ⊥
  Chosen (a ∷ t) [] = ⊥
  Chosen (a ∷ t) (c ∷ cs) = Member a c × Chosen t cs

  member-prefixed : (c : List A) (ts : List (List A)) (a : A) (t : List A) → Member a c → Member t ts → Member (a ∷ t) (prefixed c ts)
  unfolding prefixed
  member-prefixed [] ts a t h k = absurd h
  member-prefixed (b ∷ c) ts a t (inl e) k =
      member-append-left (map (λ s. b ∷ s) ts) (prefixed c ts) (a ∷ t)
      (rw e (member-map (λ s. b ∷ s) ts t k))
  member-prefixed (b ∷ c) ts a t (inr h) k =
      member-append-right (map (λ s. b ∷ s) ts) (prefixed c ts) (a ∷ t) (member-prefixed c ts a t h k)

  of-member-prefixed :
      (c : List A) (ts : List (List A)) (s : List A) → Member s (prefixed c ts)
      → (a : A) × (t : List A) × Member a c × Member t ts × (s ≡ a ∷ t)
  unfolding prefixed
  of-member-prefixed [] ts s h = absurd h
  of-member-prefixed (b ∷ c) ts s h =
      ⊎_elim
      (λ k. let r : (t : List A) × Member t ts × (s ≡ b ∷ t) = of-member-map (λ t. b ∷ t) ts s k in (b, r.0, inl refl, r.1, r.2))
      (λ k.
      let r : (a : A) × (t : List A) × Member a c × Member t ts × (s ≡ a ∷ t) = of-member-prefixed c ts s k in
      (r.0, r.1, inr r.2, r.3, r.4))
      (of-member-append (map (λ t. b ∷ t) ts) (prefixed c ts) s h)

  pub member-choices : (cs : List (List A)) (t : List A) → Chosen t cs → Member t (choices cs)
  unfolding choices
  member-choices [] [] h = inl refl
  member-choices [] (a ∷ t) h = absurd h
  member-choices (c ∷ cs) [] h = absurd h
  member-choices (c ∷ cs) (a ∷ t) h = member-prefixed c (choices cs) a t h.0 (member-choices cs t h.1)

  pub of-member-choices : (cs : List (List A)) (t : List A) → Member t (choices cs) → Chosen t cs
  unfolding choices
  of-member-choices [] t (inl e) = subst (λ (s : List A). Chosen s []) (sym e) tt
  of-member-choices [] t (inr h) = absurd h
  of-member-choices (c ∷ cs) t h =
      let r : (a : A) × (s : List A) × Member a c × Member s (choices cs) × (t ≡ a ∷ s) = of-member-prefixed c (choices cs) t h in
      subst (λ (s : List A). Chosen s (c ∷ cs)) (sym r.4) (r.2, of-member-choices cs r.1 r.3)

  no_repeats_prefixed : (c : List A) (ts : List (List A)) → NoRepeats c → NoRepeats ts → NoRepeats (prefixed c ts)
  unfolding prefixed
  no_repeats_prefixed [] ts u v = tt
  no_repeats_prefixed (a ∷ c) ts u v =
      no_repeats_append (map (λ t. a ∷ t) ts) (prefixed c ts)
      (no_repeats_map (λ t. a ∷ t) ts (λ s t m n e. tail-eq_of_cons-eq e) v)
      (no_repeats_prefixed c ts u.1 v) apart
    where
      apart : (s : List A) → Member s (map (λ t. a ∷ t) ts) → Member s (prefixed c ts) → ⊥
      apart s m n =
          let r : (t : List A) × Member t ts × (s ≡ a ∷ t) = of-member-map (λ t. a ∷ t) ts s m in
          let k : (b : A) × (t : List A) × Member b c × Member t ts × (s ≡ b ∷ t) = of-member-prefixed c ts s n in
          u.0 (subst (λ (b : A). Member b c) (head-eq_of_cons-eq (sym k.4 ∙ r.2)) k.2)

  pub no_repeats_choices : (cs : List (List A)) → ((c : List A) → Member c cs → NoRepeats c) → NoRepeats (choices cs)
  unfolding choices
  no_repeats_choices [] u = (λ h. h, tt)
  no_repeats_choices (c ∷ cs) u = no_repeats_prefixed c (choices cs) (u c (inl refl)) (no_repeats_choices cs (λ d h. u d (inr h)))

  -- what passes among the lists with a member of c in front: a count for each member of c
  pub count-prefixed :
      (p : List A → Bool) (c : List A) (ts : List (List A))
      → count p (prefixed c ts) ≡ total (λ a. count (λ t. p (a ∷ t)) ts) c
  unfolding prefixed total count
  count-prefixed p [] ts = refl
  count-prefixed p (a ∷ c) ts =
      count-append p (map (λ t. a ∷ t) ts) (prefixed c ts)
      ∙ ap₂ ◌+◌ (count_map p (λ t. a ∷ t) ts) (count-prefixed p c ts)

  length-prefixed : (c : List A) (ts : List (List A)) → length (prefixed c ts) ≡ length c * length ts
  length-prefixed c ts =
      sym (count-true (prefixed c ts))
      ∙ count-prefixed (λ t. true) c ts
      ∙ total-const (count (λ t. true) ts) c
      ∙ ap (λ (n : ℕ). length c * n) (count-true ts)

  pub length-choices : (cs : List (List A)) → length (choices cs) ≡ product (map length cs)
  unfolding choices product
  length-choices [] = refl
  length-choices (c ∷ cs) = length-prefixed c (choices cs) ∙ ap (λ (n : ℕ). length c * n) (length-choices cs)
