-- A list that writes generators, each its length and then its targets: what is left of it after one generator.
-- What carries it: a list has no more generators than places, so it does not matter how many more are looked for (`ends-enough`, `perms-enough`).
use Prim.Native.Nat.{ℕ, zero, suc, ◌+◌, ◌-◌, ◌≤◌, ◌<◌}
use mathlib.Core.Path.{◌≡◌, refl, sym, ap, ap₂, ◌∙◌}
use mathlib.Core.Bool.{Bool, true, false, cond, true≢false}
use mathlib.Core.List.{List, [], ◌∷◌}
use native.Mathlib.Nat.{le_refl, not-suc-le-zero}
use native.Mathlib.Numerals.{add-one}
use native.Mathlib.Omega.{arith}
use lib.Dec.{ltb}
use lib.ListN.{length, get_or, take, drop, length-drop, drop_of_length-le}
use lib.Seq.{drop-cons, drop-drop}
use borrow.Author.Tests.{lt-ltb, le-ltb, ltb-false}
use Rattle.permutation.specs.Generators.{ends_within, ends_inside, perms_within, perms_of}
use Rattle.outcome.specs.declared.Refusal.TheVariants as Refusal
use Rattle.outcome.specs.Outcome.{answer, refusal_of}
use Rattle.generators.specs.Parts.{scan_outcome}

drop_short : (n : ℕ) (l : List ℕ) (f : ℕ) → suc (length l) ≤ suc f → length (drop n l) ≤ f
drop_short n l f h = omega (arith, length-drop n l)

ends_enough : (f g : ℕ) (l : List ℕ) → length l ≤ f → length l ≤ g → ends_within f l ≡ ends_within g l
unfolding ends_within
ends_enough zero zero l h k = refl
ends_enough zero (suc g) [] h k = refl
ends_enough zero (suc g) (n ∷ l) h k = absurd (not-suc-le-zero h)
ends_enough (suc f) zero [] h k = refl
ends_enough (suc f) zero (n ∷ l) h k = absurd (not-suc-le-zero k)
ends_enough (suc f) (suc g) [] h k = refl
ends_enough (suc f) (suc g) (n ∷ l) h k =
    ap (cond (ltb (length l) n) true) (ends_enough f g (drop n l) (drop_short n l f h) (drop_short n l g k))

perms_enough : (f g : ℕ) (l : List ℕ) → length l ≤ f → length l ≤ g → perms_within f l ≡ perms_within g l
unfolding perms_within
perms_enough zero zero l h k = refl
perms_enough zero (suc g) [] h k = refl
perms_enough zero (suc g) (n ∷ l) h k = absurd (not-suc-le-zero h)
perms_enough (suc f) zero [] h k = refl
perms_enough (suc f) zero (n ∷ l) h k = absurd (not-suc-le-zero k)
perms_enough (suc f) (suc g) [] h k = refl
perms_enough (suc f) (suc g) (n ∷ l) h k =
    ap (λ (ps : List (List ℕ)). take n l ∷ ps) (perms_enough f g (drop n l) (drop_short n l f h) (drop_short n l g k))

pub ends_cons : (n : ℕ) (l : List ℕ) → ends_inside (n ∷ l) ≡ cond (ltb (length l) n) true (ends_inside (drop n l))
unfolding ends_inside
ends_cons n l =
    ap (cond (ltb (length l) n) true)
    (ends_enough (length l) (length (drop n l)) (drop n l) (drop_short n l (length l) (le_refl (suc (length l)))) (le_refl (length (drop n l))))

pub perms_cons : (n : ℕ) (l : List ℕ) → perms_of (n ∷ l) ≡ take n l ∷ perms_of (drop n l)
unfolding perms_of
perms_cons n l =
    ap (λ (ps : List (List ℕ)). take n l ∷ ps)
    (perms_enough (length l) (length (drop n l)) (drop n l) (drop_short n l (length l) (le_refl (suc (length l)))) (le_refl (length (drop n l))))

-- ---- the list from place `at` on, where a generator begins

module _ (list : List ℕ) (at : ℕ) where
  pub ends-none : length list ≤ at → ends_inside (drop at list) ≡ false
  unfolding ends_inside
  ends-none h = rw (drop_of_length-le list h)

  pub perms-none : length list ≤ at → perms_of (drop at list) ≡ []
  unfolding perms_of
  perms-none h = rw (drop_of_length-le list h)

  module _ (more : at < length list) where
    here : drop at list ≡ get_or list at 0 ∷ drop (at + 1) list
    here = rw add-one (drop-cons list at 0 more)

    after : drop (get_or list at 0) (drop (at + 1) list) ≡ drop (at + 1 + get_or list at 0) list
    after = drop-drop (get_or list at 0) (at + 1) list

    left : length (drop (at + 1) list) ≡ length list - at - 1
    left = omega (arith, length-drop (at + 1) list)

    ends-here : ends_inside (drop at list) ≡ cond (ltb (length list - at - 1) (get_or list at 0)) true (ends_inside (drop (at + 1 + get_or list at 0) list))
    ends-here =
        ap ends_inside here
        ∙ ends_cons (get_or list at 0) (drop (at + 1) list)
        ∙ ap₂ (λ (k : ℕ) (l : List ℕ). cond (ltb k (get_or list at 0)) true (ends_inside l)) left after

    pub ends-short : length list - at - 1 < get_or list at 0 → ends_inside (drop at list) ≡ true
    ends-short h = rw (ends-here, lt-ltb (length list - at - 1) (get_or list at 0) h)

    pub ends_next : get_or list at 0 ≤ length list - at - 1 → ends_inside (drop at list) ≡ ends_inside (drop (at + 1 + get_or list at 0) list)
    ends_next h = rw (ends-here, le-ltb (length list - at - 1) (get_or list at 0) h)

    -- a list that does not end inside a generator has all its targets
    pub ends-fits : ends_inside (drop at list) ≡ false → get_or list at 0 ≤ length list - at - 1
    ends-fits e = go (ltb (length list - at - 1) (get_or list at 0)) refl (sym ends-here ∙ e)
      where
        go : (b : Bool) → ltb (length list - at - 1) (get_or list at 0) ≡ b → cond b true (ends_inside (drop (at + 1 + get_or list at 0) list)) ≡ false
            → get_or list at 0 ≤ length list - at - 1
        go true t k = absurd (true≢false k)
        go false t k = ltb-false (length list - at - 1) (get_or list at 0) t

    pub perms-next : perms_of (drop at list) ≡ take (get_or list at 0) (drop (at + 1) list) ∷ perms_of (drop (at + 1 + get_or list at 0) list)
    perms-next =
        ap perms_of here
        ∙ perms_cons (get_or list at 0) (drop (at + 1) list)
        ∙ ap (λ (l : List ℕ). take (get_or list at 0) (drop (at + 1) list) ∷ perms_of l) after

-- ---- how many generators it writes

pub scan_ends : (list : List ℕ) → ends_inside list ≡ true → scan_outcome list ≡ refusal_of Refusal.ListEndsInside
unfolding scan_outcome
scan_ends list e = rw e

pub scan_counts : (list : List ℕ) (k : ℕ) → ends_inside list ≡ false → length (perms_of list) ≡ k → scan_outcome list ≡ answer k
unfolding scan_outcome
scan_counts list k e l = rw (e, l)
