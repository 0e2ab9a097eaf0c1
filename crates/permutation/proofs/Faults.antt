-- The faults of a list of targets, target by target: what the check comes to at a target, given the targets that passed before it.
-- What carries the search: a target is marked exactly if it is among those that passed.
use Prim.Native.Nat.{ℕ, suc, ◌≤◌, ◌<◌}
use mathlib.Core.Path.{◌≡◌, refl, ◌∙◌}
use mathlib.Core.Bool.{Bool, true, false, ◌||◌, not, cond}
use mathlib.Core.List.{List, [], ◌∷◌}
use native.Mathlib.Decide.{ℕ_discrete}
use native.Mathlib.Omega.{arith}
use lib.Dec.{eqb}
use lib.ListN.{length, get_or, drop, set, replicate, get_or-replicate, drop_of_length-le}
use lib.Seq.{drop-cons, get_or-set_same, get_or-set_other}
use borrow.Author.Tests.{le-leb, lt-leb, eq-eqb, ne_eqb}
use Rattle.outcome.specs.declared.Refusal.TheVariants as Refusal
use Rattle.outcome.specs.Outcome.{Check}
use Rattle.permutation.specs.Generators.{among, targets_check, fine, broke}

-- whether a rule is not broken
abbrev pub unbroken : Check → Bool
unbroken check = not check.broken

-- the check from target q on
module _ (n i : ℕ) (passed perm : List ℕ) (q : ℕ) where
  pub fault-none : length perm ≤ q → targets_check n i passed (drop q perm) ≡ fine
  unfolding targets_check
  fault-none h = rw (drop_of_length-le perm h)

  module _ (more : q < length perm) where
    pub fault-outside : n ≤ get_or perm q 0 → targets_check n i passed (drop q perm) ≡ broke (Refusal.TargetOutOfRange i (get_or perm q 0))
    unfolding targets_check
    fault-outside h = rw (drop-cons perm q 0 more, le-leb n (get_or perm q 0) h)

    pub fault-again :
        get_or perm q 0 < n → among (get_or perm q 0) passed ≡ true
        → targets_check n i passed (drop q perm) ≡ broke (Refusal.DuplicateTarget i (get_or perm q 0))
    unfolding targets_check
    fault-again h e = rw (drop-cons perm q 0 more, lt-leb n (get_or perm q 0) h, e)

    pub fault-next :
        get_or perm q 0 < n → among (get_or perm q 0) passed ≡ false
        → targets_check n i passed (drop q perm) ≡ targets_check n i (get_or perm q 0 ∷ passed) (drop (suc q) perm)
    unfolding targets_check
    fault-next h e = rw (drop-cons perm q 0 more, lt-leb n (get_or perm q 0) h, e)

-- below n, what is marked by 1 is what is among the targets that passed, and the other marks are 0
abbrev pub Marks : ℕ → List ℕ → List ℕ → Type 0
Marks n seen passed = (t : ℕ) → t < n → get_or seen t 0 ≡ cond (among t passed) 1 0

pub marks_none : (n k : ℕ) → n ≤ k → Marks n (replicate k 0) []
unfolding among
marks_none n k h t l = get_or-replicate k t 0 0 (omega arith)

pub marks_next : (n : ℕ) (seen passed : List ℕ) (t : ℕ) → t < length seen → Marks n seen passed → Marks n (set seen t 1) (t ∷ passed)
unfolding among
marks_next n seen passed t h m u l = go (ℕ_discrete u t)
  where
    go : Dec (u ≡ t) → get_or (set seen t 1) u 0 ≡ cond (eqb u t || among u passed) 1 0
    go (yes e) = rw (e, eq-eqb t t refl) (get_or-set_same seen t 1 0 h)
    go (no d) = rw (ne_eqb u t d) (get_or-set_other seen t u 1 0 d ∙ m u l)

-- a mark tells what it stands for
pub mark_told : (x : ℕ) (b : Bool) → x ≡ cond b 1 0 → (x ≡ 1 → b ≡ true) × ((x ≡ 1 → ⊥) → b ≡ false)
mark_told x true m = (λ e. refl, λ d. absurd (d m))
mark_told x false m = (λ e. absurd (omega arith), λ d. refl)

module _ (n : ℕ) (seen passed : List ℕ) (marks : Marks n seen passed) (t : ℕ) (h : t < n) where
  pub marked-among : get_or seen t 0 ≡ 1 → among t passed ≡ true
  marked-among = (mark_told (get_or seen t 0) (among t passed) (marks t h)).0

  pub unmarked-among : (get_or seen t 0 ≡ 1 → ⊥) → among t passed ≡ false
  unmarked-among = (mark_told (get_or seen t 0) (among t passed) (marks t h)).1
