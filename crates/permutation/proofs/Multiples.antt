-- The common multiple of lengths, one after the other, and whether it fits 32 bits.
-- What carries it: the multiple of the first lengths divides the multiple of all.
use Prim.Native.Nat.{ℕ, ◌+◌, ◌≤◌, ◌<◌, ◌∣◌}
use mathlib.Core.Path.{◌≡◌, refl, ap, ◌∙◌}
use mathlib.Core.Logic.{inl, ⊎_elim}
use mathlib.Core.List.{List, [], ◌∷◌, ◌++◌}
use native.Mathlib.Nat.{dvd_antisymm, dvd_trans, le_of_dvd, le_trans, pos_of_dvd_of_pos}
use native.Mathlib.Numerals.{add-one}
use lib.ListN.{length, get_or, take, drop, take-append-drop}
use lib.Seq.{take-suc}
use borrow.Author.Tests.{lt-ltb, le-ltb}
use Rattle.outcome.specs.declared.Refusal.TheVariants as Refusal
use Rattle.outcome.specs.Outcome.{answer, refusal_of}
use Rattle.action.specs.Arithmetic.{lcm, lcm_all}
use Rattle.action.specs.Lists.{Member}
use Rattle.action.proofs.Lists.{member-append-left, member-append-right, of-member-append}
use Rattle.action.proofs.Arithmetic.{lcm-left, lcm-right, lcm_divides, lcm_all_member, lcm_all_divides, lcm_all-positive}
use Rattle.permutation.specs.Limits.{max_declared}
use Rattle.permutation.specs.Lengths.{multiple_outcome}

-- the multiple of some is a divisor of the multiple of more
multiple_grows : (xs ys : List ℕ) → lcm_all xs ∣ lcm_all (xs ++ ys)
multiple_grows xs ys = lcm_all_divides xs (lcm_all (xs ++ ys)) (λ a m. lcm_all_member a (xs ++ ys) (member-append-left xs ys a m))

multiple_last : (xs : List ℕ) (l : ℕ) → lcm_all (xs ++ (l ∷ [])) ≡ lcm (lcm_all xs) l
multiple_last xs l =
    dvd_antisymm
    (lcm_all_divides (xs ++ (l ∷ [])) (lcm (lcm_all xs) l) (λ a m. ⊎_elim (first a) (last a) (of-member-append xs (l ∷ []) a m)))
    (lcm_divides (lcm_all xs) l (lcm_all (xs ++ (l ∷ []))) (multiple_grows xs (l ∷ []))
    (lcm_all_member l (xs ++ (l ∷ [])) (member-append-right xs (l ∷ []) l (inl refl))))
  where
    first : (a : ℕ) → Member a xs → a ∣ lcm (lcm_all xs) l
    first a m = dvd_trans a (lcm_all_member a xs m) (lcm-left (lcm_all xs) l)

    last : (a : ℕ) → Member a (l ∷ []) → a ∣ lcm (lcm_all xs) l
    last a m = ⊎_elim (λ e. rw e (lcm-right (lcm_all xs) l)) (λ k. absurd k) m

-- the multiple of the first lengths, and one more
pub multiple-next : (ls : List ℕ) (i : ℕ) → i < length ls → lcm_all (take (i + 1) ls) ≡ lcm (lcm_all (take i ls)) (get_or ls i 0)
multiple-next ls i h =
    ap (λ (k : ℕ). lcm_all (take k ls)) (add-one i) ∙ ap lcm_all (take-suc ls i 0 h) ∙ multiple_last (take i ls) (get_or ls i 0)

-- the multiple of the first lengths divides that of all
first_divides : (ls : List ℕ) (i : ℕ) → lcm_all (take i ls) ∣ lcm_all ls
first_divides ls i = rw (take-append-drop i ls) at (multiple_grows (take i ls) (drop i ls))

pub multiple-positive : (ls : List ℕ) → ((l : ℕ) → Member l ls → 0 < l) → (i : ℕ) → 0 < lcm_all (take i ls)
multiple-positive ls positive i = pos_of_dvd_of_pos (first_divides ls i) (lcm_all-positive ls positive)

pub multiple-overflow :
    (g : ℕ) (ls : List ℕ) → ((l : ℕ) → Member l ls → 0 < l) → (i : ℕ) → max_declared < lcm_all (take i ls)
    → multiple_outcome g ls ≡ refusal_of (Refusal.PermutationOrderOverflow g)
unfolding multiple_outcome
multiple-overflow g ls positive i over =
    simp (lt-ltb max_declared (lcm_all ls) (le_trans over (le_of_dvd (lcm_all-positive ls positive) (first_divides ls i))))

pub multiple_fits : (g : ℕ) (ls : List ℕ) → lcm_all ls ≤ max_declared → multiple_outcome g ls ≡ answer (lcm_all ls)
unfolding multiple_outcome
multiple_fits g ls h = simp (le-ltb max_declared (lcm_all ls) h)
