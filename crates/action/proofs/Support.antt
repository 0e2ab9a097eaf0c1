-- The weight of a word is the number of sites of its support.
-- What carries it: counting by places is counting by members (`count-places` of Lists).
use Prim.Native.Nat.{ℕ, ◌+◌, ◌<◌}
use mathlib.Core.Path.{◌≡◌, refl, sym, ◌∙◌, ap, ap₂}
use mathlib.Core.Logic.{◌↔◌}
use mathlib.Core.Bool.{Bool, true, false, not, cond, false≢true}
use mathlib.Core.List.{[], ◌∷◌}
use lib.ListN.{length, get_or}
use Rattle.pauli_word.specs.Word.{Letter, I, X, Y, Z, Word, bit, same_letter, weight}
use Rattle.action.specs.Lists.{below, count, Member, NoRepeats}
use Rattle.action.specs.Support.{support}
use Rattle.action.proofs.Lists.{member_below, of_member_below, no_repeats_below, member-select, of-member-select, no_repeats_select, count-select, count-places}

-- the test of `support`
abbrev other : Letter → Bool
other a = not (same_letter a I)

other_elim : (a : Letter) → other a ≡ true → a ≡ I → ⊥
other_elim a h e = false≢true (sym (ap other e) ∙ h)

other_intro : (a : Letter) → (a ≡ I → ⊥) → other a ≡ true
other_intro I h = absurd (h refl)
other_intro X h = refl
other_intro Y h = refl
other_intro Z h = refl

bit-cond : (b : Bool) → bit b ≡ cond b 1 0
bit-cond true = refl
bit-cond false = refl

weight-count : (w : Word) → weight w ≡ count other w
unfolding weight count
weight-count [] = refl
weight-count (a ∷ w) = ap₂ ◌+◌ (bit-cond (other a)) (weight-count w)

pub weight-support : (w : Word) → weight w ≡ length (support w)
unfolding support
weight-support w = weight-count w ∙ sym (count-places other I w) ∙ count-select (λ q. other (get_or w q I)) (below (length w))

pub support_all : (w : Word) (q : ℕ) → Member q (support w) ↔ ((q < length w) × (get_or w q I ≡ I → ⊥))
unfolding support
support_all w q = (
  λ m. let (site, h) = of-member-select (λ p. other (get_or w p I)) (below (length w)) q m in (of_member_below (length w) q site, other_elim (get_or w q I) h),
  λ h. member-select (λ p. other (get_or w p I)) (below (length w)) q (member_below (length w) q h.0) (other_intro (get_or w q I) h.1),
)

pub support-once : (w : Word) → NoRepeats (support w)
unfolding support
support-once w = no_repeats_select (λ q. other (get_or w q I)) (below (length w)) (no_repeats_below (length w))
