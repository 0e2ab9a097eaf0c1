-- The modes of a part, one generator after the other: those that are written and those that are chosen of what is left are those that are chosen.
use Prim.Native.Nat.{ℕ, suc, ◌+◌, ◌≤◌, ◌<◌}
use mathlib.Core.Path.{◌≡◌, refl, sym, ap, ◌∙◌}
use mathlib.Core.Bool.{cond}
use mathlib.Core.List.{List, [], ◌∷◌, ◌++◌, append_assoc, append-nil}
use native.Mathlib.Numerals.{add-one}
use native.Mathlib.Omega.{arith}
use borrow.Author.Tests.{eq-eqb, ne_eqb}
use lib.Dec.{eqb}
use lib.IntN.{ℤ, pos}
use lib.ListN.{length, get_or, set, take, drop, drop_of_length-le}
use lib.Seq.{drop-cons, take-suc-set}
use Rattle.parts.specs.Labels.{chosen}

module _ (labels : List ℕ) (modes : List ℤ) (part : ℕ) where
  -- of the modes that are chosen, those from generator g on
  abbrev left : ℕ → List ℤ
  left g = chosen (λ l. eqb l part) (drop g labels) (drop g modes)

  -- the first k places hold those of the generators before g
  pub record ModesTaken (g k : ℕ) (own : List ℤ) : Type 0 where
    pub few : k ≤ g
    pub taken : take k own ++ left g ≡ chosen (λ l. eqb l part) labels modes

  pub modes-none : (own : List ℤ) → ModesTaken 0 0 own
  modes-none own = record { few = omega arith; taken = refl }

  module _ (same : length modes ≡ length labels) where
    left_at : (g : ℕ) → g < length labels → left g ≡ cond (eqb (get_or labels g 0) part) (get_or modes g (pos 0) ∷ left (suc g)) (left (suc g))
    unfolding chosen
    left_at g h = rw (drop-cons labels g 0 h, drop-cons modes g (pos 0) (omega arith))

    -- one more
    pub modes-next : {g k : ℕ} {own : List ℤ} → ModesTaken g k own → g < length labels → k < length own → get_or labels g 0 ≡ part → (z : ℤ)
        → z ≡ get_or modes g (pos 0) → ModesTaken (g + 1) (k + 1) (set own k z)
    modes-next {g} {k} {own} t h room here z e = record {
      few = omega (arith, t.few);
      taken =
          rw (add-one k, add-one g, take-suc-set own k z room, append_assoc, e)
          (ap (λ (r : List ℤ). take k own ++ r) (sym (left_at g h ∙ rw (eq-eqb (get_or labels g 0) part here))) ∙ t.taken);
    }

    pub modes-skip : {g k : ℕ} {own : List ℤ} → ModesTaken g k own → g < length labels → (get_or labels g 0 ≡ part → ⊥) → ModesTaken (g + 1) k own
    modes-skip {g} {k} {own} t h other = record {
      few = omega (arith, t.few);
      taken =
          rw (add-one g)
          (ap (λ (r : List ℤ). take k own ++ r) (sym (left_at g h ∙ rw (ne_eqb (get_or labels g 0) part other))) ∙ t.taken);
    }

    -- after the last they are all
    pub modes-all : {g k : ℕ} {own : List ℤ} → ModesTaken g k own → length labels ≤ g → take k own ≡ chosen (λ l. eqb l part) labels modes
    unfolding chosen
    modes-all {g} {k} {own} t h =
        sym (append-nil (take k own)) ∙ ap (λ (r : List ℤ). take k own ++ r) (sym (none (drop_of_length-le labels {i = g} h))) ∙ t.taken
      where
        none : drop g labels ≡ [] → left g ≡ []
        none d = rw d
