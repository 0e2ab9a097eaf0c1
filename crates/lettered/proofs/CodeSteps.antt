-- The walk's step on codes, generator by generator: the codes at hand are those of a word from which what is left of the step goes on.
use Prim.Native.Nat.{ℕ, ◌+◌, ◌-◌, ◌*◌, ◌/◌, ◌%◌, ◌≤◌, ◌<◌}
use mathlib.Core.Path.{◌≡◌, refl, sym, ap, ◌∙◌}
use mathlib.Core.List.{List}
use lib.ListN.{get_or, take, drop}
use Rattle.pauli_word.specs.Limits.{max_sites}
use Rattle.pauli_word.specs.Word.{Word}
use Rattle.action.specs.Permutation.{Generator}
use Rattle.action.specs.Index.{digits}
use Rattle.action.specs.Orbit.{move, stepped}
use Rattle.permutation.specs.Generators.{row_at}
use Rattle.elements.specs.HeldGroup.{generators_in, Tables}
use Rattle.elements.specs.Letters.{codes}
use Rattle.elements.proofs.Steps.{stepped-stays, stepped-rolls, stepped-end, row-part}

-- codes at hand, from which what is left of a step from a word with codes `before` goes on: the generators gs by the digits of rest
abbrev pub Going : List Generator → ℕ → List ℕ → List Generator → ℕ → List ℕ → Type 0
Going all index before gs rest here =
    (w : Word) → before ≡ codes w → (v : Word) × (here ≡ codes v) × (stepped all (digits all index) w ≡ stepped gs (digits gs rest) v)

-- at first the whole step is left
pub going_start : (gs : List Generator) (index : ℕ) (before : List ℕ) → Going gs index before gs index before
going_start gs index before w e = (w, e, refl)

module _ {k n : ℕ} {targets orders : List ℕ} (t : Tables k n targets orders) (index : ℕ) (before : List ℕ) (g rest : ℕ) (here : List ℕ)
    (going : Going (generators_in k n targets orders) index before (drop g (generators_in k n targets orders)) rest here) where
  -- the codes moved by generator g
  module _ (h : g < k) {next : List ℕ}
      (moves : (v : Word) → here ≡ codes v → next ≡ codes (move (take (max_sites * g + n - max_sites * g) (drop (max_sites * g) targets)) v)) where
    moved : (v : Word) → here ≡ codes v → next ≡ codes (move (row_at n targets g) v)
    moved v e = moves v e ∙ ap (λ (p : List ℕ). codes (move p v)) (row-part n g targets)

    -- its digit does not roll over: the step is done
    pub going-last : (rest % get_or orders g 0 + 1 ≡ get_or orders g 0 → ⊥) → (w : Word) → before ≡ codes w
        → next ≡ codes (stepped (generators_in k n targets orders) (digits (generators_in k n targets orders) index) w)
    going-last d w e =
        let (v, ev, es) = going w e in
        moved v ev ∙ ap codes (sym (es ∙ stepped-stays t g rest v h d))

    -- its digit rolls over: the step goes on
    pub going_on : rest % get_or orders g 0 + 1 ≡ get_or orders g 0
        → Going (generators_in k n targets orders) index before (drop (g + 1) (generators_in k n targets orders)) (rest / get_or orders g 0) next
    going_on d w e =
        let (v, ev, es) = going w e in
        (move (row_at n targets g) v, moved v ev, es ∙ stepped-rolls t g rest v h d)

  -- past the last generator nothing is left
  pub going_end : k ≤ g → (w : Word) → before ≡ codes w
      → here ≡ codes (stepped (generators_in k n targets orders) (digits (generators_in k n targets orders) index) w)
  going_end h w e =
      let (v, ev, es) = going w e in
      ev ∙ ap codes (sym (es ∙ stepped-end t g rest v h))
