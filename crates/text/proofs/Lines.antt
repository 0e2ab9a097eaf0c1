-- Lines of a text, by where they begin and end; and the line of names that a text begins with: it is there and is these names, or is other names, or
-- is no line.
use Prim.Native.Nat.{ℕ, ◌+◌, ◌-◌, ◌<◌}
use mathlib.Core.Path.{◌≡◌, refl, sym, ap, ◌∙◌}
use mathlib.Core.Logic.{◌⊎◌, inl, inr}
use mathlib.Core.Bool.{Bool, true, false, cond}
use mathlib.Core.List.{List, ◌∷◌}
use native.Mathlib.Nat.{add_assoc, add-sub_cancel_left}
use native.Mathlib.Omega.{arith}
use lib.Dec.{eqb}
use lib.ListN.{length, take, drop}
use lib.Seq.{drop-drop}
use borrow.Author.Tests.{eqb-true, eqb-false, eq-eqb, ne_eqb}
use Rattle.action.specs.Lists.{same_numbers}
use Rattle.text.specs.Text.{line_end, before, pieces}
use Rattle.text.specs.Names.{names_read}
use Rattle.std.specs.Prelude.{Some, None}
use Rattle.text.proofs.Pieces.{before_short, pieces-next}

-- ---- slices

-- what `&text[0..k]` denotes
pub front-part : (k : ℕ) (text : List ℕ) → take (k - 0) text ≡ take k text
front-part k text = let e : k - 0 ≡ k = omega arith in ap (λ (j : ℕ). take j text) e

-- a line of r bytes from a place on, as `&text[at..at + r]`
pub line_slice : (text : List ℕ) (at r : ℕ) → take (at + r - at) (drop at text) ≡ take r (drop at text)
line_slice text at r = ap (λ (k : ℕ). take k (drop at text)) (add-sub_cancel_left at r)

-- what follows it
pub after_line : (text : List ℕ) (at r : ℕ) → drop (r + 1) (drop at text) ≡ drop (at + r + 1) text
after_line text at r = drop-drop (r + 1) at text ∙ ap (λ (k : ℕ). drop k text) (sym (add_assoc at r 1))

-- ---- what a look at the first line comes to

module _ (names text : List ℕ) (k : ℕ) (e : k ≡ length (before line_end text)) where
  read_at : names_read names text ≡ cond (eqb k (length text)) None (cond (same_numbers (take k text) names) (Some k) None)
  read_at = ap (λ (j : ℕ). cond (eqb j (length text)) None (cond (same_numbers (take j text) names) (Some j) None)) (sym e)

  pub names-missing : k ≡ length text → None ≡ names_read names text
  names-missing h =
      sym (read_at ∙ ap (λ (t : Bool). cond t None (cond (same_numbers (take k text) names) (Some k) None)) (eq-eqb k (length text) h))

  module _ (some : k ≡ length text → ⊥) where
    there : names_read names text ≡ cond (same_numbers (take k text) names) (Some k) None
    there =
        read_at ∙ ap (λ (t : Bool). cond t None (cond (same_numbers (take k text) names) (Some k) None)) (ne_eqb k (length text) some)

    pub names_same : same_numbers (take k text) names ≡ true → Some k ≡ names_read names text
    names_same s = sym (there ∙ ap (λ (t : Bool). cond t (Some k) None) s)

    pub names-differ : same_numbers (take k text) names ≡ false → None ≡ names_read names text
    names-differ s = sym (there ∙ ap (λ (t : Bool). cond t (Some k) None) s)

-- ---- a line that ends at k

pub record Ended (text : List ℕ) (k : ℕ) : Type 0 where
  pub place : k ≡ length (before line_end text)
  pub within : k < length text

pub ended : (text : List ℕ) (k : ℕ) → k ≡ length (before line_end text) → (k ≡ length text → ⊥) → Ended text k
ended text k e h = record { place = e; within = omega (arith, before_short line_end text) }

-- it is the first piece
pub ended-pieces : (text : List ℕ) (k : ℕ) → Ended text k → pieces line_end text ≡ take k text ∷ pieces line_end (drop (k + 1) text)
ended-pieces text k at = pieces-next line_end text k at.place at.within

-- ---- and back

pub names_ends : (names text : List ℕ) (a : ℕ) → names_read names text ≡ Some a → Ended text a × (same_numbers (take a text) names ≡ true)
names_ends names text a e =
    go (eqb (length (before line_end text)) (length text)) refl (same_numbers (take (length (before line_end text)) text) names) refl e
  where
    go : (s : Bool) → eqb (length (before line_end text)) (length text) ≡ s
        → (t : Bool) → same_numbers (take (length (before line_end text)) text) names ≡ t
        → cond s None (cond t (Some (length (before line_end text))) None) ≡ Some a
        → Ended text a × (same_numbers (take a text) names ≡ true)
    go true x t y f = let no : ◌≡◌ {A = ℕ} 0 1 = cc in absurd (omega arith)
    go false x false y f = let no : ◌≡◌ {A = ℕ} 0 1 = cc in absurd (omega arith)
    go false x true y f =
        let g : a ≡ length (before line_end text) = cc in
        (ended text a g (λ h. eqb-false (length (before line_end text)) (length text) x (sym g ∙ h)), ap (λ (j : ℕ). same_numbers (take j text) names) g ∙ y)

-- other names, or no line
pub names-other : (names text : List ℕ) → names_read names text ≡ None
    → (length (before line_end text) ≡ length text)
    ⊎ (Ended text (length (before line_end text)) × (same_numbers (take (length (before line_end text)) text) names ≡ false))
names-other names text e = go (eqb (length (before line_end text)) (length text)) refl (same_numbers (take (length (before line_end text)) text) names) refl e
  where
    go : (s : Bool) → eqb (length (before line_end text)) (length text) ≡ s
        → (t : Bool) → same_numbers (take (length (before line_end text)) text) names ≡ t
        → cond s None (cond t (Some (length (before line_end text))) None) ≡ None
        → (length (before line_end text) ≡ length text)
        ⊎ (Ended text (length (before line_end text)) × (same_numbers (take (length (before line_end text)) text) names ≡ false))
    go true x t y f = inl (eqb-true (length (before line_end text)) (length text) x)
    go false x true y f = let no : ◌≡◌ {A = ℕ} 0 1 = cc in absurd (omega arith)
    go false x false y f = inr (ended text _ refl (eqb-false (length (before line_end text)) (length text) x), y)
