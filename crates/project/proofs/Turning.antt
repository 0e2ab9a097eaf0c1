-- One row turned: what a placement says of the word, where the phase stands in the table, and what the row adds.
use Prim.Native.Nat.{ℕ, ◌*◌, ◌/◌, ◌%◌, ◌≤◌, ◌<◌}
use mathlib.Core.Path.{◌≡◌, refl, sym, ap, ◌∙◌}
use mathlib.Core.Bool.{Bool, true, false, cond}
use mathlib.Core.List.{List}
use native.Mathlib.Nat.{mod-lt, le_of_dvd, dvd_of_mod-eq-zero}
use native.Mathlib.Omega.{arith}
use lib.IntN.{ℤ, pos, ◌*ℤ◌}
use lib.ListN.{get_or}
use Rattle.pauli_word.specs.Word.{Word}
use Rattle.pauli_word.specs.Bytes.{bytes_of}
use Rattle.action.specs.Permutation.{Generator}
use Rattle.action.specs.Index.{digits}
use Rattle.action.specs.Orbit.{index_back}
use Rattle.action.specs.Sector.{modulus, phases, numerator, keeps}
use Rattle.decisions.specs.declared.placement.Placement.{Placement}
use Rattle.decisions.specs.declared.placement.Placement.TheVariants as Placement
use Rattle.decisions.specs.Decisions.{kept, dropped, Row, decision, row_word}
use Rattle.decisions.specs.Placements.{placement_of, index_in}
use Rattle.decisions.proofs.Placing.{keeps-word}
use Rattle.phases.specs.Rules.{turn}
use Rattle.projection.specs.Projection.{entry_at, entry_of, turned, turned_row}
use Rattle.projection.proofs.Entries.{entry-below}

-- whether a placement is a kept one
is_kept : Placement → Bool
is_kept (Placement.Kept index size) = true
is_kept (Placement.Dropped index) = false

module _ (gs : List Generator) (ks : List ℤ) (w : Word) where
  placed-keeps : is_kept (placement_of (decision gs ks w)) ≡ keeps gs ks w
  unfolding decision is_kept
  placed-keeps = go (keeps gs ks w) _ _
    where
      go : (b : Bool) (r : Row) (i : ℕ) → is_kept (placement_of (cond b (kept r) (dropped i))) ≡ b
      go true r i = refl
      go false r i = refl

  pub kept-keeps : {i s : ℕ} {p : Placement} → p ≡ placement_of (decision gs ks w) → p ≡ Placement.Kept i s → keeps gs ks w ≡ true
  unfolding is_kept
  kept-keeps e f = sym placed-keeps ∙ ap is_kept (sym e ∙ f)

  pub dropped-drops : {i : ℕ} {p : Placement} → p ≡ placement_of (decision gs ks w) → p ≡ Placement.Dropped i → keeps gs ks w ≡ false
  unfolding is_kept
  dropped-drops e f = sym placed-keeps ∙ ap is_kept (sym e ∙ f)

  pub kept-index : {i s : ℕ} {p : Placement} → p ≡ placement_of (decision gs ks w) → p ≡ Placement.Kept i s → i ≡ index_back gs w
  unfolding decision
  kept-index e f = ap index_in (sym f ∙ e) ∙ rw (kept-keeps e f)

  pub kept_word : {b : List ℕ} (cosines sines : List ℤ) (c : ℤ) → keeps gs ks w ≡ true → b ≡ row_word (decision gs ks w)
      → b ≡ bytes_of (turned_row cosines sines gs ks (w, c)).0
  unfolding turned_row
  kept_word cosines sines c k e = e ∙ sym (keeps-word gs ks w k)

  -- where the phase stands
  module _ (i : ℕ) {n m : ℕ} (en : n ≡ numerator gs ks (digits gs i)) (em : m ≡ modulus gs) where
    pub numerator-small : 0 < modulus gs → turn % modulus gs ≡ 0 → n < turn
    unfolding numerator
    numerator-small above divides =
        let below : n < modulus gs = rw en (mod-lt (phases (modulus gs) gs ks (digits gs i)) above) in
        let few : modulus gs ≤ turn = le_of_dvd (omega arith) (dvd_of_mod-eq-zero (modulus gs) divides) in
        omega arith

    pub entry-inside : 0 < modulus gs → n * turn / m < turn
    unfolding entry_at
    entry-inside above = rw (en, em) (entry-below gs ks above i)

    module _ (cosines sines : List ℤ) (c : ℤ) (ei : i ≡ index_back gs w) where
      pub turned-cosine : c *ℤ get_or cosines (n * turn / m) (pos 0) ≡ (turned_row cosines sines gs ks (w, c)).1.0
      unfolding turned_row turned entry_of entry_at
      turned-cosine = rw (en, em, ei)

      pub turned-sine : c *ℤ get_or sines (n * turn / m) (pos 0) ≡ (turned_row cosines sines gs ks (w, c)).1.1
      unfolding turned_row turned entry_of entry_at
      turned-sine = rw (en, em, ei)
