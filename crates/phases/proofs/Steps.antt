-- The tests as the code makes them: one after the other, entry by entry, and on the numbers that a width stores.
use Prim.Native.Nat.{ℕ, ◌+◌, ◌≤◌, ◌<◌}
use native.Mathlib.Numerals.{add-one}
use native.Mathlib.Omega.{arith}
use mathlib.Core.Path.{◌≡◌, refl, sym, ap, subst, ◌∙◌}
use mathlib.Core.Bool.{Bool, true, false, not, ◌&&◌}
use lib.Dec.{eqb}
use lib.IntN.{ℤ}
use mir.Syntax.{Width, w64}
use mir.Val.{SFits, to_z, of_z}
use mir.ValLaws.{to_z-of_z}
use borrow.Author.Tests.{not-true, not-false, eqb-true, eq-eqb}
use Rattle.phases.specs.declared.PhaseTable.{PhaseTable}
use Rattle.phases.specs.Rules.{turn, unit, cosine, sine, PhaseRange, each_below, same_integer}
use Rattle.phases.proofs.Tests.{both, each_below_lem, same_equal, equal_same}
use Rattle.phases.proofs.Ranges.{Stands, computed_stands}

-- ---- a test of a, whose outcome r the code negates

pub failed : {r a : Bool} → r ≡ a → not r ≡ true → a ≡ false
failed {r} e t = sym e ∙ not-true r t

pub passed : {r a : Bool} → r ≡ a → not r ≡ false → a ≡ true
passed {r} e t = sym e ∙ not-false r t

-- and then of b, with the outcome s

pub first_fails : {r a : Bool} (b : Bool) → r ≡ a → not r ≡ true → false ≡ (a && b)
first_fails b e t = rw (failed e t) refl

pub second_decides : {r a s b : Bool} → r ≡ a → not r ≡ false → s ≡ b → s ≡ (a && b)
second_decides e t d = rw (passed e t) d

-- ---- a test at every number below n, from 0 on

-- none below j fails
pub record Passing (p : ℕ → Bool) (n j : ℕ) : Type 0 where
  pub inside : j ≤ n
  pub pass : each_below p j ≡ true

pub each_start : {p : ℕ → Bool} {n : ℕ} → Passing p n 0
unfolding each_below
each_start = record { inside = omega arith; pass = refl }

module _ {p : ℕ → Bool} {n j : ℕ} (w : Passing p n j) where
  -- j passes
  pub each_next : {r : Bool} → j < n → r ≡ p j → not r ≡ false → Passing p n (j + 1)
  unfolding each_below
  each_next h e t = record {
    inside = omega arith;
    pass = rw (add-one j) (both (p j) (each_below p j) (passed e t) w.pass);
  }

  -- j fails
  pub each-fails : {r : Bool} → j < n → r ≡ p j → not r ≡ true → false ≡ each_below p n
  each-fails h e t = go (each_below p n) refl
    where
      go : (b : Bool) → each_below p n ≡ b → false ≡ b
      go false d = refl
      go true d = sym (failed e t) ∙ each_below_lem p n d j h

  -- none is left
  pub each-passes : n ≤ j → true ≡ each_below p n
  each-passes h = sym (subst (λ (k : ℕ). each_below p k ≡ true) (omega arith) w.pass)

-- ---- numbers

-- two numbers are the same where what is stored is the same
pub same-stored : (w : Width) (a b : ℤ) → SFits w a → SFits w b → eqb (of_z w a) (of_z w b) ≡ same_integer a b
same-stored w a b f g = go (eqb (of_z w a) (of_z w b)) refl (same_integer a b) refl
  where
    go : (s : Bool) → eqb (of_z w a) (of_z w b) ≡ s → (t : Bool) → same_integer a b ≡ t → s ≡ t
    go true d true e = refl
    go false d false e = refl
    go true d false e = sym (equal_same a b (sym (to_z-of_z w a f) ∙ ap (to_z w) (eqb-true (of_z w a) (of_z w b) d) ∙ to_z-of_z w b g)) ∙ e
    go false d true e = sym d ∙ eq-eqb (of_z w a) (of_z w b) (ap (of_z w) (same_equal a b e))

-- the numbers of a table in its range
module _ (t : PhaseTable) (r : PhaseRange t) (j : ℕ) (h : j < turn) where
  pub cosine-stands : Stands w64 unit (cosine t j) (cosine t j)
  cosine-stands = computed_stands (omega arith) refl (r.cosines j h)

  pub sine-stands : Stands w64 unit (sine t j) (sine t j)
  sine-stands = computed_stands (omega arith) refl (r.sines j h)
