-- What a decision comes to, by whether the modes keep the word.
use Prim.Native.Nat.{ℕ, ◌%◌, ◌<◌}
use native.Mathlib.Nat.{mod-eq_of_lt, mod_self}
use native.Mathlib.Omega.{arith}
use mathlib.Core.Path.{◌≡◌, refl, sym, ◌∙◌, ap}
use mathlib.Core.Logic.{◌↔◌, ⊎_elim}
use mathlib.Core.Bool.{Bool, true, false, cond}
use mathlib.Core.List.{List, []}
use lib.ListN.{length}
use lib.IntN.{ℤ}
use borrow.Author.Tests.{eqb-true}
use Rattle.pauli_word.specs.Word.{Word}
use Rattle.pauli_word.specs.Limits.{plane_length, word_length}
use Rattle.pauli_word.specs.Bytes.{number, plane_of, encode, bytes_of}
use Rattle.pauli_word.proofs.Words.{encode-length}
use Rattle.action.specs.Permutation.{Generator}
use Rattle.action.specs.Index.{order_of, digits}
use Rattle.action.specs.Orbit.{least, index_back, fixes, orbit_size}
use Rattle.action.specs.Sector.{numerator, trivial, keeps, breaks, dropped_by, Drops}
use Rattle.action.proofs.Dropped.{some-breaks, breaks-elim, unbroken-intro, dropped-is, drops-exactly}
use Rattle.packed.proofs.Shifts.{below_or_not}
use Rattle.rotation.proofs.XPlane.{trivial-zero}
use Rattle.paths.specs.Paths.{ByStep}
use Rattle.row_lists.specs.Rows.{no_word}
use Rattle.decisions.specs.declared.placement.Placement.TheVariants as Placement
use Rattle.decisions.specs.Decisions.{Decision, kept, dropped, Row, decision, row_word, row_index, row_orbit}
use Rattle.decisions.specs.Placements.{placement_of, index_in, size_in}

-- by whether the modes keep the word
dropped_by_lem : (b : Bool) (r : Row) (i j : ℕ) → cond b (kept r) (dropped i) ≡ dropped j → (b ≡ false) × (i ≡ j)
dropped_by_lem true r i j e = let z : ◌≡◌ {A = ℕ} 0 1 = cc in absurd (omega arith)
dropped_by_lem false r i j e = (refl, cc)

module _ (gs : List Generator) (ks : List ℤ) (w : Word) where
  -- kept, with the index back, and the orbit size
  pub keeps_placed : keeps gs ks w ≡ true → {j s : ℕ} → j ≡ index_back gs w → s ≡ orbit_size gs w → Placement.Kept j s ≡ placement_of (decision gs ks w)
  unfolding decision
  keeps_placed k h size = rw (k, h, size)

  pub keeps-word : keeps gs ks w ≡ true → bytes_of (least gs w) ≡ row_word (decision gs ks w)
  unfolding decision
  keeps-word k = rw k

  -- dropped, by the smallest index that breaks the word
  pub drops-placed : keeps gs ks w ≡ false → {i : ℕ} → dropped_by gs ks w ≡ i → Placement.Dropped i ≡ placement_of (decision gs ks w)
  unfolding decision
  drops-placed k h = rw (k, h)

  pub drops-word : keeps gs ks w ≡ false → no_word ≡ row_word (decision gs ks w)
  unfolding decision
  drops-word k = rw k

  -- by an index exactly if that index drops the word
  pub decision-drops : (i : ℕ) → (decision gs ks w ≡ dropped i) ↔ Drops gs ks w i
  unfolding decision
  decision-drops i = (
    λ e. (drops-exactly gs w ks i).1 (dropped_by_lem (keeps gs ks w) _ (dropped_by gs ks w) i e),
    λ h. let (e, same) = (drops-exactly gs w ks i).0 h in rw (e, same),
  )

  -- where the multiples of a step fix the word, and the step's numerator is not 0, by the step
  module _ {step : ℕ} (by : ByStep step gs w) where
    -- no index below it fixes the word, but 0
    below_step : (i : ℕ) → i < order_of gs → i < step → fixes gs w i ≡ true → numerator gs ks (digits gs i) ≡ 0
    unfolding trivial
    below_step i inside less f =
        let zero : i ≡ 0 = sym (mod-eq_of_lt less) ∙ eqb-true (i % step) 0 (sym (by.multiples i inside) ∙ f) in
        ap (λ (j : ℕ). numerator gs ks (digits gs j)) zero ∙ eqb-true (numerator gs ks (digits gs 0)) 0 (trivial-zero gs ks)

    pub step-drops : trivial gs ks step ≡ false → dropped_by gs ks w ≡ step
    unfolding breaks
    step-drops t =
        let (i, inside, b) = some-breaks gs ks w (by.kept ks ∙ t) in
        let (f, n) = breaks-elim gs ks w i b in
        let within : step < order_of gs = ⊎_elim (λ h. absurd (n (below_step i inside h f))) (λ h. omega (arith, h, inside)) (below_or_not i step) in
        dropped-is gs ks w step within (rw (by.multiples step within, mod_self step, t))
        (λ j h. unbroken-intro gs ks w j (below_step j (omega (arith, h, within)) h))

-- ---- the row of a decision

-- the letters that a row is written by: none for a dropped one
abbrev pub written_letters : Decision Row → Word
written_letters (kept r) = r.word
written_letters (dropped i) = []

-- a row's bytes are those of its letters
pub row-bytes : (d : Decision Row) → row_word d ≡ bytes_of (written_letters d)
unfolding encode plane_of number
row-bytes (kept r) = refl
row-bytes (dropped i) = refl

pub row_long : (d : Decision Row) → length (row_word d) ≡ word_length
row_long d = ap length (row-bytes d) ∙ encode-length plane_length (written_letters d)

-- the index and the orbit size of a decision by its numbers
pub placed-index : (d : Decision Row) → index_in (placement_of d) ≡ row_index d
placed-index (kept r) = refl
placed-index (dropped i) = refl

pub placed-orbit : (d : Decision Row) → size_in (placement_of d) ≡ row_orbit d
placed-orbit (kept r) = refl
placed-orbit (dropped i) = refl
