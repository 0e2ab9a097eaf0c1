-- The table of a file's lines: how long it is, and that the table as it is read passes the tests exactly if it does, and is then the same.
use Prim.Native.Nat.{ℕ, ◌<◌}
use mathlib.Core.Path.{◌≡◌, sym, ap, ap₂, ◌∙◌}
use mathlib.Core.Bool.{true}
use mathlib.Core.List.{List, []}
use native.Mathlib.Omega.{arith}
use lib.Dec.{leb}
use lib.IntN.{pos, nat_abs}
use lib.ListN.{length, get_or, drop}
use borrow.Author.Tests.{leb-true, le-leb}
use Rattle.action.proofs.Lists.{bool_ext}
use Rattle.action.proofs.Below.{map-below-at, map-below-length, map-below-cong}
use Rattle.text.specs.Parts.{clamped}
use Rattle.text.proofs.Numbers.{clamped-same, clamped_large}
use Rattle.phases.specs.Rules.{turn, unit, table_of, cosine, sine, InRange, PhaseRange, passes}
use Rattle.phases.proofs.Tests.{passes_range}
use Rattle.phase_file.specs.File.{number_at, column, table_in}
use Rattle.phase_file.specs.Read.{column_read, table_read}

-- ---- the numbers of a column

module _ (i : ℕ) (lines : List (List ℕ)) where
  pub column-length : length (column i lines) ≡ turn
  unfolding column
  column-length = map-below-length (λ j. number_at i (get_or lines j [])) turn

  pub column-at : (j : ℕ) → j < turn → get_or (column i lines) j (pos 0) ≡ number_at i (get_or lines j [])
  unfolding column
  column-at j h = map-below-at (λ j. number_at i (get_or lines j [])) turn j (pos 0) h

  read_at : (j : ℕ) → j < turn → get_or (column_read i lines) j (pos 0) ≡ clamped (number_at i (get_or lines j []))
  unfolding column_read
  read_at j h = map-below-at (λ j. clamped (number_at i (get_or lines j []))) turn j (pos 0) h

  -- a column in its range is read as it is
  column-read : ((j : ℕ) → j < turn → InRange unit (get_or (column i lines) j (pos 0))) → column_read i lines ≡ column i lines
  unfolding column column_read
  column-read inside =
      map-below-cong (λ j. clamped (number_at i (get_or lines j []))) (λ j. number_at i (get_or lines j [])) turn (pos 0)
      (λ j h. clamped-same (number_at i (get_or lines j [])) (omega (arith, rw (column-at j h) at (inside j h))))

  -- and is in its range if it is read so
  number-range : ((j : ℕ) → j < turn → InRange unit (get_or (column_read i lines) j (pos 0)))
      → (j : ℕ) → j < turn → InRange unit (get_or (column i lines) j (pos 0))
  number-range inside j h =
      let z = number_at i (get_or lines j []) in
      let read : InRange unit (clamped z) = rw (read_at j h) at (inside j h) in
      let small : leb (nat_abs z) unit ≡ true = sym (clamped_large unit (omega arith) z) ∙ le-leb (nat_abs (clamped z)) unit read in
      rw (column-at j h) (leb-true (nat_abs z) unit small)

-- ---- the table

module _ (lines : List (List ℕ)) where
  same-table : PhaseRange (table_in lines) → table_read lines ≡ table_in lines
  unfolding cosine sine
  same-table range = ap₂ table_of (column-read 0 (drop 1 lines) range.cosines) (column-read 1 (drop 1 lines) range.sines)

  -- it is in range if it is read so
  read-range : PhaseRange (table_read lines) → PhaseRange (table_in lines)
  unfolding cosine sine
  read-range range = record {
    cosines = number-range 0 (drop 1 lines) range.cosines;
    sines = number-range 1 (drop 1 lines) range.sines;
  }

  pub read-passes : passes (table_read lines) ≡ passes (table_in lines)
  read-passes =
      bool_ext (passes (table_read lines)) (passes (table_in lines))
      (λ e. ap passes (sym (same-table (read-range (passes_range (table_read lines) e)))) ∙ e)
      (λ e. ap passes (same-table (passes_range (table_in lines) e)) ∙ e)

  pub read_same : passes (table_in lines) ≡ true → table_read lines ≡ table_in lines
  read_same e = same-table (passes_range (table_in lines) e)
