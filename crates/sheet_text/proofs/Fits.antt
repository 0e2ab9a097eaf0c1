-- A list of `maxTable` bytes suffices for what any sheet prints: an accepted sheet prints at most four bytes for each of its own, and the names; a refused
-- one prints one short line.
use Prim.Native.Nat.{ℕ, suc, ◌+◌, ◌*◌, ◌≤◌}
use mathlib.Core.Path.{◌≡◌, refl, sym, ap, ◌∙◌}
use mathlib.Core.Bool.{Bool, true, false, cond}
use mathlib.Core.List.{List, [], ◌∷◌, ◌++◌}
use native.Mathlib.Omega.{arith}
use lib.Dec.{eqb}
use lib.ListN.{length, length-append}
use borrow.Author.Tests.{ltb-false}
use Rattle.outcome.specs.Outcome.{Outcome, refused, answer, verdict, given}
use Rattle.action.specs.Permutation.{Generator, Valid}
use Rattle.action.specs.Index.{order_of}
use Rattle.permutation.specs.Limits.{max_order}
use Rattle.outcome.proofs.Outcomes.{verdict-fine, verdict-append, refused_apart}
use Rattle.group.specs.Value.{generators_of}
use Rattle.group.proofs.Accepted.{accepted_tables}
use Rattle.text.specs.Text.{line_end, pieces, decimal, extended, wide_digits, space}
use Rattle.text.proofs.Pieces.{pieces-some}
use Rattle.sheet_lines.specs.Lines.{shape_names, word_names, names_line, modes_of, line_shape, line_sites, shape_checks, value_checks, body_checks, third_checks, second_checks, line_checks}
use Rattle.sheet_rows.specs.Rows.{joined, line_row, spread}
use Rattle.sheet_text.specs.Sheet.{table_names, sheet_size, max_sheet, max_table, rows, line_generators, table, sheet_outcome, printed, sheet}
use Rattle.sheet_lines.specs.Parts.{line_group}
use Rattle.sheet_rows.proofs.Widths.{line_row_short}
use Rattle.sheet_text.proofs.Bodies.{given-passes, pass_any}
use Rattle.sheet_text.proofs.Groups.{line-stands, line-sites}
use Rattle.text.proofs.Decimals.{decimal_most}
use Rattle.pauli_word.specs.Limits.{max_sites}

-- ---- a refused sheet

refusal_short : (k : ℕ) (vs : List ℕ) → length (printed (refused k vs)) ≤ 2 * wide_digits + 10
unfolding joined
refusal_short k [] = omega (arith, length-append (decimal k) (line_end ∷ []), decimal_most k)
refusal_short k (l ∷ vs) =
    omega (
      arith,
      length-append (decimal k) (space ∷ (decimal l ++ (line_end ∷ []))),
      length-append (decimal l) (line_end ∷ []),
      decimal_most k,
      decimal_most l,
    )

-- ---- the bytes of pieces, each with what parts it from the next

span : List (List ℕ) → ℕ
span [] = 0
span (p ∷ ps) = length p + 1 + span ps

pieces-span : (c : ℕ) (text : List ℕ) → span (pieces c text) ≡ length text + 1
unfolding pieces span
pieces-span c [] = refl
pieces-span c (b ∷ bs) = go (eqb b c) (pieces-some c bs) (pieces-span c bs)
  where
    go : (t : Bool) → (p : List ℕ) × (ps : List (List ℕ)) × (pieces c bs ≡ p ∷ ps) → span (pieces c bs) ≡ length bs + 1
        → span (cond t ([] ∷ pieces c bs) (extended b (pieces c bs))) ≡ suc (length bs) + 1
    go true s e = omega arith
    go false (p, ps, s) e = rw s (omega (arith, sym (ap span s) ∙ e))

-- ---- the rows

module _ {n : ℕ} {gs : List Generator} (valid : Valid n gs) (small : order_of gs ≤ max_order) (few : n ≤ max_sites) (used : ℕ) where
  rows_short : (ps : List (List ℕ)) (k : ℕ) → verdict (body_checks used n ps k) ≡ answer tt → length (rows used gs ps) ≤ spread * span ps
  unfolding rows body_checks span
  rows_short [] k fine = omega arith
  rows_short (last ∷ []) k fine = omega arith
  rows_short (line ∷ more ∷ rest) k fine =
      let (one, later) =
      given-passes _ _ (sym (verdict-append (value_checks used n line k) (body_checks used n (more ∷ rest) (suc k))) ∙ fine)
      in
      omega (
        arith,
        length-append (line_row used gs line) (rows used gs (more ∷ rest)),
        line_row_short valid small few used line (pass_any used n k line one),
        rows_short (more ∷ rest) (suc k) later,
      )

-- ---- the table

module _ (line : List ℕ) (fine : verdict (shape_checks line 2) ≡ answer tt) where
  line-valid : Valid (line_sites line) (line_generators line) × (order_of (line_generators line) ≤ max_order) × (line_sites line ≤ max_sites)
  unfolding generators_of
  line-valid =
      let (ok, means, count) = line-stands line 2 fine in
      let t = accepted_tables (line_group line) ok in
      let sites = line-sites line 2 fine in
      rw (← means, ← sites) (t.valid, t.small, t.sites)

-- fewer than four pieces have no rows
no_rows : (m : ℕ) (gs : List Generator) → length (rows m gs []) ≡ 0
unfolding rows
no_rows m gs = refl

table_short : (ps : List (List ℕ)) → verdict (line_checks ps) ≡ answer tt → length (table ps) ≤ length table_names + 1 + spread * span ps
unfolding line_checks second_checks third_checks table span
table_short [] fine = omega (arith, no_rows (modes_of (line_shape [])) (line_generators []))
table_short (l ∷ []) fine = absurd (refused_apart _ _ tt fine)
table_short (l ∷ m ∷ []) fine = omega (arith, no_rows (modes_of (line_shape m)) (line_generators m))
table_short (l ∷ m ∷ o ∷ []) fine = omega (arith, no_rows (modes_of (line_shape m)) (line_generators m))
table_short (l ∷ m ∷ o ∷ p ∷ rest) fine =
    let used : ℕ = modes_of (line_shape m) in
    let (first, second) = verdict-fine (names_line shape_names l 1) (second_checks (m ∷ o ∷ p ∷ rest)) fine in
    let (shape, third) =
    given-passes _ _ (sym (verdict-append (shape_checks m 2) (third_checks used (line_sites m) (o ∷ p ∷ rest))) ∙ second)
    in
    let (names, body) = verdict-fine (names_line word_names o 3) (body_checks used (line_sites m) (p ∷ rest) 4) third in
    let (valid, small, few) = line-valid m shape in
    omega (arith, rows_short valid small few used (p ∷ rest) 4 body)

-- what any sheet prints
pub sheet_fits : (input : List ℕ) → length (sheet input) ≤ max_table
unfolding sheet sheet_outcome
sheet_fits input = go (verdict (sheet_size input ∷ line_checks (pieces line_end input))) refl
  where
    go : (v : Outcome (Unit {0})) → verdict (sheet_size input ∷ line_checks (pieces line_end input)) ≡ v
        → length (printed (given v (answer (table (pieces line_end input))))) ≤ max_table
    go (refused k vs) e = omega (arith, refusal_short k vs)
    go (answer tt) e =
        let (size, fine) = verdict-fine (sheet_size input) (line_checks (pieces line_end input)) e in
        omega (arith, table_short (pieces line_end input) fine, pieces-span line_end input, ltb-false max_sheet (length input) size)
