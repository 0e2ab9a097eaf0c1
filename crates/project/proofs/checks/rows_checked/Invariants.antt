-- `checks::rows_checked` meets its contract. The loop's invariant: the rows come to what those from row i on come to.
use Prim.Native.Nat.{◌-◌, ◌≤◌}
use mathlib.Core.Path.{◌≡◌, refl, sym, ap, ◌∙◌}
use native.Mathlib.Omega.{arith}
use lib.IntN.{pos}
use lib.ListN.{length, drop}
use borrow.Author.Rules.{rules}
use Rattle.outcome.specs.Outcome.{outcome_of, verdict}
use Rattle.row_lists.specs.Rows.{rows_in, in_full_by}
use Rattle.row_lists.specs.Checks.{row_checks}
use Rattle.project.specs.Calls.{out_of_range}
use Rattle.row_lists.proofs.ListChecks.{checks-refused, checks-pass, checks-end}
use Rattle.project.proofs.checks.rows_checked.Given as goal

abbrev pub invariant-loop-i : goal.invariant-loop-i
invariant-loop-i l =
    let rows = rows_in (in_full_by l.size (length l.coefficients) l.words) l.coefficients in
    (l.i ≤ length l.coefficients) × (verdict (row_checks out_of_range l.sites 0 rows) ≡ verdict (row_checks out_of_range l.sites l.i (drop l.i rows)))
