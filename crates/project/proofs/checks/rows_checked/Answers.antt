use Rattle.outcome.proofs.Outcomes.{handed_on}
use Prim.Native.Nat.{◌-◌, ◌≤◌}
use mathlib.Core.Path.{◌≡◌, refl, sym, ap, ◌∙◌}
use native.Mathlib.Omega.{arith}
use lib.IntN.{pos}
use lib.ListN.{length, drop}
use borrow.Author.Rules.{rules}
use Rattle.outcome.specs.Outcome.{outcome_of, verdict}
use Rattle.row_lists.specs.Rows.{rows_in, in_full_by}
use Rattle.row_lists.specs.Checks.{row_checks}
use Rattle.project.specs.Calls.{out_of_range}
use Rattle.row_lists.proofs.ListChecks.{checks-refused, checks-pass, checks-end}
use Rattle.project.proofs.checks.rows_checked.Goals as goal

pub loop-i-init : goal.loop-i-init
loop-i-init c = (omega arith, refl)

pub row_checked-requires : goal.row_checked-requires
row_checked-requires c = record {
  either_length = c.requires;
  i_in_bounds = c.loop-i-test.true;
}

pub returns-in_err-row_checked : goal.returns-in_err-row_checked
returns-in_err-row_checked c =
    ap outcome_of (handed_on c.from_residual.result c.from_residual.ensures.1)
    ∙ (sym
    (c.loop-i.invariant.1
    ∙ checks-refused out_of_range (pos 0) c.args.sites c.args.size c.args.words.now c.args.coefficients.now c.requires.0 c.requires.1
    c.loop-i.i c.in_err-row_checked.field-0.0 c.loop-i-test.true
    (sym c.row_checked.ensures ∙ ap outcome_of c.in_err-row_checked.was)))

pub loop-i-preserved : goal.loop-i-preserved
loop-i-preserved c = (
  omega (arith, c.loop-i-test.true),
  c.loop-i.invariant.1
      ∙ checks-pass out_of_range (pos 0) c.args.sites c.args.size c.args.words.now c.args.coefficients.now c.requires.0 c.requires.1
      c.loop-i.i c.loop-i-test.true
      (sym c.row_checked.ensures ∙ ap outcome_of c.in_ok-row_checked.was),
)

pub returns : goal.returns
returns c =
    sym
    (c.loop-i.invariant.1
    ∙ checks-end out_of_range (pos 0) c.args.sites c.args.size c.args.words.now c.args.coefficients.now c.requires.0 c.requires.1
    c.loop-i.i c.loop-i-test.false)
