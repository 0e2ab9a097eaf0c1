-- `checks::projection_checked` meets its contract: the value's checks refuse, or those of the modes and the table do, or those of the lists decide.
use Rattle.outcome.proofs.Outcomes.{handed_on}
use mathlib.Core.Path.{◌≡◌, sym, ap, ◌∙◌}
use Rattle.outcome.specs.Outcome.{answer, verdict, outcome_of}
use Rattle.group.specs.declared.Group.{Group}
use Rattle.group.specs.Value.{group_lent}
use Rattle.group.specs.Calls.{value_checks}
use Rattle.project.proofs.ProjectChecks.{sector_checks, value-refused, sector_refused, lists-decide}
use borrow.Author.Rules.{rules}
use Rattle.project.proofs.checks.projection_checked.Goals as goal

pub sector_checked-requires : goal.sector_checked-requires
sector_checked-requires c = sym c.value_checked.ensures ∙ ap outcome_of c.in_ok-value_checked.was

pub returns-in_err-value_checked : goal.returns-in_err-value_checked
returns-in_err-value_checked c =
    ap outcome_of (handed_on c.from_residual.result c.from_residual.ensures.1)
    ∙ (let a = c.args in
    let e = sym c.value_checked.ensures ∙ ap outcome_of c.in_err-value_checked.was in
    sym
    (value-refused a.table (group_lent c.args.group.now) a.modes.now a.words.now a.coefficients.now a.leasts a.first a.second
    c.in_err-value_checked.field-0.0 e))

pub returns-in_err-sector_checked : goal.returns-in_err-sector_checked
returns-in_err-sector_checked c =
    ap outcome_of (handed_on c.from_residual-in_err-sector_checked.result c.from_residual-in_err-sector_checked.ensures.1)
    ∙ (let a = c.args in
    let e = sym c.sector_checked.ensures ∙ ap outcome_of c.in_err-sector_checked.was in
    sym
    (sector_refused a.table (group_lent c.args.group.now) a.modes.now a.words.now a.coefficients.now a.leasts a.first a.second (sym c.value_checked.ensures ∙ ap outcome_of c.in_ok-value_checked.was)
    c.in_err-sector_checked.field-0.0 e))

pub returns : goal.returns
returns c =
    let a = c.args in
    c.lists_checked.ensures
    ∙ sym
    (lists-decide a.table (group_lent c.args.group.now) a.modes.now a.words.now a.coefficients.now a.leasts a.first a.second (sym c.value_checked.ensures ∙ ap outcome_of c.in_ok-value_checked.was)
    (sym c.sector_checked.ensures ∙ ap outcome_of c.in_ok-sector_checked.was))
