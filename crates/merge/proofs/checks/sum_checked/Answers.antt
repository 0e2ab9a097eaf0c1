-- `checks::sum_checked` meets its contract: the value's checks refuse, or they pass and the lists' checks decide.
use Rattle.outcome.proofs.Outcomes.{handed_on}
use mathlib.Core.Path.{sym, ap, ◌∙◌}
use borrow.Author.Rules.{rules}
use Rattle.outcome.specs.Outcome.{outcome_of}
use Rattle.group.specs.declared.Group.{Group}
use Rattle.group.specs.Value.{group_in}
use Rattle.merge.proofs.SumChecks.{sum-refused, sum-lists}
use Rattle.merge.proofs.checks.sum_checked.Goals as goal

pub returns-in_err-value_checked : goal.returns-in_err-value_checked
returns-in_err-value_checked c =
    ap outcome_of (handed_on c.from_residual.result c.from_residual.ensures.1)
    ∙ (let a = c.args in
    sym
    (sum-refused (group_in c.args.group.now.sites c.args.group.now.generators c.args.group.now.orders.now c.args.group.now.targets.now) a.words.now a.coefficients.now a.representatives a.sums a.counts c.in_err-value_checked.field-0.0
    (sym c.value_checked.ensures ∙ ap outcome_of c.in_err-value_checked.was)))

pub returns : goal.returns
returns c =
    let a = c.args in
    c.lists_checked.ensures
    ∙ sym
    (sum-lists (group_in c.args.group.now.sites c.args.group.now.generators c.args.group.now.orders.now c.args.group.now.targets.now) a.words.now a.coefficients.now a.representatives a.sums a.counts
    (sym c.value_checked.ensures ∙ ap outcome_of c.in_ok-value_checked.was))
