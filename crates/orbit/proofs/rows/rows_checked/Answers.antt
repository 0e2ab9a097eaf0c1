-- `rows::rows_checked` meets its contract: the value's checks refuse, or they pass and the lists' checks decide.
use Rattle.outcome.proofs.Outcomes.{handed_on}
use mathlib.Core.Path.{sym, ap, ◌∙◌}
use Rattle.outcome.specs.Outcome.{outcome_of}
use Rattle.group.specs.Value.{group_in}
use Rattle.row_lists.specs.Checks.{word_list_checks}
use Rattle.orbit.proofs.RowCalls.{value-refused, value-past}
use Rattle.orbit.proofs.rows.rows_checked.Goals as goal

pub returns-in_err-value_checked : goal.returns-in_err-value_checked
returns-in_err-value_checked c =
    ap outcome_of (handed_on c.from_residual.result c.from_residual.ensures.1)
    ∙ (sym (value-refused (group_in c.args.group.now.sites c.args.group.now.generators c.args.group.now.orders.now c.args.group.now.targets.now) (word_list_checks c.args.group.now.sites c.args.words.now c.args.rows c.args.representatives c.args.rows c.args.rows) c.in_err-value_checked.field-0.0 (sym c.value_checked.ensures ∙ ap outcome_of c.in_err-value_checked.was)))

pub returns : goal.returns
returns c =
    c.word_lists_checked.ensures
    ∙ sym (value-past (group_in c.args.group.now.sites c.args.group.now.generators c.args.group.now.orders.now c.args.group.now.targets.now) (word_list_checks c.args.group.now.sites c.args.words.now c.args.rows c.args.representatives c.args.rows c.args.rows) (sym c.value_checked.ensures ∙ ap outcome_of c.in_ok-value_checked.was))
