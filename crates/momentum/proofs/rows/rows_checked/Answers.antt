-- `rows::rows_checked` meets its contract: the value's checks refuse, or the number of modes does, or the lists' checks decide.
use Rattle.outcome.proofs.Outcomes.{handed_on}
use mathlib.Core.Path.{◌≡◌, sym, ap, ◌∙◌}
use mathlib.Core.List.{List, ◌∷◌}
use borrow.Author.Rules.{rules}
use Rattle.outcome.specs.Outcome.{answer, verdict, outcome_of, Check}
use Rattle.group.specs.declared.Group.{Group}
use Rattle.group.specs.Value.{group_lent}
use Rattle.group.specs.Calls.{value_checks}
use Rattle.row_lists.specs.Checks.{word_list_checks}
use Rattle.orbit.proofs.RowCalls.{value-refused}
use Rattle.momentum.specs.Calls.{mode_count}
use Rattle.momentum.proofs.RowCalls.{modes-refused, modes-past}
use Rattle.momentum.proofs.rows.rows_checked.Goals as goal

pub returns-then-modes-generators : goal.returns-then-modes-generators
returns-then-modes-generators c =
    let a = c.args in
    sym (modes-refused (group_lent c.args.group.now) a.modes.now a.words.now a.rows a.representatives a.sizes (sym c.value_checked.ensures ∙ ap outcome_of c.in_ok-value_checked.was) c.if-modes-generators.true)

pub returns-in_err-value_checked : goal.returns-in_err-value_checked
returns-in_err-value_checked c =
    ap outcome_of (handed_on c.from_residual.result c.from_residual.ensures.1)
    ∙ (sym (value-refused (group_lent c.args.group.now) (mode_count (group_lent c.args.group.now) c.args.modes.now ∷ word_list_checks c.args.group.now.sites c.args.words.now c.args.rows c.args.representatives c.args.rows c.args.sizes) c.in_err-value_checked.field-0.0 (sym c.value_checked.ensures ∙ ap outcome_of c.in_err-value_checked.was)))

pub returns : goal.returns
returns c =
    let a = c.args in
    c.word_lists_checked.ensures
    ∙ sym (modes-past (group_lent c.args.group.now) a.modes.now a.words.now a.rows a.representatives a.sizes (sym c.value_checked.ensures ∙ ap outcome_of c.in_ok-value_checked.was) c.if-modes-generators.false)
