-- `character_table` meets its contract: the checks pass or refuse, and a group that passes is what `calls::table_of` asks.
use mathlib.Core.Path.{sym, ap, ◌∙◌}
use mathlib.Core.List.{[], ◌∷◌}
use lib.ListN.{length}
use Rattle.outcome.specs.Outcome.{answer, on_answer, or_else, done, itself, outcome_of}
use Rattle.outcome.proofs.Outcomes.{told-passes, told-refused-first, handed_on}
use Rattle.action.specs.Index.{order_of}
use Rattle.group.specs.declared.Group.{Group}
use Rattle.group.specs.Value.{group_lent, generators_of}
use Rattle.group.specs.Calls.{value_checks, list_length}
use Rattle.momentum.specs.Calls.{mode_count, table_outcome}
use Rattle.decisions.specs.Decisions.{numerators}
use borrow.Author.Rules.{rules}
use Rattle.momentum.proofs.character_table.Goals as goal

pub table_of-requires : goal.table_of-requires
table_of-requires c = told-passes (value_checks (group_lent c.args.group.now)) _ c.value_checked.ensures c.in_ok-value_checked.was

pub returns-in_err-value_checked : goal.returns-in_err-value_checked
unfolding table_outcome
returns-in_err-value_checked c =
    let g = (group_lent c.args.group.now) in
    let ks = c.args.modes.now in
    let list = c.args.list.now in
    let e =
    told-refused-first (value_checks g) _ c.value_checked.ensures (mode_count g ks ∷ list_length (length list) (order_of (generators_of g)) ∷ [])
    (answer (numerators (generators_of g) ks)) c.in_err-value_checked.was
    in record {
      answer = ap outcome_of (handed_on c.from_residual.result c.from_residual.ensures.1)
          ∙ sym (ap (on_answer done) e);
      list = sym (ap (or_else itself list) e);
    }
