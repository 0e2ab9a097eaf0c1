-- `invert_index` meets its contract: the checks pass or refuse, and that they have passed is what `index::inverse_of` asks.
use mathlib.Core.Path.{sym, ap, ◌∙◌}
use mathlib.Core.List.{[], ◌∷◌, ◌++◌}
use Rattle.outcome.specs.Outcome.{answer, outcome_of}
use Rattle.action.specs.Index.{inverse}
use Rattle.group.specs.Value.{group_lent, generators_of}
use Rattle.group.specs.Calls.{value_checks, index_range, invert_outcome}
use Rattle.outcome.proofs.Outcomes.{call-refused, front_refused, handed_on}
use Rattle.group.proofs.invert_index.Goals as goal

pub inverse_of-requires : goal.inverse_of-requires
inverse_of-requires c = sym c.value_checked.ensures ∙ ap outcome_of c.in_ok-value_checked.was

pub returns-in_err-value_checked : goal.returns-in_err-value_checked
unfolding invert_outcome
returns-in_err-value_checked c =
    let a = c.args in
    let g = group_lent c.args.group.now in
    let why = c.in_err-value_checked.field-0.0 in
    let more = index_range g a.index ∷ [] in record {
      answer = ap outcome_of (handed_on c.from_residual.result c.from_residual.ensures.1)
          ∙ sym
          (call-refused (value_checks g ++ more) (answer (inverse (generators_of g) a.index)) why
          (front_refused (value_checks g) more why (sym c.value_checked.ensures ∙ ap outcome_of c.in_err-value_checked.was)));
    }
