-- `index_from_counter` meets its contract: the checks pass or refuse, and that they have passed is what `index::index_of` asks.
use mathlib.Core.Path.{sym, ap, ◌∙◌}
use mathlib.Core.List.{[], ◌∷◌, ◌++◌}
use Rattle.outcome.specs.Outcome.{answer, outcome_of}
use Rattle.action.specs.Index.{index}
use Rattle.group.specs.Value.{group_lent, generators_of}
use Rattle.group.specs.Calls.{value_checks, counter_length, digit_range, index_outcome}
use Rattle.outcome.proofs.Outcomes.{call-refused, front_refused, handed_on}
use Rattle.group.proofs.index_from_counter.Goals as goal

pub index_of-requires : goal.index_of-requires
index_of-requires c = sym c.value_checked.ensures ∙ ap outcome_of c.in_ok-value_checked.was

pub returns-in_err-value_checked : goal.returns-in_err-value_checked
unfolding index_outcome
returns-in_err-value_checked c =
    let a = c.args in
    let g = group_lent c.args.group.now in
    let why = c.in_err-value_checked.field-0.0 in
    let cs = a.counter.now in
    let more = counter_length g cs ∷ digit_range g cs ∷ [] in record {
      answer = ap outcome_of (handed_on c.from_residual.result c.from_residual.ensures.1)
          ∙ sym
          (call-refused (value_checks g ++ more) (answer (index (generators_of g) cs)) why
          (front_refused (value_checks g) more why (sym c.value_checked.ensures ∙ ap outcome_of c.in_err-value_checked.was)));
    }
