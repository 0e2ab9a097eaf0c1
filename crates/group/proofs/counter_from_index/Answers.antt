-- `counter_from_index` meets its contract: the checks pass or refuse, and that they have passed is what `index::counter_of` asks.
use mathlib.Core.Path.{sym, ap, ◌∙◌}
use mathlib.Core.List.{[], ◌∷◌, ◌++◌}
use lib.ListN.{length}
use Rattle.outcome.specs.Outcome.{answer, on_answer, or_else, done, itself, outcome_of}
use Rattle.action.specs.Index.{digits}
use Rattle.group.specs.Value.{group_lent, generators_of}
use Rattle.group.specs.Calls.{value_checks, index_range, list_length, counter_outcome}
use Rattle.outcome.proofs.Outcomes.{call-refused, front_refused, handed_on}
use Rattle.group.proofs.counter_from_index.Goals as goal

pub counter_of-requires : goal.counter_of-requires
counter_of-requires c = sym c.value_checked.ensures ∙ ap outcome_of c.in_ok-value_checked.was

pub returns-in_err-value_checked : goal.returns-in_err-value_checked
unfolding counter_outcome
returns-in_err-value_checked c =
    let a = c.args in
    let g = group_lent c.args.group.now in
    let why = c.in_err-value_checked.field-0.0 in
    let list = a.counter.now in
    let more = index_range g a.index ∷ list_length (length list) a.group.now.generators ∷ [] in
    let e =
    call-refused (value_checks g ++ more) (answer (digits (generators_of g) a.index)) why
    (front_refused (value_checks g) more why (sym c.value_checked.ensures ∙ ap outcome_of c.in_err-value_checked.was))
    in record {
      answer = ap outcome_of (handed_on c.from_residual.result c.from_residual.ensures.1)
          ∙ sym (ap (on_answer done) e);
      counter = sym (ap (or_else itself list) e);
    }
