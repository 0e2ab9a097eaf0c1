-- `character_numerator` meets its contract: the checks pass or refuse, and a group that passes is what `calls::numerator_of` asks.
use mathlib.Core.Path.{sym, ap, ◌∙◌}
use mathlib.Core.List.{[], ◌∷◌}
use Rattle.outcome.specs.Outcome.{answer, outcome_of}
use Rattle.outcome.proofs.Outcomes.{told-passes, told-refused-first, handed_on}
use Rattle.action.specs.Sector.{numerator}
use Rattle.group.specs.declared.Group.{Group}
use Rattle.group.specs.Value.{group_lent, generators_of}
use Rattle.group.specs.Calls.{value_checks}
use Rattle.momentum.specs.Calls.{counter_length, mode_count, numerator_outcome}
use borrow.Author.Rules.{rules}
use Rattle.momentum.proofs.character_numerator.Goals as goal

pub numerator_of-requires : goal.numerator_of-requires
numerator_of-requires c = told-passes (value_checks (group_lent c.args.group.now)) _ c.value_checked.ensures c.in_ok-value_checked.was

pub returns-in_err-value_checked : goal.returns-in_err-value_checked
unfolding numerator_outcome
returns-in_err-value_checked c =
    let g = (group_lent c.args.group.now) in
    let ks = c.args.modes.now in
    let cs = c.args.counter.now in record {
      answer = ap outcome_of (handed_on c.from_residual.result c.from_residual.ensures.1)
          ∙ sym
          (told-refused-first (value_checks g) _ c.value_checked.ensures (mode_count g ks ∷ counter_length g cs ∷ [])
          (answer (numerator (generators_of g) ks cs)) c.in_err-value_checked.was);
    }
