-- `phase_modulus` meets its contract: the checks pass or refuse, and the phase modulus of an accepted group is what it answers.
use mathlib.Core.Path.{sym, ap, ◌∙◌}
use Rattle.outcome.proofs.Outcomes.{told-passes, told-refused, told-answers, handed_on}
use Rattle.outcome.specs.Outcome.{answer, outcome_of}
use Rattle.action.specs.Sector.{modulus}
use Rattle.group.specs.Value.{group_lent, generators_of}
use Rattle.group.specs.Calls.{value_checks, modulus_outcome}
use Rattle.group.proofs.Accepted.{lent-tables}
use Rattle.group.proofs.phase_modulus.Goals as goal

pub phase_modulus-requires : goal.phase_modulus-requires
phase_modulus-requires c =
    let g = c.args.group.now in
    lent-tables g (told-passes (value_checks (group_lent g)) _ c.value_checked.ensures c.in_ok-value_checked.was)

pub returns-in_err-value_checked : goal.returns-in_err-value_checked
unfolding modulus_outcome
returns-in_err-value_checked c =
    let g = group_lent c.args.group.now in record {
      answer = ap outcome_of (handed_on c.from_residual.result c.from_residual.ensures.1)
          ∙ sym (told-refused (value_checks g) _ c.value_checked.ensures (answer (modulus (generators_of g))) c.in_err-value_checked.was);
    }

pub returns : goal.returns
unfolding modulus_outcome generators_of
returns c =
    let g = group_lent c.args.group.now in record {
      answer = told-answers (value_checks g) _ c.value_checked.ensures c.in_ok-value_checked.was c.phase_modulus.ensures;
    }
