-- `calls::numerator_of` meets its contract: the lists' lengths decide (`numerator-modes`, `numerator-length`, `numerator-answer`).
use mathlib.Core.Path.{◌≡◌, sym, ap, ◌∙◌}
use borrow.Author.Rules.{rules}
use lib.ListN.{length}
use Rattle.elements.specs.HeldGroup.{Tables}
use Rattle.group.specs.declared.Group.{Group}
use Rattle.group.specs.Value.{group_lent, generators_of}
use Rattle.group.proofs.Accepted.{value-accepted, accepted_tables}
use Rattle.outcome.specs.Outcome.{answer}
use Rattle.momentum.proofs.Outcomes.{numerator-modes, numerator-length, numerator-answer}
use Rattle.momentum.proofs.calls.numerator_of.Goals as goal

pub returns-then-modes-generators : goal.returns-then-modes-generators
returns-then-modes-generators c = sym (numerator-modes (group_lent c.args.group.now) c.requires c.args.modes.now c.args.counter.now c.if-modes-generators.true)

pub returns-then-counter-generators : goal.returns-then-counter-generators
returns-then-counter-generators c = sym (numerator-length (group_lent c.args.group.now) c.requires c.args.modes.now c.if-modes-generators.false c.args.counter.now c.if-counter-generators.true)

pub phase_modulus-modulus-requires : goal.phase_modulus-modulus-requires
phase_modulus-modulus-requires c = accepted_tables (group_lent c.args.group.now) (value-accepted (group_lent c.args.group.now) (search rules) (search rules) c.requires)

pub numerator-requires : goal.numerator-requires
numerator-requires c = record {
  tables = accepted_tables (group_lent c.args.group.now) (value-accepted (group_lent c.args.group.now) (search rules) (search rules) c.requires);
  modulus_value = c.phase_modulus-modulus.ensures;
  modes_len = (c.if-modes-generators.false, c.if-counter-generators.false);
}

pub returns : goal.returns
unfolding generators_of
returns c =
    ap answer c.numerator.ensures
    ∙ sym (numerator-answer (group_lent c.args.group.now) c.requires c.args.modes.now c.if-modes-generators.false c.args.counter.now c.if-counter-generators.false)
