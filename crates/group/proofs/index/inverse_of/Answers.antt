-- `index::inverse_of` meets its contract: of an accepted group, whether the index is below the order decides (`invert-range`, `invert-answer`).
use mathlib.Core.Path.{sym, ap, ◌∙◌}
use native.Mathlib.Omega.{arith}
use Rattle.outcome.specs.Outcome.{answer}
use Rattle.group.specs.Value.{group_lent, generators_of}
use Rattle.group.proofs.Accepted.{lent-accepted, lent-tables}
use Rattle.group.proofs.Outcomes.{invert-range, invert-answer}
use Rattle.group.proofs.index.inverse_of.Goals as goal

pub order-requires : goal.order-requires
order-requires c = lent-tables c.args.group.now c.requires

pub returns-then-order-index : goal.returns-then-order-index
unfolding generators_of
returns-then-order-index c =
    sym (invert-range (group_lent c.args.group.now) (lent-accepted c.args.group.now c.requires) c.args.index (omega arith))

pub invert-requires : goal.invert-requires
invert-requires c = lent-tables c.args.group.now c.requires

pub returns : goal.returns
unfolding generators_of
returns c =
    ap answer c.invert.ensures
    ∙ sym (invert-answer (group_lent c.args.group.now) (lent-accepted c.args.group.now c.requires) c.args.index (omega arith))
