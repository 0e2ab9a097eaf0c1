-- `stabilizer::placed_by_step` meets its contract: the step's numerator decides (`ByStep`).
use mathlib.Core.Path.{sym, ◌∙◌}
use Rattle.elements.specs.HeldGroup.{generators_in}
use Rattle.decisions.proofs.Placing.{keeps_placed, keeps-word, drops-placed, drops-word, step-drops}
use Rattle.decisions.proofs.stabilizer.placed_by_step.Goals as goal

pub returns-then-trivial : goal.returns-then-trivial
returns-then-trivial c =
    let ks = c.args.modes.now in
    let gs = generators_in c.args.group.now.generators c.args.group.now.sites c.args.group.now.targets.now c.args.group.now.orders.now in
    let phased = sym c.trivial.ensures ∙ c.if-trivial.true in record {
      answer = λ w says back. keeps_placed gs ks w (says.kept ks ∙ phased) back (sym says.size);
      word = λ w says least. least ∙ keeps-word gs ks w (says.kept ks ∙ phased);
    }

pub returns : goal.returns
returns c =
    let ks = c.args.modes.now in
    let gs = generators_in c.args.group.now.generators c.args.group.now.sites c.args.group.now.targets.now c.args.group.now.orders.now in
    let phased = sym c.trivial.ensures ∙ c.if-trivial.false in record {
      answer = λ w says back. c.cleared.ensures.answer ∙ drops-placed gs ks w (says.kept ks ∙ phased) (step-drops gs ks w says phased);
      word = λ w says least. c.cleared.ensures.word ∙ drops-word gs ks w (says.kept ks ∙ phased);
    }
