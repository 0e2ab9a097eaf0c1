-- `stabilizer::placed_by_set` meets its contract: the candidates decide, and the word follows from the decision's numbers (`placed-least`, `placed-zeros`).
use mathlib.Core.Path.{sym, ◌∙◌}
use Rattle.elements.specs.HeldGroup.{generators_in}
use Rattle.decisions.specs.Decisions.{decision}
use Rattle.decisions.proofs.Traversals.{placed-zeros, placed-least}
use Rattle.decisions.proofs.stabilizer.placed_by_set.Goals as goal

pub returns-in-Kept : goal.returns-in-Kept
returns-in-Kept c =
    let ks = c.args.modes.now in
    let gs = generators_in c.args.group.now.generators c.args.group.now.sites c.args.group.now.targets.now c.args.group.now.orders.now in
    let told = sym c.in-Kept.is in
    let decided = c.placed_by_leading-answer.ensures in record {
      answer = λ w long leads back. told ∙ decided w long leads back;
      word = λ w long leads back least. least ∙ placed-least gs ks w (sym (told ∙ decided w long leads back));
    }

pub returns-in-Dropped : goal.returns-in-Dropped
returns-in-Dropped c =
    let ks = c.args.modes.now in
    let gs = generators_in c.args.group.now.generators c.args.group.now.sites c.args.group.now.targets.now c.args.group.now.orders.now in
    let told = sym c.in-Dropped.is in
    let decided = c.placed_by_leading-answer.ensures in record {
      answer = λ w long leads back. c.cleared.ensures.answer ∙ told ∙ decided w long leads back;
      word = λ w long leads back least. c.cleared.ensures.word ∙ placed-zeros (decision gs ks w) (sym (told ∙ decided w long leads back));
    }
