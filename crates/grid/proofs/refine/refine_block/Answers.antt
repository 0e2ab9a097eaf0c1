-- `refine::refine_block` meets its contract.
use mathlib.Core.Path.{◌∙◌}
use Rattle.elements.specs.HeldGroup.{generators_in}
use Rattle.grid.proofs.OneWord.{clear-word, refined-word}
use Rattle.grid.proofs.refine.refine_block.Goals as goal

pub refine_word-stopped-requires : goal.refine_word-stopped-requires
refine_word-stopped-requires c =
    let one = c.if-at-eq1.true in
    let at = c.args.at.now in
    let left = c.args.left.now in
    let at_fits = (c.slice_known-then-at-eq1-1.given 0).fits in
    let left_fits = (c.slice_known-then-at-eq1-2-1.given 0).fits in record {
      tables = c.requires.tables;
      order_value = c.requires.order_value;
      steps = rw one at c.requires.steps;
      by_index = clear-word at left one (c.requires.clear.1 ∙ one) at_fits left_fits c.args.order c.requires.clear.0;
    }

pub returns-then-at-eq1 : goal.returns-then-at-eq1
returns-then-at-eq1 c =
    let one = c.if-at-eq1.true in
    let at = c.args.at.now in
    let left = c.args.left.now in
    let gs = generators_in c.args.group.now.generators c.args.group.now.sites c.args.group.now.targets.now c.args.group.now.orders.now in
    let at_fits = (c.slice_known-then-at-eq1-1.given 0).fits in
    let left_fits = (c.slice_known-then-at-eq1-2-1.given 0).fits in
    refined-word at left one (c.requires.clear.1 ∙ one) at_fits left_fits c.refine_word-stopped.result.stage gs c.args.order c.refine_word-stopped.result.left c.refine_word-stopped.type_inv.1.1.0.1 c.refine_word-stopped.ensures
