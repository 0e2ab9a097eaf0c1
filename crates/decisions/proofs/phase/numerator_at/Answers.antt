-- `phase::numerator_at` meets its contract: the first places of the counter are the digits of the index (`counter-digits`).
use mathlib.Core.Path.{ap, ◌∙◌}
use Rattle.action.specs.Sector.{numerator}
use Rattle.elements.specs.HeldGroup.{generators_in}
use Rattle.decisions.proofs.Phases.{counter-digits, counter-length}
use Rattle.decisions.proofs.phase.numerator_at.Goals as goal

pub numerator-requires : goal.numerator-requires
numerator-requires c = record {
  tables = c.requires.tables;
  modulus_value = c.requires.modulus_value;
  modes_len = (c.requires.modes_len, counter-length c.requires.tables c.args.index _ _ c.fill_counter.ensures);
}

pub returns : goal.returns
returns c =
    let gs = generators_in c.args.group.now.generators c.args.group.now.sites c.args.group.now.targets.now c.args.group.now.orders.now in
    c.numerator.ensures
    ∙ ap (numerator gs c.args.modes.now) (counter-digits c.requires.tables c.args.index _ _ c.fill_counter.ensures)
