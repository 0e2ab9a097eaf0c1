-- `reach::reach` meets its contract: the generators of tables that rotate are turns.
use Rattle.elements.specs.HeldGroup.{generators_in}
use Rattle.rotation.proofs.Reached.{rotations-of, turns-of}
use Rattle.rotation.proofs.reach.reach.Goals as goal

pub reach_by-requires : goal.reach_by-requires
reach_by-requires c = record {
  rotations = rotations-of c.requires.tables c.requires.shapes;
  planes_2 = c.requires.planes_2;
}

pub returns : goal.returns
returns c =
    let a = c.args in
    let gs = generators_in a.group.now.generators a.group.now.sites a.group.now.targets.now a.group.now.orders.now in record {
      planes = c.reach_by.ensures.planes;
      letters = c.reach_by.ensures.letters gs (turns-of c.requires.tables c.requires.shapes);
    }
