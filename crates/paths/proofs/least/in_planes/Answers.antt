-- `least::in_planes` meets its contract: the word in planes, the candidates that refining leaves, and the least word by where it stopped.
use mathlib.Core.Path.{sym, ◌∙◌}
use Rattle.paths.proofs.least.in_planes.Goals as goal

pub refine-stage-requires : goal.refine-stage-requires
refine-stage-requires c = record {
  tables = c.requires.tables;
  order_value = c.requires.order_value;
  shapes = c.requires.shapes;
  steps = c.requires.steps;
}

pub by_stage-requires : goal.by_stage-requires
by_stage-requires c =
    let x = c.pack_planes.auto.x in
    let z = c.pack_planes.auto.z ∙ c.requires.x_len_bound.2 ∙ sym x in
    let l = c.refine-stage.auto.left in
    let t = c.requires.steps in record {
      tables = c.requires.tables;
      shapes = c.requires.shapes;
      order_value = c.requires.order_value;
      accepted_word = (c.requires.accepted_word, c.pack_planes.ensures.letters);
      planes = (rw (← x) at c.pack_planes.ensures.planes, z);
      order_bound = (rw (← l) at t.room, rw (← l) at t.few);
      staged = c.refine-stage.ensures;
      out_len = c.requires.out_len;
    }
