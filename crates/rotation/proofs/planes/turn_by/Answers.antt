-- `planes::turn_by` meets its contract: what stands in the front of the list of masks is the mask, and the word is turned by it.
use mathlib.Core.Path.{◌≡◌, ◌∙◌}
use lib.ListN.{length}
use Rattle.rotation.proofs.Packs.{fresh-length, front-inside, front-mask, front-planes, planes-front}
use Rattle.rotation.proofs.planes.turn_by.Goals as goal

pub slice_bounds-turn-end : goal.slice_bounds-turn-end
slice_bounds-turn-end c =
    let written : length c.keep_mask.new.mask ≡ length c.args.x.now = c.keep_mask.auto.mask ∙ fresh-length (length c.args.x.now) c.requires.planes_2.few in
    front-inside (length c.args.x.now) c.keep_mask.new.mask _ written

pub turn-requires : goal.turn-requires
turn-requires c =
    let written : length c.keep_mask.new.mask ≡ length c.args.x.now = c.keep_mask.auto.mask ∙ fresh-length (length c.args.x.now) c.requires.planes_2.few in
    let m = length c.args.x.now in
    let long = written in record {
      planes_2 = front-planes m c.keep_mask.new.mask _ long c.requires.planes_2;
      blocks = c.requires.blocks;
      mask = front-mask m c.keep_mask.new.mask _ long c.keep_mask.ensures;
    }

pub returns : goal.returns
returns c =
    let written : length c.keep_mask.new.mask ≡ length c.args.x.now = c.keep_mask.auto.mask ∙ fresh-length (length c.args.x.now) c.requires.planes_2.few in
    record {
      planes = planes-front (length c.args.x.now) c.keep_mask.new.mask _ written c.turn.ensures.planes;
      letters = c.turn.ensures.letters;
    }
