-- `settle::settle` meets its contract: there is room for two words and a set.
use mathlib.Core.Path.{sym, ◌∙◌}
use lib.ListN.{length}
use Rattle.rotation.proofs.Packs.{fresh-length}
use Rattle.grid.proofs.settle.settle.Goals as goal

pub settle_in-requires : goal.settle_in-requires
settle_in-requires c =
    let p = c.requires.planes.0 in
    let x = fresh-length (length c.args.x.now) p.few in
    let z = x ∙ sym c.requires.planes.1 in
    let found = fresh-length (length c.args.left.now) c.requires.order_bound.1 in record {
      tables = c.requires.tables;
      order_value = c.requires.order_value;
      shapes = c.requires.shapes;
      planes = p;
      u_len = (x, z);
      xs_len = (x, z, found);
      order_bound = c.requires.order_bound;
      among = c.requires.among;
    }
