-- `least::walk_from` meets its contract: there is room for each copy, and it is as long as its plane.
use native.Mathlib.Omega.{arith}
use lib.ListN.{length}
use Rattle.rotation.proofs.Packs.{z_few, fresh-length}
use Rattle.rotation.proofs.least.walk_from.Goals as goal

pub slice_bounds-here_z-end : goal.slice_bounds-here_z-end
slice_bounds-here_z-end c = omega (arith, z_few c.requires.planes)

pub slice_bounds-best_z-end : goal.slice_bounds-best_z-end
slice_bounds-best_z-end c = omega (arith, z_few c.requires.planes)

pub walk_copies-requires : goal.walk_copies-requires
walk_copies-requires c =
    let p = c.requires.planes in
    let x_long = fresh-length (length c.args.x.now) p.few in
    let z_long = fresh-length (length c.args.z.now) (z_few p) in record {
      tables = c.requires.tables;
      shapes = c.requires.shapes;
      masks = c.requires.masks;
      planes = p;
      order_value = c.requires.order_value;
      u_len = (x_long, z_long);
      xs_len = (x_long, z_long);
    }
