-- `moves::find_masks` meets its contract.
use native.Mathlib.Omega.{arith}
use Rattle.paths.proofs.moves.find_masks.Goals as goal

pub fill_masks-requires : goal.fill_masks-requires
fill_masks-requires c =
    let shapes = c.in_ok-shapes.ensures in record {
      strides_len = (shapes.stride_count, shapes.rest_count, c.requires.tables.few);
      sites_bound = (c.requires.sites_bound.0, omega (arith, c.requires.sites_bound.1), c.requires.masks_len);
      by_index = λ g h. let b = (shapes.each g h).blocks in (omega (arith, b.inside), b.whole, b.small);
    }
