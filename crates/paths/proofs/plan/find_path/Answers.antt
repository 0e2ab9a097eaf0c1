-- `plan::find_path` meets its contract: the shapes, and on a grid the axes and the masks by which candidates step.
use native.Mathlib.Omega.{arith}
use borrow.Author.Tests.{not-false}
use Rattle.paths.proofs.Dispatch.{axes_masks}
use Rattle.paths.proofs.plan.find_path.Goals as goal

pub returns-then-order-gt-MAX_SITES : goal.returns-then-order-gt-MAX_SITES
returns-then-order-gt-MAX_SITES c = record {
  few = omega arith;
  path = c.in-Some.ensures;
}

pub is_grid-requires : goal.is_grid-requires
is_grid-requires c = record {
  tables = c.requires.tables;
  shapes = c.in-Some.ensures;
}

pub returns-then-not-is_grid : goal.returns-then-not-is_grid
returns-then-not-is_grid c = record {
  few = omega arith;
  path = c.in-Some.ensures;
}

pub fill_masks-requires : goal.fill_masks-requires
fill_masks-requires c =
    let shapes = c.in-Some.ensures in
    let a = c.is_grid.ensures (not-false c.is_grid.result c.if-not-is_grid.false-raw) in record {
      strides_len = (shapes.rest_count, shapes.stride_count, c.requires.tables.few);
      sites_bound = (c.words_in_use-m.ensures.0, omega (arith, c.words_in_use-m.ensures.1), omega (arith, c.words_in_use-m.ensures.1, c.requires.strides_len.2));
      by_index = axes_masks c.requires.tables c.requires.order_value a;
    }

pub returns : goal.returns
returns c =
    let shapes = c.in-Some.ensures in record {
      few = c.words_in_use-m.ensures.1;
      path = (
        shapes,
        record {
          axes = c.is_grid.ensures (not-false c.is_grid.result c.if-not-is_grid.false-raw);
          kept = c.fill_masks.ensures;
          room = c.words_in_use-m.ensures.0;
          few = c.words_in_use-m.ensures.1;
        },
      );
    }
