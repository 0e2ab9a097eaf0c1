-- `way::find_way` meets its contract: the table is taken where its test passes.
use borrow.Author.Tests.{not-false}
use native.Mathlib.Omega.{arith}
use mathlib.Core.Path.{◌∙◌}
use Rattle.ways.proofs.way.find_way.Goals as goal

pub is_renumbered-requires : goal.is_renumbered-requires
is_renumbered-requires c =
    let n = c.number_sites.auto in record {
      tables = c.requires.tables;
      order_value = c.requires.order_value;
      site_len = (n.site ∙ c.requires.site_len.0, n.place ∙ c.requires.site_len.1, omega (arith, c.if-order-gt-MAX_SITES.false));
    }

pub axis_shapes-requires : goal.axis_shapes-requires
axis_shapes-requires c = record {
  tables = c.requires.tables;
  orders_bound = omega (arith, c.requires.order_value, c.if-order-gt-MAX_SITES.false);
}

pub returns : goal.returns
returns c =
    let u = c.words_in_use.ensures in record {
      few = u.1;
      way = (c.axis_shapes.ensures, c.is_renumbered.ensures (not-false _ c.if-not-is_renumbered.false-raw), u.0, u.1);
    }
