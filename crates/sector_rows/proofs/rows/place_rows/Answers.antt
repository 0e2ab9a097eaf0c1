-- `rows::place_rows` meets its contract: the path of the group is found once.
use mathlib.Core.Path.{ap}
use lib.ListN.{length}
use native.Mathlib.Omega.{arith}
use Rattle.sector_rows.proofs.rows.place_rows.Goals as goal

pub find_path-path-requires : goal.find_path-path-requires
find_path-path-requires c = record {
  tables = c.requires.tables;
  order_value = c.order-order.ensures;
  strides_len = (ap length c.new-shapes.ensures.0, ap length c.new-shapes.ensures.1, omega arith);
}

pub rows_on-requires : goal.rows_on-requires
rows_on-requires c = record {
  tables = c.requires.tables;
  taken = (c.find_path-path.ensures.path, c.find_path-path.ensures.few);
  order_value = c.order-order.ensures;
  modes_len = c.requires.modes_len;
  either_length = c.requires.either_length;
  accepted_rows = c.requires.accepted_rows;
  representatives_len = c.requires.representatives_len;
  sizes_len = c.requires.sizes_len;
}
