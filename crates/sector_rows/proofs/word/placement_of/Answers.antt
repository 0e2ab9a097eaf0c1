-- `word::placement_of` meets its contract: the path of the group is found, and taken.
use mathlib.Core.Path.{refl, ap}
use lib.ListN.{length}
use native.Mathlib.Omega.{arith}
use Rattle.sector_rows.proofs.word.placement_of.Goals as goal

pub find_path-path-requires : goal.find_path-path-requires
find_path-path-requires c = record {
  tables = c.requires.tables;
  order_value = c.order-order.ensures;
  strides_len = (ap length c.new-shapes.ensures.0, ap length c.new-shapes.ensures.1, omega arith);
}

pub placed_on-answer-requires : goal.placed_on-answer-requires
placed_on-answer-requires c = record {
  tables = c.requires.tables;
  taken = (c.find_path-path.ensures.path, c.find_path-path.ensures.few);
  order_value = c.order-order.ensures;
  modes_len = c.requires.modes_len;
  accepted_word = (c.requires.accepted_word, refl);
}
