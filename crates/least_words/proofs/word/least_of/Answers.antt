-- `word::least_of` meets its contract: the path of the group is found.
use mathlib.Core.Path.{ap}
use lib.ListN.{length}
use native.Mathlib.Omega.{arith}
use Rattle.least_words.proofs.word.least_of.Goals as goal

pub find_path-path-requires : goal.find_path-path-requires
find_path-path-requires c = record {
  tables = c.requires.tables;
  order_value = c.order-order.ensures;
  strides_len = (ap length c.new-shapes.ensures.0, ap length c.new-shapes.ensures.1, omega arith);
}

pub least_on-requires : goal.least_on-requires
least_on-requires c = record {
  tables = c.requires.tables;
  taken = (c.find_path-path.ensures.path, c.find_path-path.ensures.few);
  order_value = c.order-order.ensures;
  accepted_word = c.requires.accepted_word;
}
