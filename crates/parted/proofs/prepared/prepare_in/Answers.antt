-- `prepared::prepare_in` meets its contract: what the lists, the tables and the way are known for is at hand.
use lib.ListN.{get_or}
use native.Mathlib.Omega.{arith}
use native.Mathlib.Numerals.{add-one}
use mathlib.Core.Path.{◌∙◌}
use Rattle.parted.proofs.prepared.prepare_in.Goals as goal

pub fill_part-requires : goal.fill_part-requires
fill_part-requires c =
    let q = c.requires.members_len in record {
      tables_2 = c.requires.tables.0;
      divided = c.requires.divided;
      labels_len = (c.requires.tables.1, c.list_places-m.auto.number ∙ q.2, c.list_places-m.auto.table ∙ q.3, omega (arith, c.list_places-k.auto.table, q.0, c.requires.tables.0.few));
      listed = c.list_places-k.ensures;
      listed_2 = rw (add-one c.args.part) at c.list_places-m.ensures;
      part_targets_len = c.requires.own_targets_len;
    }

pub find_way-found-requires : goal.find_way-found-requires
find_way-found-requires c = record {
  tables = c.fill_part.ensures.tables;
  order_value = c.order-order.ensures;
  strides_len = c.requires.strides_len;
  site_len = c.requires.site_len;
}

pub returns : goal.returns
returns c =
    record {
      member = λ j. get_or c.list_places-k.new.table j 0;
      rank = λ g. get_or c.list_places-k.new.number g 0;
      number = λ q. get_or c.list_places-m.new.number q 0;
      members = c.list_places-k.ensures;
      owned = rw (add-one c.args.part) at c.list_places-m.ensures;
      tables = c.fill_part.ensures.tables;
      carried = c.fill_part.ensures.carried;
      order = c.order-order.ensures;
      found = c.find_way-found.ensures.way;
      room = c.find_way-found.ensures.few;
    }
