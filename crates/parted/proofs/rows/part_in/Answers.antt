-- `rows::part_in` meets its contract: the part's work on a row makes of the least word by the parts before the one with the part.
use Rattle.parted.proofs.Standing.{listed-numbering, part-stands}
use Rattle.row_lists.specs.Rows.{row_at}
use lib.ListN.{get_or}
use native.Mathlib.Omega.{arith}
use Prim.Native.Nat.{ℕ}
use mathlib.Core.List.{List}
use mathlib.Core.Path.{ap, ◌∙◌}
use Rattle.parted.proofs.rows.part_in.Goals as goal

pub prepare-ready-requires : goal.prepare-ready-requires
prepare-ready-requires c = record {
  tables = c.requires.tables;
  divided = c.requires.divided;
  table_len = c.requires.table_len;
  strides_len = c.requires.strides_len;
  site_len = c.requires.site_len;
}

pub part_by_way-requires : goal.part_by_way-requires
part_by_way-requires c =
    let h = c.prepare-ready.ensures in
    let table = c.prepare-ready.auto.table ∙ c.requires.table_len.0 in record {
      tables = (c.requires.tables.0, c.requires.tables.1);
      tables_2 = h.tables;
      found = (h.found, h.room);
      order_value = h.order;
      numbering = (listed-numbering h.owned, omega (arith, h.owned.few, c.requires.tables.0.sites, table));
      representatives_len = c.requires.representatives_len;
      by_index = c.requires.by_index;
    }

pub returns : goal.returns
returns c words all i h =
    let inside = c.part_by_way.auto.indices in
    part-stands c.requires.tables.0.valid c.args.labels.now c.args.owners.now c.requires.divided c.args.part c.requires.tables.0.sites c.requires.tables.1 c.prepare-ready.ensures (words i) (all i (omega (arith, h, inside)))
    (λ z. let (a, b) = c.part_by_way.ensures.none z in (ap (λ (rows : List ℕ). row_at rows i) a, ap (λ (xs : List ℕ). get_or xs i 0) b))
    (λ l. c.part_by_way.ensures.some l i (omega (arith, h, inside)))
