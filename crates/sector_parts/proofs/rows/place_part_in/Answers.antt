-- `rows::place_part_in` meets its contract: the part's work on a row takes the decision of the parts before to the one with the part.
use Rattle.sector_parts.proofs.Standing.{modes-listed, sector-part}
use Rattle.parted.proofs.Standing.{listed-numbering}
use Rattle.elements.proofs.TableRows.{generators-length}
use Rattle.row_lists.specs.Rows.{row_at}
use lib.ListN.{get_or}
use native.Mathlib.Omega.{arith}
use Prim.Native.Nat.{ℕ}
use mathlib.Core.List.{List}
use mathlib.Core.Path.{sym, ap, ◌∙◌}
use Rattle.sector_parts.proofs.rows.place_part_in.Goals as goal

pub prepare-ready-requires : goal.prepare-ready-requires
prepare-ready-requires c = record {
  tables = (c.requires.tables.0, c.requires.tables.1, c.requires.tables.2, c.requires.tables.3);
  divided = c.requires.divided;
  table_len = c.requires.table_len;
  strides_len = c.requires.strides_len;
  site_len = c.requires.site_len;
}

pub place_by_way-requires : goal.place_by_way-requires
place_by_way-requires c =
    let h = c.prepare-ready.ensures in
    let table = c.prepare-ready.auto.table ∙ c.requires.table_len.0 in
    let modes = modes-listed c.args.labels.now c.requires.tables.1 h.members c.args.modes.now c.requires.tables.4 in record {
      tables = (c.requires.tables.0, c.requires.tables.1, c.requires.tables.4);
      tables_2 = (h.tables, modes);
      found = (h.found, h.room);
      order_value = h.order;
      numbering = (listed-numbering h.owned, omega (arith, h.owned.few, c.requires.tables.0.sites, table));
      representatives_len = c.requires.representatives_len;
      by_index = c.requires.by_index;
    }

pub returns : goal.returns
returns c words all i h =
    let inside = c.place_by_way.auto.indices in
    let few = generators-length c.requires.tables.0 in
    sector-part c.requires.tables.0.valid c.args.labels.now c.args.owners.now c.requires.divided c.args.part c.requires.tables.0.sites c.args.modes.now (few ∙ sym c.requires.tables.4) (c.requires.tables.1 ∙ sym few) c.requires.tables.1
    c.prepare-ready.ensures (words i) (all i (omega (arith, h, inside)))
    (λ z. let (a, b, d) = c.place_by_way.ensures.none z in (ap (λ (rows : List ℕ). row_at rows i) a, ap (λ (xs : List ℕ). get_or xs i 0) b, ap (λ (xs : List ℕ). get_or xs i 0) d))
    (λ l. c.place_by_way.ensures.some l i (omega (arith, h, inside)))
