use mathlib.Core.Path.{◌≡◌}
use Rattle.split.proofs.PartTables.{members-few, sites-few, filled_none, filled_next, row-wide, target-inside, part-tables, part-carried}
use native.Mathlib.Omega.{arith}
use Rattle.split.proofs.tables.fill_part.Goals as goal

pub loop-j-init : goal.loop-j-init
loop-j-init c = (omega arith, filled_none c.requires.part_targets_len.0 c.requires.part_targets_len.1)

pub offset_bounds-members-j : goal.offset_bounds-members-j
offset_bounds-members-j c = omega (arith, members-few c.requires.tables_2 c.requires.listed c.requires.listed_2)

pub bounds-members-j : goal.bounds-members-j
bounds-members-j c = omega (arith, c.requires.listed.few)

pub overflow_mul-start : goal.overflow_mul-start
overflow_mul-start c = omega (arith, members-few c.requires.tables_2 c.requires.listed c.requires.listed_2)

pub overflow_add-end : goal.overflow_add-end
overflow_add-end c = omega (arith, members-few c.requires.tables_2 c.requires.listed c.requires.listed_2)

pub offset_bounds-part_targets-start : goal.offset_bounds-part_targets-start
offset_bounds-part_targets-start c = omega (arith, members-few c.requires.tables_2 c.requires.listed c.requires.listed_2)

pub fill_row-requires : goal.fill_row-requires
fill_row-requires c =
    let t = c.requires.tables_2 in
    let j = c.loop-j.j in
    let g = c.requires.listed.inside j c.loop-j-test.true in
    let wide = row-wide c.loop-j.invariant.1 (omega (arith, members-few c.requires.tables_2 c.requires.listed c.requires.listed_2)) in record {
      targets_len = (t.places, omega (arith, g, t.few), c.requires.labels_len.1);
      m_in_bounds = (omega (arith, sites-few c.requires.tables_2 c.requires.listed c.requires.listed_2, c.requires.labels_len.2), omega (arith, sites-few c.requires.tables_2 c.requires.listed c.requires.listed_2, wide), wide);
      by_index = λ a h. let q = c.requires.listed_2.inside a h in
          (omega (arith, q, t.sites), omega (arith, target-inside t _ _ g q, t.sites));
    }

pub offset_bounds-orders-g : goal.offset_bounds-orders-g
offset_bounds-orders-g c = omega (arith, c.requires.listed.inside c.loop-j.j c.loop-j-test.true, c.requires.tables_2.few)

pub bounds-orders-g : goal.bounds-orders-g
bounds-orders-g c = omega (arith, c.requires.listed.inside c.loop-j.j c.loop-j-test.true, c.requires.tables_2.few, c.requires.tables_2.declared_orders)

pub offset_bounds-part_orders-j : goal.offset_bounds-part_orders-j
offset_bounds-part_orders-j c = omega (arith, members-few c.requires.tables_2 c.requires.listed c.requires.listed_2)

pub bounds-part_orders-j : goal.bounds-part_orders-j
bounds-part_orders-j c = omega (arith, members-few c.requires.tables_2 c.requires.listed c.requires.listed_2, c.loop-j.invariant.1.declared)

pub loop-j-preserved : goal.loop-j-preserved
loop-j-preserved c = (
  omega arith,
  filled_next c.loop-j.invariant.1 (omega (arith, members-few c.requires.tables_2 c.requires.listed c.requires.listed_2)) (sites-few c.requires.tables_2 c.requires.listed c.requires.listed_2) c.fill_row.new.row c.fill_row.auto.row c.fill_row.ensures,
)

pub returns : goal.returns
returns c =
    let e : c.loop-j.j ≡ c.args.k = omega arith in
    let f = rw e at c.loop-j.invariant.1 in record {
      tables = part-tables c.requires.tables_2 _ _ c.requires.divided c.requires.labels_len.0 c.requires.listed c.requires.listed_2 _ _ f;
      carried = part-carried c.requires.tables_2 _ _ c.requires.divided c.requires.labels_len.0 c.requires.listed c.requires.listed_2 _ _ f;
    }
