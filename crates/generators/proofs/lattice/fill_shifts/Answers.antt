use native.Mathlib.Omega.{arith}
use Rattle.generators.proofs.Axes.{side-small, stored_none, orders-long, part_room, axis-fits, stored_next, stored-all}
use Rattle.generators.proofs.lattice.fill_shifts.Goals as goal

pub loop-g-init : goal.loop-g-init
loop-g-init c =
    stored_none c.args.sides.now c.args.sites c.args.targets.now c.args.orders.now c.requires.targets_value.0 c.requires.targets_value.1

pub offset_bounds-sides-g : goal.offset_bounds-sides-g
offset_bounds-sides-g c = omega arith

pub bounds-sides-g : goal.bounds-sides-g
bounds-sides-g c = omega arith

pub overflow_mul-start : goal.overflow_mul-start
overflow_mul-start c = omega arith

pub overflow_add-end : goal.overflow_add-end
overflow_add-end c = omega arith

pub offset_bounds-targets-start : goal.offset_bounds-targets-start
offset_bounds-targets-start c = omega arith

pub slice_bounds-fill_shift-count : goal.slice_bounds-fill_shift-count
slice_bounds-fill_shift-count c = omega arith

pub slice_bounds-fill_shift-start : goal.slice_bounds-fill_shift-start
slice_bounds-fill_shift-start c = omega arith

pub slice_bounds-fill_shift-end : goal.slice_bounds-fill_shift-end
slice_bounds-fill_shift-end c =
    let p = c.requires.sides_len_bound in
    part_room c.loop-g.invariant p.0 p.1 c.loop-g-test.true

pub fill_shift-requires : goal.fill_shift-requires
fill_shift-requires c =
    let p = c.requires.sides_len_bound in
    axis-fits c.loop-g.invariant p.0 p.1 c.loop-g-test.true p.2 p.3

pub overflow_cast-orders : goal.overflow_cast-orders
overflow_cast-orders c =
    omega (arith, c.requires.sides_len_bound.3, side-small c.args.sides.now c.requires.sides_len_bound.2 c.loop-g.g c.loop-g-test.true)

pub offset_bounds-orders-g : goal.offset_bounds-orders-g
offset_bounds-orders-g c = omega arith

pub bounds-orders-g : goal.bounds-orders-g
bounds-orders-g c =
    let p = c.requires.sides_len_bound in
    omega (arith, p.0, orders-long c.loop-g.invariant p.0)

pub overflow_mul-stride : goal.overflow_mul-stride
overflow_mul-stride c =
    let p = c.requires.sides_len_bound in
    omega (arith, (axis-fits c.loop-g.invariant p.0 p.1 c.loop-g-test.true p.2 p.3).2)

pub loop-g-preserved : goal.loop-g-preserved
loop-g-preserved c =
    let p = c.requires.sides_len_bound in
    stored_next c.loop-g.invariant p.0 p.1 c.loop-g-test.true c.fill_shift.new.row c.fill_shift.ensures

pub returns : goal.returns
returns c =
    let it = stored-all c.loop-g.invariant c.requires.sides_len_bound.0 c.loop-g-test.false in record {
      targets = it.0;
      orders = it.1;
    }
