use Prim.Native.Nat.{◌+◌, ◌*◌, ◌≤◌, ◌<◌}
use mathlib.Core.Path.{refl, sym, ◌∙◌}
use native.Mathlib.Nat.{mod-lt}
use native.Mathlib.Omega.{arith}
use lib.ListN.{length, get_or}
use Rattle.permutation.specs.Limits.{max_generators}
use Rattle.elements.specs.HeldGroup.{generators_in}
use Rattle.elements.proofs.TableRows.{order-positive-at}
use Rattle.packed.specs.Packed.{plane_words, bit_of}
use Rattle.rotation.proofs.Moved.{part-inside, lent-inside, lent_length}
use Rattle.grid.proofs.Grids.{order-small}
use Rattle.grid.proofs.Stepping.{step_start, step-next, step-last, step_end, block-some, block-whole, block-keep}
use Rattle.grid.proofs.step.step.Goals as goal

pub loop-g-init : goal.loop-g-init
loop-g-init c =
    let gs = generators_in c.args.group.now.generators c.args.group.now.sites c.args.group.now.targets.now c.args.group.now.orders.now in
    (omega arith, refl, c.requires.clear_2, step_start gs c.args.group.now.orders.now c.args.order c.args.h (bit_of c.args.at.now))

pub overflow_mul-start : goal.overflow_mul-start
overflow_mul-start c =
    let few : c.loop-g.g < max_generators = omega (arith, c.requires.tables.few, c.loop-g-test.true) in
    let inside : length c.args.at.now * c.loop-g.g + length c.args.at.now ≤ max_generators * plane_words = omega (arith, part-inside (length c.args.at.now) c.loop-g.g few, c.requires.steps.few) in
    omega (arith, inside)

pub overflow_add-end : goal.overflow_add-end
overflow_add-end c =
    let few : c.loop-g.g < max_generators = omega (arith, c.requires.tables.few, c.loop-g-test.true) in
    let inside : length c.args.at.now * c.loop-g.g + length c.args.at.now ≤ max_generators * plane_words = omega (arith, part-inside (length c.args.at.now) c.loop-g.g few, c.requires.steps.few) in
    omega (arith, inside)

pub offset_bounds-rests-g : goal.offset_bounds-rests-g
offset_bounds-rests-g c =
    let few : c.loop-g.g < max_generators = omega (arith, c.requires.tables.few, c.loop-g-test.true) in
    omega (arith, few)

pub bounds-rests-g : goal.bounds-rests-g
bounds-rests-g c =
    let few : c.loop-g.g < max_generators = omega (arith, c.requires.tables.few, c.loop-g-test.true) in
    omega (arith, few, c.requires.steps.axes.rest_count)

pub offset_bounds-masks-start : goal.offset_bounds-masks-start
offset_bounds-masks-start c =
    let few : c.loop-g.g < max_generators = omega (arith, c.requires.tables.few, c.loop-g-test.true) in
    let inside : length c.args.at.now * c.loop-g.g + length c.args.at.now ≤ max_generators * plane_words = omega (arith, part-inside (length c.args.at.now) c.loop-g.g few, c.requires.steps.few) in
    omega (arith, inside)

pub slice_bounds-rotate_kept-count : goal.slice_bounds-rotate_kept-count
slice_bounds-rotate_kept-count c = omega arith

pub slice_bounds-rotate_kept-start : goal.slice_bounds-rotate_kept-start
slice_bounds-rotate_kept-start c = omega arith

pub slice_bounds-rotate_kept-end : goal.slice_bounds-rotate_kept-end
slice_bounds-rotate_kept-end c =
    omega (arith, lent-inside c.requires.tables.few c.requires.steps.kept c.loop-g.g c.loop-g-test.true)

pub offset_bounds-strides-g : goal.offset_bounds-strides-g
offset_bounds-strides-g c =
    let few : c.loop-g.g < max_generators = omega (arith, c.requires.tables.few, c.loop-g-test.true) in
    omega (arith, few)

pub bounds-strides-g : goal.bounds-strides-g
bounds-strides-g c =
    let few : c.loop-g.g < max_generators = omega (arith, c.requires.tables.few, c.loop-g-test.true) in
    omega (arith, few, c.requires.steps.axes.stride_count)

pub overflow_add-strides : goal.overflow_add-strides
overflow_add-strides c = omega (arith, c.requires.steps.axes.small c.loop-g.g c.loop-g-test.true)

pub rotate_kept-requires : goal.rotate_kept-requires
rotate_kept-requires c =
    let l = c.loop-g in
    let more = c.loop-g-test.true in
    let t = c.requires.tables in
    let on = c.requires.steps in
    let long = l.invariant.1 in record {
      plane_len_bound = (omega (arith, on.few, long), lent_length t.few on.kept l.g more ∙ sym long);
      block_nonzero = (block-some t c.requires.order_value on l.g more, omega arith, block-whole t c.requires.order_value on l.g more, rw long on.room);
      clear_2 = (l.invariant.2, block-keep t c.requires.order_value on l.g more);
    }

pub offset_bounds-orders-g : goal.offset_bounds-orders-g
offset_bounds-orders-g c =
    let few : c.loop-g.g < max_generators = omega (arith, c.requires.tables.few, c.loop-g-test.true) in
    omega (arith, few)

pub bounds-orders-g : goal.bounds-orders-g
bounds-orders-g c =
    let few : c.loop-g.g < max_generators = omega (arith, c.requires.tables.few, c.loop-g-test.true) in
    omega (arith, few, c.requires.tables.declared_orders)

pub nonzero_rem-digits : goal.nonzero_rem-digits
nonzero_rem-digits c =
    let some : 0 < get_or c.args.group.now.orders.now c.loop-g.g 0 = order-positive-at c.requires.tables c.loop-g.g c.loop-g-test.true in
    some

pub overflow_add-digits : goal.overflow_add-digits
overflow_add-digits c =
    let some : 0 < get_or c.args.group.now.orders.now c.loop-g.g 0 = order-positive-at c.requires.tables c.loop-g.g c.loop-g-test.true in
    let l = c.loop-g in
    omega (arith, mod-lt l.digits some, order-small c.requires.tables l.g c.loop-g-test.true)

pub returns-then-digits-o : goal.returns-then-digits-o
returns-then-digits-o c =
    let l = c.loop-g in
    let more = c.loop-g-test.true in record {
      clear = c.rotate_kept.ensures.clear;
      bits = step-last c.requires.tables c.requires.order_value c.requires.steps l.g more _ l.invariant.3 c.rotate_kept.ensures.moved c.if-digits-o.true;
    }

pub nonzero_div-digits : goal.nonzero_div-digits
nonzero_div-digits c =
    let some : 0 < get_or c.args.group.now.orders.now c.loop-g.g 0 = order-positive-at c.requires.tables c.loop-g.g c.loop-g-test.true in
    some

pub loop-g-preserved : goal.loop-g-preserved
loop-g-preserved c =
    let l = c.loop-g in
    let more = c.loop-g-test.true in (
      omega (arith, more),
      c.rotate_kept.auto.plane ∙ l.invariant.1,
      c.rotate_kept.ensures.clear,
      step-next c.requires.tables c.requires.order_value c.requires.steps l.g more _ l.invariant.3 c.rotate_kept.ensures.moved c.if-digits-o.false,
    )

pub returns : goal.returns
returns c =
    let l = c.loop-g in record {
      clear = l.invariant.2;
      bits = step_end c.requires.tables c.requires.order_value c.requires.steps l.g c.loop-g-test.false l.invariant.3;
    }
