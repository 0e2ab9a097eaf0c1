use Prim.Native.Nat.{◌<◌}
use mathlib.Core.Path.{refl}
use native.Mathlib.Nat.{mod-lt}
use native.Mathlib.Omega.{arith}
use lib.ListN.{get_or}
use Rattle.permutation.specs.Limits.{max_generators}
use Rattle.elements.specs.HeldGroup.{generators_in}
use Rattle.elements.proofs.TableRows.{order-positive-at}
use Rattle.packed.specs.Packed.{bit_at}
use Rattle.grid.proofs.Grids.{order-small}
use Rattle.grid.proofs.Stepping.{step_start, step-next, step-last, step_end}
use Rattle.grid.proofs.OneWord.{turn_moved, turn-clear, digit_first}
use Rattle.grid.proofs.one.step_word.Goals as goal

pub loop-g-init : goal.loop-g-init
loop-g-init c =
    let gs = generators_in c.args.group.now.generators c.args.group.now.sites c.args.group.now.targets.now c.args.group.now.orders.now in
    (omega arith, λ e. refl, c.requires.by_index, step_start gs c.args.group.now.orders.now c.args.order c.args.h (bit_at c.args.at))

pub offset_bounds-masks-g : goal.offset_bounds-masks-g
offset_bounds-masks-g c =
    let few : c.loop-g.g < max_generators = omega (arith, c.requires.tables.few, c.loop-g-test.true) in
    omega (arith, few)

pub bounds-masks-g : goal.bounds-masks-g
bounds-masks-g c =
    let few : c.loop-g.g < max_generators = omega (arith, c.requires.tables.few, c.loop-g-test.true) in
    omega (arith, few, c.requires.steps.kept.room)

pub offset_bounds-rests-g : goal.offset_bounds-rests-g
offset_bounds-rests-g c =
    let few : c.loop-g.g < max_generators = omega (arith, c.requires.tables.few, c.loop-g-test.true) in
    omega (arith, few)

pub bounds-rests-g : goal.bounds-rests-g
bounds-rests-g c =
    let few : c.loop-g.g < max_generators = omega (arith, c.requires.tables.few, c.loop-g-test.true) in
    omega (arith, few, c.requires.steps.axes.rest_count)

pub offset_bounds-strides-g : goal.offset_bounds-strides-g
offset_bounds-strides-g c =
    let few : c.loop-g.g < max_generators = omega (arith, c.requires.tables.few, c.loop-g-test.true) in
    omega (arith, few)

pub bounds-strides-g : goal.bounds-strides-g
bounds-strides-g c =
    let few : c.loop-g.g < max_generators = omega (arith, c.requires.tables.few, c.loop-g-test.true) in
    omega (arith, few, c.requires.steps.axes.stride_count)

pub offset_bounds-orders-g : goal.offset_bounds-orders-g
offset_bounds-orders-g c =
    let few : c.loop-g.g < max_generators = omega (arith, c.requires.tables.few, c.loop-g-test.true) in
    omega (arith, few)

pub bounds-orders-g : goal.bounds-orders-g
bounds-orders-g c =
    let few : c.loop-g.g < max_generators = omega (arith, c.requires.tables.few, c.loop-g-test.true) in
    omega (arith, few, c.requires.tables.declared_orders)

pub digit_at-requires : goal.digit_at-requires
digit_at-requires c =
    let some : 0 < get_or c.args.group.now.orders.now c.loop-g.g 0 = order-positive-at c.requires.tables c.loop-g.g c.loop-g-test.true in
    let l = c.loop-g in
    (some, λ e. digit_first c.args.group.now.orders.now c.args.low c.args.h l.digits l.g (c.requires.low_value (omega (arith, c.loop-g-test.true))) (l.invariant.1 e) e)

pub overflow_add-digit_at : goal.overflow_add-digit_at
overflow_add-digit_at c =
    let some : 0 < get_or c.args.group.now.orders.now c.loop-g.g 0 = order-positive-at c.requires.tables c.loop-g.g c.loop-g-test.true in
    let l = c.loop-g in
    omega (arith, c.digit_at.ensures, mod-lt l.digits some, order-small c.requires.tables l.g c.loop-g-test.true)

pub returns-then-digit_at-o : goal.returns-then-digit_at-o
returns-then-digit_at-o c =
    let l = c.loop-g in
    let more = c.loop-g-test.true in
    let mask = (c.shared_slice_known-in-loop-g-1.given l.g).fits in
    let moved = turn_moved c.requires.tables c.requires.order_value c.requires.steps l.g more mask l.x c.turn-x.result c.turn-x.type_inv l.invariant.2 c.turn-x.ensures in
    let clear = turn-clear c.requires.tables c.requires.order_value c.requires.steps l.g more mask l.x c.turn-x.result c.turn-x.type_inv l.invariant.2 c.turn-x.ensures in record {
      clear = clear;
      bits = step-last c.requires.tables c.requires.order_value c.requires.steps l.g more (bit_at c.turn-x.result) l.invariant.3 moved (rw c.digit_at.ensures at c.if-digit_at-o.true);
    }

pub nonzero_div-digits : goal.nonzero_div-digits
nonzero_div-digits c =
    let some : 0 < get_or c.args.group.now.orders.now c.loop-g.g 0 = order-positive-at c.requires.tables c.loop-g.g c.loop-g-test.true in
    some

pub loop-g-preserved : goal.loop-g-preserved
loop-g-preserved c =
    let l = c.loop-g in
    let more = c.loop-g-test.true in
    let mask = (c.shared_slice_known-in-loop-g-1.given l.g).fits in
    let moved = turn_moved c.requires.tables c.requires.order_value c.requires.steps l.g more mask l.x c.turn-x.result c.turn-x.type_inv l.invariant.2 c.turn-x.ensures in
    let clear = turn-clear c.requires.tables c.requires.order_value c.requires.steps l.g more mask l.x c.turn-x.result c.turn-x.type_inv l.invariant.2 c.turn-x.ensures in
    (omega (arith, more), λ e. absurd (omega arith), clear, step-next c.requires.tables c.requires.order_value c.requires.steps l.g more (bit_at c.turn-x.result) l.invariant.3 moved (rw c.digit_at.ensures at c.if-digit_at-o.false))

pub returns : goal.returns
returns c =
    let l = c.loop-g in record {
      clear = l.invariant.2;
      bits = step_end c.requires.tables c.requires.order_value c.requires.steps l.g c.loop-g-test.false l.invariant.3;
    }
