use Prim.Native.Nat.{◌+◌, ◌*◌, ◌≤◌, ◌<◌}
use mathlib.Core.Path.{refl, sym, ◌∙◌}
use native.Mathlib.Nat.{mod-lt}
use native.Mathlib.Omega.{arith}
use lib.ListN.{get_or}
use Rattle.permutation.specs.Limits.{max_generators}
use Rattle.elements.proofs.TableRows.{order-positive-at}
use Rattle.elements.proofs.Steps.{stepped-end}
use Rattle.packed.specs.Packed.{plane_words, letters_at}
use Rattle.rotation.proofs.Moved.{part-inside, lent-inside, lent_length, lent-keep}
use Rattle.rotation.proofs.Walks.{turned-last, turned_on}
use Rattle.rotation.proofs.walk.advance.Goals as goal

pub loop-g-init : goal.loop-g-init
loop-g-init c = (omega arith, c.requires.planes_2, refl, refl)

pub overflow_mul-start : goal.overflow_mul-start
overflow_mul-start c =
    let few : c.loop-g.g < max_generators = omega (arith, c.requires.tables.few, c.loop-g-test.true) in
    let inside : c.args.m * c.loop-g.g + c.args.m ≤ max_generators * plane_words = omega (arith, part-inside c.args.m c.loop-g.g few, c.requires.planes_2.few) in
    omega (arith, inside)

pub overflow_add-end : goal.overflow_add-end
overflow_add-end c =
    let few : c.loop-g.g < max_generators = omega (arith, c.requires.tables.few, c.loop-g-test.true) in
    let inside : c.args.m * c.loop-g.g + c.args.m ≤ max_generators * plane_words = omega (arith, part-inside c.args.m c.loop-g.g few, c.requires.planes_2.few) in
    omega (arith, inside)

pub offset_bounds-strides-g : goal.offset_bounds-strides-g
offset_bounds-strides-g c =
    let few : c.loop-g.g < max_generators = omega (arith, c.requires.tables.few, c.loop-g-test.true) in
    omega (arith, few)

pub bounds-strides-g : goal.bounds-strides-g
bounds-strides-g c =
    let few : c.loop-g.g < max_generators = omega (arith, c.requires.tables.few, c.loop-g-test.true) in
    omega (arith, few, c.requires.shapes.stride_count)

pub offset_bounds-keeps-start : goal.offset_bounds-keeps-start
offset_bounds-keeps-start c =
    let few : c.loop-g.g < max_generators = omega (arith, c.requires.tables.few, c.loop-g-test.true) in
    let inside : c.args.m * c.loop-g.g + c.args.m ≤ max_generators * plane_words = omega (arith, part-inside c.args.m c.loop-g.g few, c.requires.planes_2.few) in
    omega (arith, inside)

pub slice_bounds-turn-count : goal.slice_bounds-turn-count
slice_bounds-turn-count c = omega arith

pub slice_bounds-turn-start : goal.slice_bounds-turn-start
slice_bounds-turn-start c = omega arith

pub slice_bounds-turn-end : goal.slice_bounds-turn-end
slice_bounds-turn-end c =
    omega (arith, lent-inside c.requires.tables.few c.requires.masks c.loop-g.g c.loop-g-test.true)

pub offset_bounds-rests-g : goal.offset_bounds-rests-g
offset_bounds-rests-g c =
    let few : c.loop-g.g < max_generators = omega (arith, c.requires.tables.few, c.loop-g-test.true) in
    omega (arith, few)

pub bounds-rests-g : goal.bounds-rests-g
bounds-rests-g c =
    let few : c.loop-g.g < max_generators = omega (arith, c.requires.tables.few, c.loop-g-test.true) in
    omega (arith, few, c.requires.shapes.rest_count)

pub overflow_add-stride : goal.overflow_add-stride
overflow_add-stride c = omega (arith, (c.requires.shapes.each c.loop-g.g c.loop-g-test.true).blocks.small)

pub turn-requires : goal.turn-requires
turn-requires c =
    let l = c.loop-g in
    let more = c.loop-g-test.true in
    let long = lent_length c.requires.tables.few c.requires.masks l.g more in record {
      planes_2 = rw long l.invariant.1;
      blocks = (c.requires.shapes.each l.g more).blocks;
      mask = lent-keep c.requires.tables.few c.requires.masks l.g more;
    }

pub offset_bounds-orders-g : goal.offset_bounds-orders-g
offset_bounds-orders-g c =
    let few : c.loop-g.g < max_generators = omega (arith, c.requires.tables.few, c.loop-g-test.true) in
    omega (arith, few)

pub bounds-orders-g : goal.bounds-orders-g
bounds-orders-g c =
    let few : c.loop-g.g < max_generators = omega (arith, c.requires.tables.few, c.loop-g-test.true) in
    omega (arith, few, c.requires.tables.declared_orders)

pub nonzero_rem-rest : goal.nonzero_rem-rest
nonzero_rem-rest c =
    let some : 0 < get_or c.args.group.now.orders.now c.loop-g.g 0 = order-positive-at c.requires.tables c.loop-g.g c.loop-g-test.true in
    some

pub overflow_add-rest : goal.overflow_add-rest
overflow_add-rest c =
    let some : 0 < get_or c.args.group.now.orders.now c.loop-g.g 0 = order-positive-at c.requires.tables c.loop-g.g c.loop-g-test.true in
    let l = c.loop-g in
    omega (arith, mod-lt l.rest some)

pub returns-then-rest-o : goal.returns-then-rest-o
returns-then-rest-o c =
    let l = c.loop-g in
    let more = c.loop-g-test.true in record {
      planes = rw (lent_length c.requires.tables.few c.requires.masks l.g more) at c.turn.ensures.planes;
      letters = turned-last c.requires.tables c.requires.shapes l.g l.rest more (letters_at c.args.group.now.sites l.x l.z) c.turn.ensures.letters c.if-rest-o.true ∙ sym l.invariant.3;
    }

pub nonzero_div-rest : goal.nonzero_div-rest
nonzero_div-rest c =
    let some : 0 < get_or c.args.group.now.orders.now c.loop-g.g 0 = order-positive-at c.requires.tables c.loop-g.g c.loop-g-test.true in
    some

pub loop-g-preserved : goal.loop-g-preserved
loop-g-preserved c =
    let l = c.loop-g in
    let more = c.loop-g-test.true in (
      omega (arith, more),
      rw (lent_length c.requires.tables.few c.requires.masks l.g more) at c.turn.ensures.planes,
      c.turn.auto.z ∙ l.invariant.2,
      l.invariant.3 ∙ turned_on c.requires.tables c.requires.shapes l.g l.rest more (letters_at c.args.group.now.sites l.x l.z) c.turn.ensures.letters c.if-rest-o.false,
    )

pub returns : goal.returns
returns c =
    let l = c.loop-g in record {
      planes = l.invariant.1;
      letters = sym (l.invariant.3 ∙ stepped-end c.requires.tables l.g l.rest (letters_at c.args.group.now.sites l.x l.z) c.loop-g-test.false);
    }
