use Prim.Native.Nat.{◌+◌, ◌%◌, ◌<◌}
use mathlib.Core.Path.{refl, sym, ◌∙◌}
use native.Mathlib.Omega.{arith}
use lib.ListN.{get_or}
use Rattle.permutation.specs.Limits.{max_generators}
use Rattle.packed.specs.Packed.{bit_of, letters_at}
use Rattle.packed.proofs.Packing.{letters_by-length}
use Rattle.rotation.specs.Rotation.{Blocks}
use Rattle.rotation.proofs.Reached.{blocks_times, turns_small, reached_start, reached-next, reached-end}
use Rattle.rotation.proofs.reach.reach_by.Goals as goal

pub loop-g-init : goal.loop-g-init
loop-g-init c =
    let w = letters_at c.args.sites c.args.x.now c.args.z.now in
    (omega arith, c.requires.planes_2, refl, λ gs t. reached_start gs c.args.index w)

pub offset_bounds-orders-g : goal.offset_bounds-orders-g
offset_bounds-orders-g c =
    let few : c.loop-g.g < max_generators = omega (arith, c.requires.rotations.few, c.loop-g-test.true) in
    omega (arith, few)

pub bounds-orders-g : goal.bounds-orders-g
bounds-orders-g c =
    let few : c.loop-g.g < max_generators = omega (arith, c.requires.rotations.few, c.loop-g-test.true) in
    omega (arith, few, c.requires.rotations.order_count)

pub offset_bounds-strides-g : goal.offset_bounds-strides-g
offset_bounds-strides-g c =
    let few : c.loop-g.g < max_generators = omega (arith, c.requires.rotations.few, c.loop-g-test.true) in
    omega (arith, few)

pub bounds-strides-g : goal.bounds-strides-g
bounds-strides-g c =
    let few : c.loop-g.g < max_generators = omega (arith, c.requires.rotations.few, c.loop-g-test.true) in
    omega (arith, few, c.requires.rotations.stride_count)

pub offset_bounds-rests-g : goal.offset_bounds-rests-g
offset_bounds-rests-g c =
    let few : c.loop-g.g < max_generators = omega (arith, c.requires.rotations.few, c.loop-g-test.true) in
    omega (arith, few)

pub bounds-rests-g : goal.bounds-rests-g
bounds-rests-g c =
    let few : c.loop-g.g < max_generators = omega (arith, c.requires.rotations.few, c.loop-g-test.true) in
    omega (arith, few, c.requires.rotations.rest_count)

pub overflow_add-block : goal.overflow_add-block
overflow_add-block c =
    let blocks : Blocks c.args.sites (get_or c.args.shapes.now.strides c.loop-g.g 0) (get_or c.args.shapes.now.strides c.loop-g.g 0 + get_or c.args.shapes.now.rests c.loop-g.g 0) = c.requires.rotations.blocks c.loop-g.g c.loop-g-test.true in
    omega (arith, blocks.small)

pub nonzero_rem-rest : goal.nonzero_rem-rest
nonzero_rem-rest c =
    let some : 0 < get_or c.args.orders.now c.loop-g.g 0 = c.requires.rotations.some c.loop-g.g c.loop-g-test.true in
    some

pub overflow_mul-rest : goal.overflow_mul-rest
overflow_mul-rest c =
    let some : 0 < get_or c.args.orders.now c.loop-g.g 0 = c.requires.rotations.some c.loop-g.g c.loop-g-test.true in
    let blocks : Blocks c.args.sites (get_or c.args.shapes.now.strides c.loop-g.g 0) (get_or c.args.shapes.now.strides c.loop-g.g 0 + get_or c.args.shapes.now.rests c.loop-g.g 0) = c.requires.rotations.blocks c.loop-g.g c.loop-g-test.true in
    let l = c.loop-g in
    let o = get_or c.args.orders.now l.g 0 in
    omega (arith, turns_small l.rest o some blocks, c.type_inv.orders l.g)

pub nonzero_rem-rest-in-loop-g : goal.nonzero_rem-rest-in-loop-g
nonzero_rem-rest-in-loop-g c =
    let blocks : Blocks c.args.sites (get_or c.args.shapes.now.strides c.loop-g.g 0) (get_or c.args.shapes.now.strides c.loop-g.g 0 + get_or c.args.shapes.now.rests c.loop-g.g 0) = c.requires.rotations.blocks c.loop-g.g c.loop-g-test.true in
    omega (arith, blocks.inside)

pub turn_by-requires : goal.turn_by-requires
turn_by-requires c =
    let blocks : Blocks c.args.sites (get_or c.args.shapes.now.strides c.loop-g.g 0) (get_or c.args.shapes.now.strides c.loop-g.g 0 + get_or c.args.shapes.now.rests c.loop-g.g 0) = c.requires.rotations.blocks c.loop-g.g c.loop-g-test.true in
    let l = c.loop-g in
    let p = l.invariant.1 in
    let o = get_or c.args.orders.now l.g 0 in record {
      planes_2 = rw p.x_long p;
      blocks = blocks_times blocks (l.rest % o);
    }

pub nonzero_div-rest : goal.nonzero_div-rest
nonzero_div-rest c =
    let some : 0 < get_or c.args.orders.now c.loop-g.g 0 = c.requires.rotations.some c.loop-g.g c.loop-g-test.true in
    some

pub loop-g-preserved : goal.loop-g-preserved
loop-g-preserved c =
    let l = c.loop-g in
    let more = c.loop-g-test.true in
    let w = letters_at c.args.sites l.x l.z in
    let long = letters_by-length c.args.sites (bit_of l.x) (bit_of l.z) in (
      omega (arith, more),
      rw l.invariant.1.x_long at c.turn_by.ensures.planes,
      c.turn_by.auto.z ∙ l.invariant.2,
      λ gs t. l.invariant.3 gs t ∙ reached-next t l.g l.rest w (c.requires.rotations.blocks l.g more) more long c.turn_by.ensures.letters,
    )

pub returns : goal.returns
returns c =
    let l = c.loop-g in record {
      planes = l.invariant.1;
      letters = λ gs t. sym (l.invariant.3 gs t ∙ reached-end t l.g l.rest (letters_at c.args.sites l.x l.z) c.loop-g-test.false);
    }
