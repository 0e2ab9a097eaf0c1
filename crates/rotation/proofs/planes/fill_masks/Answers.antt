use Prim.Native.Nat.{◌+◌, ◌*◌, ◌≤◌}
use mathlib.Core.Path.{refl, ◌∙◌}
use native.Mathlib.Omega.{arith}
use lib.ListN.{length}
use Rattle.elements.proofs.Orbits.{part_length}
use Rattle.rotation.proofs.Moved.{masks_next, replaced-length, part-inside}
use Rattle.rotation.proofs.planes.fill_masks.Goals as goal

pub loop-g-init : goal.loop-g-init
loop-g-init c = (omega arith, refl, λ h l. absurd (omega arith))

pub overflow_mul-start : goal.overflow_mul-start
overflow_mul-start c =
    omega (arith, part-inside c.args.m c.loop-g.g (omega (arith, c.requires.strides_len.2, c.loop-g-test.true)), c.requires.sites_bound.1)

pub overflow_add-end : goal.overflow_add-end
overflow_add-end c =
    omega (arith, part-inside c.args.m c.loop-g.g (omega (arith, c.requires.strides_len.2, c.loop-g-test.true)), c.requires.sites_bound.1)

pub offset_bounds-strides-g : goal.offset_bounds-strides-g
offset_bounds-strides-g c = omega (arith, c.requires.strides_len.2, c.loop-g-test.true)

pub bounds-strides-g : goal.bounds-strides-g
bounds-strides-g c = omega (arith, c.requires.strides_len, c.loop-g-test.true)

pub offset_bounds-rests-g : goal.offset_bounds-rests-g
offset_bounds-rests-g c = omega (arith, c.requires.strides_len.2, c.loop-g-test.true)

pub bounds-rests-g : goal.bounds-rests-g
bounds-rests-g c = omega (arith, c.requires.strides_len, c.loop-g-test.true)

pub overflow_add-block : goal.overflow_add-block
overflow_add-block c = omega (arith, c.requires.by_index c.loop-g.g c.loop-g-test.true)

pub offset_bounds-masks-start : goal.offset_bounds-masks-start
offset_bounds-masks-start c =
    omega (arith, part-inside c.args.m c.loop-g.g (omega (arith, c.requires.strides_len.2, c.loop-g-test.true)), c.requires.sites_bound.1)

pub slice_bounds-keep_mask-count : goal.slice_bounds-keep_mask-count
slice_bounds-keep_mask-count c = omega arith

pub slice_bounds-keep_mask-start : goal.slice_bounds-keep_mask-start
slice_bounds-keep_mask-start c = omega arith

pub slice_bounds-keep_mask-end : goal.slice_bounds-keep_mask-end
slice_bounds-keep_mask-end c =
    let l = c.loop-g in
    omega (arith, part-inside c.args.m l.g (omega (arith, c.requires.strides_len.2, c.loop-g-test.true)), c.requires.sites_bound.2, l.invariant.1)

pub keep_mask-requires : goal.keep_mask-requires
keep_mask-requires c =
    let l = c.loop-g in
    let fine = c.requires.by_index l.g c.loop-g-test.true in
    let room : c.args.m * l.g + c.args.m ≤ length l.masks = omega (arith, part-inside c.args.m l.g (omega (arith, c.requires.strides_len.2, c.loop-g-test.true)), c.requires.sites_bound.2, l.invariant.1) in
    (fine.0, fine.1, omega arith, rw (part_length c.args.m l.g l.masks room) c.requires.sites_bound.0)

pub loop-g-preserved : goal.loop-g-preserved
loop-g-preserved c =
    let l = c.loop-g in
    let more = c.loop-g-test.true in
    let room : c.args.m * l.g + c.args.m ≤ length l.masks = omega (arith, part-inside c.args.m l.g (omega (arith, c.requires.strides_len.2, more)), c.requires.sites_bound.2, l.invariant.1) in
    let long = c.keep_mask.auto.mask ∙ part_length c.args.m l.g l.masks room in (
      omega (arith, more),
      replaced-length c.args.m l.g l.masks c.keep_mask.new.mask long room ∙ l.invariant.1,
      masks_next c.args.sites c.args.m l.g c.args.strides.now c.args.rests.now l.masks c.keep_mask.new.mask long room l.invariant.2 c.keep_mask.ensures,
    )

pub returns : goal.returns
returns c =
    let l = c.loop-g in
    record { room = rw l.invariant.1 c.requires.sites_bound.2; each = λ g h. l.invariant.2 g (omega (arith, c.loop-g-test.false)) }
