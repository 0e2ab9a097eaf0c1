use Prim.Native.Nat.{◌<◌}
use mathlib.Core.Path.{ap, ◌∙◌}
use native.Mathlib.Omega.{arith}
use lib.ListN.{length, length-set}
use Rattle.permutation.specs.Limits.{max_generators}
use Rattle.rotation.proofs.Shaping.{row-rotates, shaped_next}
use Rattle.rotation.proofs.shape.find_shapes.Goals as goal

pub loop-g-init : goal.loop-g-init
loop-g-init c = (omega arith, ap length c.new-shapes.ensures.0, ap length c.new-shapes.ensures.1, λ h k. absurd (omega arith))

pub overflow_mul-start : goal.overflow_mul-start
overflow_mul-start c = omega (arith, c.requires)

pub overflow_add-end : goal.overflow_add-end
overflow_add-end c = omega (arith, c.requires)

pub offset_bounds-targets-start : goal.offset_bounds-targets-start
offset_bounds-targets-start c = omega (arith, c.requires)

pub slice_bounds-shape_of-start : goal.slice_bounds-shape_of-start
slice_bounds-shape_of-start c = omega arith

pub loop-g-preserved : goal.loop-g-preserved
loop-g-preserved c =
    let l = c.loop-g in
    let s = c.in_ok-stride.field-0 in
    let n = c.args.group.now.sites in
    let targets = c.args.group.now.targets.now in
    let room : l.g < max_generators = omega (arith, c.requires.1, c.loop-g-test.true) in (
      omega (arith, c.loop-g-test.true),
      length-set l.shapes.strides l.g s.stride ∙ l.invariant.1,
      length-set l.shapes.rests l.g s.rest ∙ l.invariant.2,
      shaped_next n targets l.shapes.strides l.shapes.rests l.g s.stride s.rest (rw l.invariant.1 room) (rw l.invariant.2 room) l.invariant.3
          (row-rotates n l.g targets c.requires.0 c.requires.2 room c.in_ok-stride.ensures),
    )

pub returns : goal.returns
returns c =
    let l = c.loop-g in
    record { stride_count = l.invariant.1; rest_count = l.invariant.2; each = λ g h. l.invariant.3 g (omega (arith, c.loop-g-test.false)) }
