use mathlib.Core.Path.{ap}
use lib.ListN.{length-set}
use Rattle.action.specs.Arithmetic.{product}
use Rattle.elements.proofs.TableRows.{order-positive-at}
use Rattle.grid.proofs.Grids.{place-positive, place-next}
use Rattle.renumbered.proofs.Filling.{round_within, filled_next, filled-axes}
use mathlib.Core.Path.{refl, sym, ◌∙◌}
use lib.ListN.{length, get_or}
use Prim.Native.Nat.{ℕ, ◌*◌}
use native.Mathlib.Omega.{arith}
use Rattle.renumbered.proofs.axes.axis_shapes.Goals as goal

pub loop-g-init : goal.loop-g-init
unfolding product
loop-g-init c = (omega arith, refl, ap length c.new-shapes.ensures.0, ap length c.new-shapes.ensures.1, λ j h. absurd (omega arith))

pub axis_shape-shape-requires : goal.axis_shape-shape-requires
axis_shape-shape-requires c =
    let l = c.loop-g in
    let more = c.loop-g-test.true in (
      rw l.invariant.1 (place-positive c.requires.tables l.g (omega (arith, more))),
      order-positive-at c.requires.tables l.g more,
      rw l.invariant.1 (omega (arith, round_within c.requires.tables l.g more, c.requires.orders_bound)),
    )

pub overflow_mul-place : goal.overflow_mul-place
overflow_mul-place c = let l = c.loop-g in rw l.invariant.1 (omega (arith, round_within c.requires.tables l.g c.loop-g-test.true, c.requires.orders_bound))

pub loop-g-preserved : goal.loop-g-preserved
loop-g-preserved c =
    let l = c.loop-g in
    let more = c.loop-g-test.true in (
      omega (arith, more),
      ap (λ (p : ℕ). p * get_or c.args.group.now.orders.now l.g 0) l.invariant.1 ∙ sym (place-next c.requires.tables l.g more),
      length-set l.shapes.strides l.g c.axis_shape-shape.result.stride ∙ l.invariant.2,
      length-set l.shapes.rests l.g c.axis_shape-shape.result.rest ∙ l.invariant.3,
      filled_next l.shapes.strides l.shapes.rests l.g (omega (arith, c.requires.tables.few, more, l.invariant.2)) (omega (arith, c.requires.tables.few, more, l.invariant.3)) l.invariant.4
          record { axis = rw l.invariant.1 at c.axis_shape-shape.ensures.axis; some = c.axis_shape-shape.ensures.some; small = c.axis_shape-shape.ensures.small },
    )

pub returns : goal.returns
returns c = let l = c.loop-g in filled-axes c.requires.tables l.invariant.2 l.invariant.3 c.loop-g-test.false l.invariant.4
