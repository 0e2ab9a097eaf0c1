use Prim.Native.Nat.{ℕ, ◌*◌}
use mathlib.Core.Path.{refl, sym, ap, ◌∙◌}
use mathlib.Core.Bool.{false≢true}
use native.Mathlib.Omega.{arith}
use borrow.Author.Tests.{not-false}
use borrow.Author.Count.{below_more}
use lib.ListN.{get_or}
use Rattle.action.specs.Arithmetic.{product}
use Rattle.elements.proofs.TableRows.{order-positive-at}
use Rattle.grid.proofs.Grids.{axes-all, place-positive, place-times, place-next}
use Rattle.grid.proofs.axes.is_grid.Goals as goal

pub loop-g-init : goal.loop-g-init
unfolding product
loop-g-init c = (omega arith, refl, λ j l. absurd (omega arith))

pub is_axis-requires : goal.is_axis-requires
is_axis-requires c =
    let l = c.loop-g in
    let more = c.loop-g-test.true in (
      rw l.invariant.1 (place-positive c.requires.tables l.g (omega (arith, more))),
      order-positive-at c.requires.tables l.g more,
      rw l.invariant.1 (place-times c.requires.tables l.g more),
      (c.requires.shapes.each l.g more).blocks.small,
    )

pub returns-then-not-is_axis : goal.returns-then-not-is_axis
returns-then-not-is_axis c t = absurd (false≢true t)

pub overflow_mul-place : goal.overflow_mul-place
overflow_mul-place c =
    let l = c.loop-g in
    let more = c.loop-g-test.true in
    rw l.invariant.1 (omega (arith, place-times c.requires.tables l.g more))

pub loop-g-preserved : goal.loop-g-preserved
loop-g-preserved c =
    let l = c.loop-g in
    let more = c.loop-g-test.true in
    let axis = c.is_axis.ensures (not-false c.is_axis.result c.if-not-is_axis.false-raw) in (
      omega (arith, more),
      ap (λ (p : ℕ). p * get_or c.args.group.now.orders.now l.g 0) l.invariant.1 ∙ sym (place-next c.requires.tables l.g more),
      below_more _ l.g l.invariant.2 (rw l.invariant.1 at axis),
    )

pub returns : goal.returns
returns c t =
    let l = c.loop-g in
    axes-all c.requires.tables c.requires.shapes (λ g h. l.invariant.2 g (omega (arith, c.loop-g-test.false)))
