use native.Mathlib.Nat.{one-mul}
use Rattle.elements.proofs.TableRows.{order-positive-at}
use Rattle.elements.proofs.Indices.{factor-small, order-next}
use Rattle.split.proofs.Spreading.{left-room, left-own, left_other, left_end}
use Prim.Native.Nat.{◌+◌}
use native.Mathlib.Omega.{arith}
use Rattle.split.proofs.index.spread.Goals as goal
use Rattle.split.proofs.index.spread.Goals.{then-labels-g, else-labels-g}

pub loop-g-init : goal.loop-g-init
loop-g-init c = (omega arith, one-mul _, omega arith)

pub offset_bounds-orders-g : goal.offset_bounds-orders-g
offset_bounds-orders-g c = omega (arith, c.requires.tables.few)

pub bounds-orders-g : goal.bounds-orders-g
bounds-orders-g c = let t = c.requires.tables in omega (arith, t.few, t.declared_orders)

pub offset_bounds-labels-g : goal.offset_bounds-labels-g
offset_bounds-labels-g c = omega (arith, c.requires.tables.few)

pub bounds-labels-g : goal.bounds-labels-g
bounds-labels-g c = omega arith

pub nonzero_rem-out : goal.nonzero_rem-out
nonzero_rem-out c = order-positive-at c.requires.tables c.loop-g.g c.loop-g-test.true

pub overflow_mul-out : goal.overflow_mul-out
overflow_mul-out c =
    let l = c.loop-g in
    omega (arith, left-room c.requires.tables c.args.labels.now c.requires.labels_len c.args.part l.out l.place l.g l.rest c.args.index c.loop-g-test.true c.if-labels-g.true l.invariant.2)

pub overflow_add-out : goal.overflow_add-out
overflow_add-out c =
    let l = c.loop-g in
    omega (arith, left-room c.requires.tables c.args.labels.now c.requires.labels_len c.args.part l.out l.place l.g l.rest c.args.index c.loop-g-test.true c.if-labels-g.true l.invariant.2)

pub nonzero_div-rest : goal.nonzero_div-rest
nonzero_div-rest c = order-positive-at c.requires.tables c.loop-g.g c.loop-g-test.true

pub overflow_mul-place : goal.overflow_mul-place
overflow_mul-place c =
    let t = c.requires.tables in
    let l = c.loop-g in
    omega (arith, factor-small t _ (l.g + 1) (order-next t l.place l.g c.loop-g-test.true l.invariant.1))

pub loop-g-preserved : goal.loop-g-preserved
loop-g-preserved c =
    let l = c.loop-g in
    let h = c.loop-g-test.true in (
      omega arith,
      order-next c.requires.tables l.place l.g h l.invariant.1,
      elim c.if-labels-g.branch [
        | then-labels-g w ↦ rw (w.rest-is, w.out-is) (left-own c.requires.tables _ c.requires.labels_len c.args.part l.out l.place l.g l.rest _ h w.if-labels-g.true l.invariant.2)
        | else-labels-g w ↦ rw (w.rest-is, w.out-is) (left_other c.requires.tables _ c.requires.labels_len c.args.part l.out l.place l.g l.rest _ h w.if-labels-g.false l.invariant.2)
      ],
    )

pub returns : goal.returns
returns c =
    let l = c.loop-g in
    left_end c.requires.tables _ c.requires.labels_len c.args.part l.out l.place l.g l.rest _ (omega arith) l.invariant.2
