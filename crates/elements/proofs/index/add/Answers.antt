use Prim.Native.Nat.{◌+◌}
use native.Mathlib.Nat.{one-mul, mod-lt}
use native.Mathlib.Omega.{arith}
use Rattle.elements.proofs.TableRows.{order-positive-at}
use Rattle.elements.proofs.Indices.{factor-small, order-next, sum-next, sum-small, sum-end}
use Rattle.elements.proofs.index.add.Goals as goal

pub loop-g-init : goal.loop-g-init
loop-g-init c = (omega arith, one-mul _, omega arith)

pub offset_bounds-orders-g : goal.offset_bounds-orders-g
offset_bounds-orders-g c = omega (arith, c.requires.few)

pub bounds-orders-g : goal.bounds-orders-g
bounds-orders-g c =
    let t = c.requires in
    omega (arith, t.few, t.declared_orders)

pub nonzero_rem-out : goal.nonzero_rem-out
nonzero_rem-out c = order-positive-at c.requires c.loop-g.g c.loop-g-test.true

pub nonzero_rem-out-in-loop-g : goal.nonzero_rem-out-in-loop-g
nonzero_rem-out-in-loop-g c = order-positive-at c.requires c.loop-g.g c.loop-g-test.true

pub overflow_add-out : goal.overflow_add-out
overflow_add-out c =
    let l = c.loop-g in
    let o = order-positive-at c.requires l.g c.loop-g-test.true in
    omega (arith, mod-lt l.a o, mod-lt l.b o)

pub nonzero_rem-out-in-loop-g-2 : goal.nonzero_rem-out-in-loop-g-2
nonzero_rem-out-in-loop-g-2 c = order-positive-at c.requires c.loop-g.g c.loop-g-test.true

pub overflow_mul-out : goal.overflow_mul-out
overflow_mul-out c =
    let l = c.loop-g in
    let next = sum-next c.requires l.out l.place l.g l.a l.b c.args.i c.args.j c.loop-g-test.true l.invariant.2 in
    omega (arith, sum-small c.requires _ _ c.args.i c.args.j next)

pub overflow_add-out-in-loop-g : goal.overflow_add-out-in-loop-g
overflow_add-out-in-loop-g c =
    let l = c.loop-g in
    let next = sum-next c.requires l.out l.place l.g l.a l.b c.args.i c.args.j c.loop-g-test.true l.invariant.2 in
    omega (arith, sum-small c.requires _ _ c.args.i c.args.j next)

pub overflow_mul-place : goal.overflow_mul-place
overflow_mul-place c =
    let t = c.requires in
    let l = c.loop-g in
    omega (arith, factor-small t _ (l.g + 1) (order-next t l.place l.g c.loop-g-test.true l.invariant.1))

pub nonzero_div-a : goal.nonzero_div-a
nonzero_div-a c = order-positive-at c.requires c.loop-g.g c.loop-g-test.true

pub nonzero_div-b : goal.nonzero_div-b
nonzero_div-b c = order-positive-at c.requires c.loop-g.g c.loop-g-test.true

pub loop-g-preserved : goal.loop-g-preserved
loop-g-preserved c =
    let l = c.loop-g in
    let next = sum-next c.requires l.out l.place l.g l.a l.b c.args.i c.args.j c.loop-g-test.true l.invariant.2 in
    (omega arith, order-next c.requires l.place l.g c.loop-g-test.true l.invariant.1, next)

pub returns : goal.returns
returns c =
    let l = c.loop-g in
    sum-end c.requires l.out l.place l.g l.a l.b c.args.i c.args.j c.loop-g-test.false l.invariant.2
