use Prim.Native.Nat.{◌+◌}
use native.Mathlib.Nat.{one-mul}
use native.Mathlib.Omega.{arith}
use Rattle.elements.proofs.Indices.{factor-small, order-next, order-end}
use Rattle.elements.proofs.index.order.Goals as goal

pub loop-g-init : goal.loop-g-init
loop-g-init c = (omega arith, one-mul _)

pub offset_bounds-orders-g : goal.offset_bounds-orders-g
offset_bounds-orders-g c = omega (arith, c.requires.few)

pub bounds-orders-g : goal.bounds-orders-g
bounds-orders-g c =
    let t = c.requires in
    omega (arith, t.few, t.declared_orders)

pub overflow_mul-product : goal.overflow_mul-product
overflow_mul-product c =
    let t = c.requires in
    let l = c.loop-g in
    omega (arith, factor-small t _ (l.g + 1) (order-next t l.product l.g c.loop-g-test.true l.invariant.1))

pub loop-g-preserved : goal.loop-g-preserved
loop-g-preserved c =
    let l = c.loop-g in
    (omega arith, order-next c.requires l.product l.g c.loop-g-test.true l.invariant.1)

pub returns : goal.returns
returns c =
    let l = c.loop-g in
    order-end c.requires l.product l.g c.loop-g-test.false l.invariant.1
