use Prim.Native.Nat.{◌+◌}
use native.Mathlib.Nat.{one-mul, mod-lt}
use native.Mathlib.Omega.{arith}
use Rattle.elements.proofs.TableRows.{order-positive-at}
use Rattle.elements.proofs.Indices.{factor-small, order-next, inverse-next, inverse-small, inverse-end}
use Rattle.elements.proofs.index.invert.Goals as goal

pub loop-g-init : goal.loop-g-init
loop-g-init c = (omega arith, one-mul _, omega arith)

pub offset_bounds-orders-g : goal.offset_bounds-orders-g
offset_bounds-orders-g c = omega (arith, c.requires.few)

pub bounds-orders-g : goal.bounds-orders-g
bounds-orders-g c =
    let t = c.requires in
    omega (arith, t.few, t.declared_orders)

pub nonzero_rem-out : goal.nonzero_rem-out
nonzero_rem-out c = order-positive-at c.requires c.loop-g.g c.loop-g-test.true

pub overflow_sub-out : goal.overflow_sub-out
overflow_sub-out c =
    let l = c.loop-g in
    omega (arith, mod-lt l.rest (order-positive-at c.requires l.g c.loop-g-test.true))

pub nonzero_rem-out-in-loop-g : goal.nonzero_rem-out-in-loop-g
nonzero_rem-out-in-loop-g c = order-positive-at c.requires c.loop-g.g c.loop-g-test.true

pub overflow_mul-out : goal.overflow_mul-out
overflow_mul-out c =
    let l = c.loop-g in
    let next = inverse-next c.requires l.out l.place l.g l.rest c.args.index c.loop-g-test.true l.invariant.2 in
    omega (arith, inverse-small c.requires _ _ c.args.index next)

pub overflow_add-out : goal.overflow_add-out
overflow_add-out c =
    let l = c.loop-g in
    let next = inverse-next c.requires l.out l.place l.g l.rest c.args.index c.loop-g-test.true l.invariant.2 in
    omega (arith, inverse-small c.requires _ _ c.args.index next)

pub overflow_mul-place : goal.overflow_mul-place
overflow_mul-place c =
    let t = c.requires in
    let l = c.loop-g in
    omega (arith, factor-small t _ (l.g + 1) (order-next t l.place l.g c.loop-g-test.true l.invariant.1))

pub nonzero_div-rest : goal.nonzero_div-rest
nonzero_div-rest c = order-positive-at c.requires c.loop-g.g c.loop-g-test.true

pub loop-g-preserved : goal.loop-g-preserved
loop-g-preserved c =
    let l = c.loop-g in
    let next = inverse-next c.requires l.out l.place l.g l.rest c.args.index c.loop-g-test.true l.invariant.2 in
    (omega arith, order-next c.requires l.place l.g c.loop-g-test.true l.invariant.1, next)

pub returns : goal.returns
returns c =
    let l = c.loop-g in
    inverse-end c.requires l.out l.place l.g l.rest c.args.index c.loop-g-test.false l.invariant.2
