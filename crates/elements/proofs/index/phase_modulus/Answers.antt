use Prim.Native.Nat.{◌-◌}
use mathlib.Core.Path.{sym, ◌∙◌}
use native.Mathlib.Omega.{arith}
use Rattle.elements.proofs.Indices.{multiple_all, multiple-small, multiple-next, multiple-end, gcd-positive}
use Rattle.elements.proofs.index.phase_modulus.Goals as goal

pub loop-g-init : goal.loop-g-init
loop-g-init c =
    (omega arith, sym (multiple-end c.requires c.args.group.now.generators (omega arith)))

pub offset_bounds-orders-g : goal.offset_bounds-orders-g
offset_bounds-orders-g c = omega (arith, c.requires.few)

pub bounds-orders-g : goal.bounds-orders-g
bounds-orders-g c =
    let t = c.requires in
    omega (arith, t.few, t.declared_orders)

pub nonzero_div-least : goal.nonzero_div-least
nonzero_div-least c =
    let l = c.loop-g in
    rw c.gcd.ensures (gcd-positive c.requires (l.g - 1) l.least (omega arith))

pub overflow_mul-least : goal.overflow_mul-least
overflow_mul-least c =
    let t = c.requires in
    let l = c.loop-g in
    let next = multiple-next t l.g l.least c.gcd.result (omega arith) (omega arith) l.invariant.1 c.gcd.ensures in
    omega (arith, next, multiple-small t (l.g - 1))

pub loop-g-preserved : goal.loop-g-preserved
loop-g-preserved c =
    let t = c.requires in
    let l = c.loop-g in
    let next = multiple-next t l.g l.least c.gcd.result (omega arith) (omega arith) l.invariant.1 c.gcd.ensures in
    (omega arith, next)

pub returns : goal.returns
returns c =
    let l = c.loop-g in
    l.invariant.1 ∙ multiple_all l.g _ c.loop-g-test.false
