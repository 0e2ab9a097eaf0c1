use mathlib.Core.Path.{refl, sym, ◌∙◌}
use native.Mathlib.Omega.{arith}
use Rattle.elements.proofs.Counters.{below_next, below_fails, below_end}
use Rattle.elements.proofs.index.are_digits.Goals as goal

pub loop-g-init : goal.loop-g-init
loop-g-init c = (omega arith, refl)

pub offset_bounds-orders-g : goal.offset_bounds-orders-g
offset_bounds-orders-g c = omega (arith, c.requires.tables.few)

pub bounds-orders-g : goal.bounds-orders-g
bounds-orders-g c = omega (arith, c.requires.tables.few, c.requires.tables.declared_orders)

pub offset_bounds-counter-g : goal.offset_bounds-counter-g
offset_bounds-counter-g c = omega (arith, c.requires.tables.few)

pub bounds-counter-g : goal.bounds-counter-g
bounds-counter-g c = omega (arith, c.requires.counter_len)

pub returns-then-orders-g : goal.returns-then-orders-g
returns-then-orders-g c =
    let l = c.loop-g in
    sym (below_fails c.requires.tables c.args.counter.now l.g c.requires.counter_len c.loop-g-test.true c.if-orders-g.true) ∙ l.invariant.1

pub loop-g-preserved : goal.loop-g-preserved
loop-g-preserved c =
    let l = c.loop-g in
    (omega (arith, c.loop-g-test.true), below_next c.requires.tables c.args.counter.now l.g c.requires.counter_len c.loop-g-test.true c.if-orders-g.false ∙ l.invariant.1)

pub returns : goal.returns
returns c =
    let l = c.loop-g in
    sym (below_end c.requires.tables c.args.counter.now l.g c.loop-g-test.false) ∙ l.invariant.1
