use mathlib.Core.Path.{refl, sym, ◌∙◌}
use native.Mathlib.Nat.{mod-lt}
use native.Mathlib.Omega.{arith}
use lib.ListN.{length-set}
use Rattle.elements.proofs.TableRows.{order-positive-at}
use Rattle.elements.proofs.Indices.{counter_next, counter-end}
use Rattle.elements.proofs.index.fill_counter.Goals as goal

pub loop-g-init : goal.loop-g-init
loop-g-init c = (omega arith, refl, refl)

pub offset_bounds-orders-g : goal.offset_bounds-orders-g
offset_bounds-orders-g c = omega (arith, c.requires.tables.few)

pub bounds-orders-g : goal.bounds-orders-g
bounds-orders-g c =
    let t = c.requires.tables in
    omega (arith, t.few, t.declared_orders)

pub nonzero_rem-counter : goal.nonzero_rem-counter
nonzero_rem-counter c = order-positive-at c.requires.tables c.loop-g.g c.loop-g-test.true

pub overflow_cast-counter : goal.overflow_cast-counter
overflow_cast-counter c =
    let l = c.loop-g in
    let o = order-positive-at c.requires.tables l.g c.loop-g-test.true in
    omega (arith, mod-lt l.rest o)

pub offset_bounds-counter-g : goal.offset_bounds-counter-g
offset_bounds-counter-g c = omega (arith, c.requires.tables.few)

pub bounds-counter-g : goal.bounds-counter-g
bounds-counter-g c = omega (arith, c.requires.generators_in_bounds)

pub nonzero_div-rest : goal.nonzero_div-rest
nonzero_div-rest c = order-positive-at c.requires.tables c.loop-g.g c.loop-g-test.true

pub loop-g-preserved : goal.loop-g-preserved
loop-g-preserved c =
    let l = c.loop-g in (
      omega arith,
      simp length-set l.invariant.1,
      counter_next c.requires.tables l.g l.rest l.counter c.loop-g-test.true (omega arith) ∙ l.invariant.2,
    )

pub returns : goal.returns
returns c =
    let l = c.loop-g in
    sym (counter-end c.requires.tables l.g l.rest l.counter c.loop-g-test.false l.invariant.0) ∙ l.invariant.2
