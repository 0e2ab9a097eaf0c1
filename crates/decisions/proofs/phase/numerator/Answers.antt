use Prim.Native.Nat.{◌≤◌}
use mathlib.Core.Path.{◌≡◌}
use native.Mathlib.Nat.{zero-add}
use native.Mathlib.Omega.{arith}
use lib.ListN.{get_or}
use lib.IntN.{pos}
use Rattle.decisions.proofs.Phases.{turn, turn_small, turn_read, sum-next, sum-numerator, modulus-small, modulus-positive}
use Rattle.permutation.specs.Limits.{max_order}
use Rattle.elements.proofs.TableRows.{order-positive-at}
use Rattle.decisions.proofs.phase.numerator.Goals as goal
use Rattle.decisions.proofs.phase.numerator.Lts as lts
use Rattle.decisions.proofs.phase.numerator.Tie as tie
use Rattle.decisions.proofs.phase.numerator.Reads as reads

abbrev ctx-After-phase : Type 0
ctx-After-phase = lts.After-phase tie.the-claims reads.Pre reads.Post goal.the-invariant-loop-g goal.the-decreases-loop-g tie.handed_clauses

pub loop-g-init : goal.loop-g-init
loop-g-init c = (omega arith, omega arith, zero-add _)

pub offset_bounds-modes-g : goal.offset_bounds-modes-g
offset_bounds-modes-g c = omega (arith, c.requires.tables.few)

pub bounds-modes-g : goal.bounds-modes-g
bounds-modes-g c = omega (arith, c.requires.modes_len.0)

pub offset_bounds-counter-g : goal.offset_bounds-counter-g
offset_bounds-counter-g c = omega (arith, c.requires.tables.few)

pub bounds-counter-g : goal.bounds-counter-g
bounds-counter-g c = omega (arith, c.requires.modes_len.1)

pub offset_bounds-orders-g : goal.offset_bounds-orders-g
offset_bounds-orders-g c = omega (arith, c.requires.tables.few)

pub bounds-orders-g : goal.bounds-orders-g
bounds-orders-g c =
    let t = c.requires.tables in
    omega (arith, t.few, t.declared_orders)

pub phase-sum-requires : goal.phase-sum-requires
phase-sum-requires c = order-positive-at c.requires.tables c.loop-g.g c.loop-g-test.true

-- what this generator adds
adds : (c : ctx-After-phase)
    → let l = c.loop-g in
    (c.phase-sum.result ≡ turn c.args.modulus (get_or c.args.group.now.orders.now l.g 0) (get_or c.args.modes.now l.g (pos 0)) (get_or c.args.counter.now l.g 0))
adds c =
    let g = c.loop-g.g in
    turn_read c.args.modulus (get_or c.args.group.now.orders.now g 0) (get_or c.args.modes.now g (pos 0)) (get_or c.args.counter.now g 0)
    c.phase-sum.result c.phase-arg-1.given c.phase-sum.ensures

-- and it is at most the order limit
small : (c : ctx-After-phase) → c.phase-sum.result ≤ max_order
small c =
    let g = c.loop-g.g in
    omega (
      arith,
      adds c,
      turn_small c.args.modulus (get_or c.args.group.now.orders.now g 0) (get_or c.args.modes.now g (pos 0)) (get_or c.args.counter.now g 0)
          (order-positive-at c.requires.tables g c.loop-g-test.true),
      modulus-small c.requires.tables c.args.modulus c.requires.modulus_value,
    )

pub overflow_add-sum : goal.overflow_add-sum
overflow_add-sum c = omega (arith, small c.before, c.requires.tables.few)

pub loop-g-preserved : goal.loop-g-preserved
loop-g-preserved c =
    let l = c.loop-g in (
      omega arith,
      omega (arith, small c.before),
      sum-next c.requires.tables c.args.modes.now c.args.counter.now c.requires.modes_len.0 c.requires.modes_len.1 c.args.modulus l.sum l.g _
          c.phase-sum.result c.loop-g-test.true (adds c.before) l.invariant.2,
    )

pub nonzero_rem-result : goal.nonzero_rem-result
nonzero_rem-result c =
    modulus-positive c.requires.tables c.args.modulus c.requires.modulus_value

pub returns : goal.returns
returns c =
    let l = c.loop-g in
    sum-numerator c.requires.tables c.args.modes.now c.args.counter.now c.requires.modes_len.0 c.requires.modes_len.1 c.args.modulus l.sum l.g
    c.loop-g-test.false c.requires.modulus_value l.invariant.2
