use Prim.Native.Nat.{ℕ, ◌+◌, ◌-◌, ◌*◌, ◌≤◌, ◌<◌}
use mathlib.Core.Path.{◌≡◌, sym, ◌∙◌}
use mathlib.Core.List.{List}
use native.Mathlib.Omega.{arith}
use lib.ListN.{get_or, drop}
use Rattle.permutation.specs.Limits.{max_order}
use Rattle.permutation.specs.declared.Lent.{Lent}
use Rattle.action.specs.Index.{Digits, index as index_of}
use Rattle.elements.specs.HeldGroup.{generators_held, HoldsGroup}
use Rattle.elements.proofs.Counters.{digits_long, index-start, index-next, index-small}
use Rattle.elements.proofs.index.index_of.Goals as goal

-- the index of the digits from the generator before g on, and its bound
module _ (group : Lent) (tables : HoldsGroup group) (counter : List ℕ) (ok : Digits (generators_held group) counter) (g : ℕ) where
  next :
      (index : ℕ) → 0 < g → g ≤ group.generators → index ≡ index_of (drop g (generators_held group)) (drop g counter)
      → get_or counter (g - 1) 0 + get_or group.orders.now (g - 1) 0 * index ≡ index_of (drop (g - 1) (generators_held group)) (drop (g - 1) counter)
  next index more within e = rw e (index-next tables counter g (digits_long tables counter ok) more within)

  small : index_of (drop (g - 1) (generators_held group)) (drop (g - 1) counter) ≤ max_order
  small = index-small tables counter (g - 1) ok

pub loop-g-init : goal.loop-g-init
loop-g-init c = (omega arith, sym (index-start c.requires.tables c.args.counter.now c.args.group.now.generators (omega arith)))

pub offset_bounds-counter-g : goal.offset_bounds-counter-g
offset_bounds-counter-g c = omega (arith, c.requires.tables.few)

pub bounds-counter-g : goal.bounds-counter-g
bounds-counter-g c = omega (arith, digits_long c.requires.tables c.args.counter.now c.requires.digits, c.loop-g-test.true)

pub offset_bounds-orders-g : goal.offset_bounds-orders-g
offset_bounds-orders-g c = omega (arith, c.requires.tables.few)

pub bounds-orders-g : goal.bounds-orders-g
bounds-orders-g c = omega (arith, c.requires.tables.few, c.requires.tables.declared_orders, c.loop-g-test.true)

pub overflow_mul-index : goal.overflow_mul-index
overflow_mul-index c =
    let l = c.loop-g in
    let r = c.requires in
    let a = c.args in
    omega (
      arith,
      next a.group.now r.tables a.counter.now r.digits l.g l.index c.loop-g-test.true l.invariant.0 l.invariant.1,
      small a.group.now r.tables a.counter.now r.digits l.g,
    )

pub overflow_add-index : goal.overflow_add-index
overflow_add-index c =
    let l = c.loop-g in
    let r = c.requires in
    let a = c.args in
    omega (
      arith,
      next a.group.now r.tables a.counter.now r.digits l.g l.index c.loop-g-test.true l.invariant.0 l.invariant.1,
      small a.group.now r.tables a.counter.now r.digits l.g,
    )

pub loop-g-preserved : goal.loop-g-preserved
loop-g-preserved c =
    let l = c.loop-g in (
      omega arith,
      next c.args.group.now c.requires.tables c.args.counter.now c.requires.digits l.g l.index c.loop-g-test.true l.invariant.0 l.invariant.1,
    )

pub returns : goal.returns
returns c =
    let l = c.loop-g in
    let e : l.g ≡ 0 = omega (arith, c.loop-g-test.false) in
    l.invariant.1 ∙ rw e
