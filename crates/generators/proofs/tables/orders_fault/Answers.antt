use mathlib.Core.Path.{refl, sym, ap, ◌∙◌}
use native.Mathlib.Omega.{arith}
use lib.ListN.{get_or}
use Rattle.permutation.specs.Generators.{row_at}
use Rattle.permutation.specs.Parts.{exact_outcome}
use Rattle.outcome.specs.declared.Refusal.{Refusal}
use Rattle.outcome.specs.Outcome.{alone, outcome_of}
use Rattle.generators.proofs.Faults.{order-zero, order-overflow, order_other, order_same}
use Rattle.generators.proofs.Rows.{part-row, orders_none, orders-broken, orders-next}
use Rattle.generators.proofs.tables.orders_fault.Goals as goal

pub loop-g-init : goal.loop-g-init
loop-g-init c = (omega arith, refl)

pub offset_bounds-orders-g : goal.offset_bounds-orders-g
offset_bounds-orders-g c = omega arith

pub bounds-orders-g : goal.bounds-orders-g
bounds-orders-g c = omega arith

pub returns-then-declared-eq0 : goal.returns-then-declared-eq0
returns-then-declared-eq0 c =
    let a = c.args in
    let row = row_at a.group.now.sites a.group.now.targets.now c.loop-g.g in
    let declared = get_or a.group.now.orders.now c.loop-g.g 0 in
    sym
    (ap alone
    (c.loop-g.invariant.1
    ∙ orders-broken a.group.now.generators a.group.now.sites a.group.now.targets.now a.group.now.orders.now (omega arith) c.loop-g.g c.loop-g-test.true
    (Refusal.ZeroOrder c.loop-g.g) (order-zero row c.loop-g.g declared c.if-declared-eq0.true)))

pub overflow_mul-start : goal.overflow_mul-start
overflow_mul-start c = omega arith

pub overflow_add-end : goal.overflow_add-end
overflow_add-end c = omega arith

pub offset_bounds-targets-start : goal.offset_bounds-targets-start
offset_bounds-targets-start c = omega arith

pub slice_bounds-exact_order-count : goal.slice_bounds-exact_order-count
slice_bounds-exact_order-count c = omega arith

pub slice_bounds-exact_order-start : goal.slice_bounds-exact_order-start
slice_bounds-exact_order-start c = omega arith

pub slice_bounds-exact_order-end : goal.slice_bounds-exact_order-end
slice_bounds-exact_order-end c = omega arith

pub exact_order-requires : goal.exact_order-requires
exact_order-requires c =
    let row = part-row c.args.group.now.sites c.args.group.now.targets.now c.loop-g.g in
    let ok = c.requires.by_index c.loop-g.g c.loop-g-test.true in
    rw (row, ok.long) (ok, c.requires.targets_len.3)

pub returns-in_default : goal.returns-in_default
returns-in_default c =
    let a = c.args in
    let row = row_at a.group.now.sites a.group.now.targets.now c.loop-g.g in
    let declared = get_or a.group.now.orders.now c.loop-g.g 0 in
    sym
    (ap alone
    (c.loop-g.invariant.1
    ∙ orders-broken a.group.now.generators a.group.now.sites a.group.now.targets.now a.group.now.orders.now (omega arith) c.loop-g.g c.loop-g-test.true
    (Refusal.PermutationOrderOverflow c.loop-g.g)
    (order-overflow row c.loop-g.g declared c.if-declared-eq0.false c.in_default.field-0 (sym (c.exact_order.ensures ∙ ap (exact_outcome c.loop-g.g) (part-row a.group.now.sites a.group.now.targets.now c.loop-g.g))
    ∙ ap outcome_of c.in_default.is))))

pub returns-then-declared-exact : goal.returns-then-declared-exact
returns-then-declared-exact c =
    let a = c.args in
    let row = row_at a.group.now.sites a.group.now.targets.now c.loop-g.g in
    let declared = get_or a.group.now.orders.now c.loop-g.g 0 in
    let exact = c.in-Ok.exact in
    sym
    (ap alone
    (c.loop-g.invariant.1
    ∙ orders-broken a.group.now.generators a.group.now.sites a.group.now.targets.now a.group.now.orders.now (omega arith) c.loop-g.g c.loop-g-test.true
    (Refusal.OrderMismatch c.loop-g.g declared exact)
    (order_other row c.loop-g.g declared c.if-declared-eq0.false exact (sym (c.exact_order.ensures ∙ ap (exact_outcome c.loop-g.g) (part-row a.group.now.sites a.group.now.targets.now c.loop-g.g))
    ∙ ap outcome_of c.in-Ok.is) c.if-declared-exact.true)))

pub loop-g-preserved : goal.loop-g-preserved
loop-g-preserved c =
    let a = c.args in
    let row = row_at a.group.now.sites a.group.now.targets.now c.loop-g.g in
    let declared = get_or a.group.now.orders.now c.loop-g.g 0 in
    let exact = c.in-Ok.exact in (
      omega arith,
      c.loop-g.invariant.1
          ∙ orders-next a.group.now.generators a.group.now.sites a.group.now.targets.now a.group.now.orders.now (omega arith) c.loop-g.g c.loop-g-test.true
          (order_same row c.loop-g.g declared c.if-declared-eq0.false exact (sym (c.exact_order.ensures ∙ ap (exact_outcome c.loop-g.g) (part-row a.group.now.sites a.group.now.targets.now c.loop-g.g))
          ∙ ap outcome_of c.in-Ok.is) c.if-declared-exact.false),
    )

pub returns : goal.returns
returns c =
    let a = c.args in
    sym (ap alone (c.loop-g.invariant.1 ∙ orders_none a.group.now.generators a.group.now.sites a.group.now.targets.now a.group.now.orders.now c.loop-g.g c.loop-g-test.false))
