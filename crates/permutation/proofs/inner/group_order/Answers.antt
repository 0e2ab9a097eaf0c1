use Prim.Native.Nat.{ℕ, ◌*◌}
use mathlib.Core.Path.{◌≡◌, refl, sym, ap, ◌∙◌}
use native.Mathlib.Nat.{le-div_iff_mul-le}
use native.Mathlib.Numerals.{add-one}
use native.Mathlib.Omega.{arith}
use lib.ListN.{take, get_or}
use Rattle.outcome.specs.Outcome.{answer}
use Rattle.action.specs.Arithmetic.{product}
use Rattle.permutation.proofs.Products.{product-next, product-overflow, product_fits}
use Rattle.permutation.proofs.inner.group_order.Goals as goal

pub loop-g-init : goal.loop-g-init
unfolding product
loop-g-init c = (omega arith, omega arith, refl)

pub offset_bounds-orders-g : goal.offset_bounds-orders-g
offset_bounds-orders-g c = omega arith

pub bounds-orders-g : goal.bounds-orders-g
bounds-orders-g c = omega arith

pub nonzero_div-o : goal.nonzero_div-o
nonzero_div-o c = c.requires.by_index c.loop-g.g c.loop-g-test.true

pub returns-then-o-order : goal.returns-then-o-order
returns-then-o-order c =
    let l = c.loop-g in
    sym
    (product-overflow c.args.orders.now c.args.generators c.requires.generators_in_bounds c.requires.by_index l.g c.loop-g-test.true
    (omega (arith, l.invariant.2)))

pub overflow_mul-order : goal.overflow_mul-order
overflow_mul-order c =
    let l = c.loop-g in
    omega (arith, (le-div_iff_mul-le (c.requires.by_index l.g c.loop-g-test.true)).0 c.if-o-order.false)

pub loop-g-preserved : goal.loop-g-preserved
loop-g-preserved c =
    let l = c.loop-g in (
      omega arith,
      (le-div_iff_mul-le (c.requires.by_index l.g c.loop-g-test.true)).0 c.if-o-order.false,
      rw add-one (ap (λ (n : ℕ). n * get_or c.args.orders.now l.g 0) l.invariant.2 ∙ sym (product-next c.args.orders.now l.g (omega arith))),
    )

pub returns : goal.returns
returns c =
    let l = c.loop-g in
    let e : l.g ≡ c.args.generators = omega arith in
    let whole = l.invariant.2 ∙ ap (λ (g : ℕ). product (take g c.args.orders.now)) e in
    ap answer whole ∙ sym (product_fits (take c.args.generators c.args.orders.now) (omega arith))
