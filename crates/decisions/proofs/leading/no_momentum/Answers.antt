use mathlib.Core.Path.{sym, ◌∙◌}
use mathlib.Core.Bool.{false≢true, true≢false}
use native.Mathlib.Omega.{arith}
use lib.ListN.{get_or}
use lib.IntN.{pos}
use Rattle.elements.proofs.TableRows.{order-positive-at}
use Rattle.decisions.proofs.Differences.{reduced_read, still-start, still-next, still-end}
use Rattle.decisions.proofs.leading.no_momentum.Goals as goal

pub loop-g-init : goal.loop-g-init
loop-g-init c =
    (omega arith, still-start c.requires.tables c.args.modes.now c.requires.modes_len)

pub offset_bounds-modes-g : goal.offset_bounds-modes-g
offset_bounds-modes-g c = omega (arith, c.requires.tables.few)

pub bounds-modes-g : goal.bounds-modes-g
bounds-modes-g c = omega (arith, c.requires.modes_len)

pub offset_bounds-orders-g : goal.offset_bounds-orders-g
offset_bounds-orders-g c = omega (arith, c.requires.tables.few)

pub bounds-orders-g : goal.bounds-orders-g
bounds-orders-g c =
    let t = c.requires.tables in
    omega (arith, t.few, t.declared_orders)

pub reduced_mode-requires : goal.reduced_mode-requires
reduced_mode-requires c =
    order-positive-at c.requires.tables c.loop-g.g c.loop-g-test.true

pub returns-then-reduced_mode-ne0 : goal.returns-then-reduced_mode-ne0
returns-then-reduced_mode-ne0 c = record {
  yes = (λ e. absurd (false≢true e));
  no = λ e. omega (arith, c.loop-g-test.true);
}

pub loop-g-preserved : goal.loop-g-preserved
loop-g-preserved c =
    let l = c.loop-g in
    let k = get_or c.args.modes.now l.g (pos 0) in
    let read = reduced_read (get_or c.args.group.now.orders.now l.g 0) k c.reduced_mode-arg-1.given c.reduced_mode.ensures in (
      omega (arith, c.loop-g-test.true),
      still-next c.requires.tables c.args.modes.now c.requires.modes_len l.g c.loop-g-test.true (sym read ∙ omega (arith, c.if-reduced_mode-ne0.false)) l.invariant.1,
    )

pub returns : goal.returns
returns c =
    let l = c.loop-g in record {
      yes = (λ e. still-end c.requires.tables c.args.modes.now c.requires.modes_len l.g c.loop-g-test.false l.invariant.1);
      no = λ e. absurd (true≢false e);
    }
