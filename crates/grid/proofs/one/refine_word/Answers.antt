use mathlib.Core.Path.{sym}
use native.Mathlib.Nat.{zero-mod}
use native.Mathlib.Omega.{arith}
use lib.ListN.{get_or}
use Rattle.elements.proofs.TableRows.{order-positive-at}
use Rattle.packed.specs.Packed.{bit_at}
use Rattle.grid.proofs.Rounds.{along-start, along-alone, along-tired, along-next, along_end}
use Rattle.grid.proofs.one.refine_word.Goals as goal

pub bounds-orders-0 : goal.bounds-orders-0
bounds-orders-0 c = omega (arith, c.requires.tables.declared_orders)

pub loop-h-init : goal.loop-h-init
loop-h-init c =
    (omega arith, λ some. sym (zero-mod (get_or c.args.group.now.orders.now 0 0)), along-start c.requires.tables.valid c.requires.order_value c.requires.by_index)

pub round_word-told-requires : goal.round_word-told-requires
round_word-told-requires c = c.strike_word-next.ensures.some

pub returns-in-Alone : goal.returns-in-Alone
returns-in-Alone c =
    rw (c.new.ensures.1, c.new.ensures.0)
    (along-alone c.loop-h.invariant.2 c.loop-h-test.true (bit_at c.strike_word-next.result) c.strike_word-next.ensures.left c.in-Alone.k c.in-Alone.ensures)

pub waited-stale-requires : goal.waited-stale-requires
waited-stale-requires c = c.loop-h.invariant.2.few

pub returns-then-stale-gt-PATIENCE : goal.returns-then-stale-gt-PATIENCE
returns-then-stale-gt-PATIENCE c =
    rw (c.new-then-stale-gt-PATIENCE.ensures.1, c.new-then-stale-gt-PATIENCE.ensures.0)
    (along-tired c.loop-h.invariant.2 c.loop-h-test.true (bit_at c.strike_word-next.result) c.strike_word-next.ensures.left)

pub step_word-here-requires : goal.step_word-here-requires
step_word-here-requires c =
    let a = c.loop-h.invariant in record {
      tables = c.requires.tables;
      order_value = c.requires.order_value;
      steps = c.requires.steps;
      low_value = a.1;
      by_index = a.2.clear;
    }

pub next_digit-low-requires : goal.next_digit-low-requires
next_digit-low-requires c = omega (arith, c.loop-h.invariant.0, c.loop-h-test.true, c.requires.steps.room)

pub loop-h-preserved : goal.loop-h-preserved
loop-h-preserved c =
    let l = c.loop-h in (
      omega (arith, l.invariant.0, c.next_digit-low.ensures.small),
      λ some. c.next_digit-low.ensures.next l.h (order-positive-at c.requires.tables 0 some) (l.invariant.1 some),
      along-next l.invariant.2 c.loop-h-test.true (bit_at c.strike_word-next.result) c.strike_word-next.ensures.left (bit_at c.step_word-here.result) (omega (arith, c.if-stale-gt-PATIENCE.false)) c.step_word-here.ensures.clear c.step_word-here.ensures.bits,
    )

pub returns : goal.returns
returns c = rw (c.new-2.ensures.1, c.new-2.ensures.0) (along_end c.loop-h.invariant.2 c.loop-h-test.false)
