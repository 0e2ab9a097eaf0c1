use Prim.Native.Nat.{◌-◌}
use borrow.Author.Rules.{rules}
use Rattle.phases.specs.Rules.{quarter, table_of, order_right}
use Rattle.phases.proofs.Steps.{Passing, each_start, each_next, each-fails, each-passes}
use Rattle.phases.proofs.rules.order_kept.Goals as goal

pub loop-j-init : goal.loop-j-init
loop-j-init c = each_start

pub returns-then-not-order_at : goal.returns-then-not-order_at
returns-then-not-order_at c = each-fails c.loop-j.invariant c.loop-j-test.true c.order_at.ensures c.if-not-order_at.true-raw

pub loop-j-preserved : goal.loop-j-preserved
loop-j-preserved c = each_next c.loop-j.invariant c.loop-j-test.true c.order_at.ensures c.if-not-order_at.false-raw

pub returns : goal.returns
returns c = each-passes c.loop-j.invariant c.loop-j-test.false
