use Prim.Native.Nat.{◌-◌}
use borrow.Author.Rules.{rules}
use Rattle.phases.specs.Rules.{turn, table_of, product_right}
use Rattle.phases.proofs.Steps.{Passing, each_start, each_next, each-fails, each-passes}
use Rattle.phases.proofs.rules.product_kept.Goals as goal

pub loop-j-init : goal.loop-j-init
loop-j-init c = each_start

pub returns-then-not-product_at : goal.returns-then-not-product_at
returns-then-not-product_at c = each-fails c.loop-j.invariant c.loop-j-test.true c.product_at.ensures c.if-not-product_at.true-raw

pub loop-j-preserved : goal.loop-j-preserved
loop-j-preserved c = each_next c.loop-j.invariant c.loop-j-test.true c.product_at.ensures c.if-not-product_at.false-raw

pub returns : goal.returns
returns c = each-passes c.loop-j.invariant c.loop-j-test.false
