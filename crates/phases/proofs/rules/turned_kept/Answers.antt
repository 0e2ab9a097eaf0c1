use Prim.Native.Nat.{◌-◌}
use borrow.Author.Rules.{rules}
use Rattle.phases.specs.Rules.{turn, table_of, turned_right}
use Rattle.phases.proofs.Steps.{Passing, each_start, each_next, each-fails, each-passes}
use Rattle.phases.proofs.rules.turned_kept.Goals as goal

pub loop-j-init : goal.loop-j-init
loop-j-init c = each_start

pub returns-then-not-turned_at : goal.returns-then-not-turned_at
returns-then-not-turned_at c = each-fails c.loop-j.invariant c.loop-j-test.true c.turned_at.ensures c.if-not-turned_at.true-raw

pub loop-j-preserved : goal.loop-j-preserved
loop-j-preserved c = each_next c.loop-j.invariant c.loop-j-test.true c.turned_at.ensures c.if-not-turned_at.false-raw

pub returns : goal.returns
returns c = each-passes c.loop-j.invariant c.loop-j-test.false
