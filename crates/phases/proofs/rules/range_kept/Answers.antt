use Prim.Native.Nat.{◌-◌}
use borrow.Author.Rules.{rules}
use Rattle.phases.specs.Rules.{turn, table_of, entry_in_range}
use Rattle.phases.proofs.Steps.{Passing, each_start, each_next, each-fails, each-passes}
use Rattle.phases.proofs.rules.range_kept.Goals as goal

pub loop-j-init : goal.loop-j-init
loop-j-init c = each_start

pub returns-then-not-range_at : goal.returns-then-not-range_at
returns-then-not-range_at c = each-fails c.loop-j.invariant c.loop-j-test.true c.range_at.ensures c.if-not-range_at.true-raw

pub loop-j-preserved : goal.loop-j-preserved
loop-j-preserved c = each_next c.loop-j.invariant c.loop-j-test.true c.range_at.ensures c.if-not-range_at.false-raw

pub returns : goal.returns
returns c = each-passes c.loop-j.invariant c.loop-j-test.false
