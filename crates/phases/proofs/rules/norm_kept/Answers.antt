use Prim.Native.Nat.{◌-◌}
use borrow.Author.Rules.{rules}
use Rattle.phases.specs.Rules.{turn, table_of, norm_right}
use Rattle.phases.proofs.Steps.{Passing, each_start, each_next, each-fails, each-passes}
use Rattle.phases.proofs.rules.norm_kept.Goals as goal

pub loop-j-init : goal.loop-j-init
loop-j-init c = each_start

pub returns-then-not-norm_at : goal.returns-then-not-norm_at
returns-then-not-norm_at c = each-fails c.loop-j.invariant c.loop-j-test.true c.norm_at.ensures c.if-not-norm_at.true-raw

pub loop-j-preserved : goal.loop-j-preserved
loop-j-preserved c = each_next c.loop-j.invariant c.loop-j-test.true c.norm_at.ensures c.if-not-norm_at.false-raw

pub returns : goal.returns
returns c = each-passes c.loop-j.invariant c.loop-j-test.false
