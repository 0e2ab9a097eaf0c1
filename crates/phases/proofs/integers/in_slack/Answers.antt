-- `integers::in_slack` meets its contract: the two tests are those of the range.
use Prim.Native.Nat.{◌-◌}
use mir.Syntax.{w64}
use borrow.Author.Rules.{rules}
use Rattle.phases.specs.Rules.{slack}
use Rattle.phases.proofs.Ranges.{range-below, range-above}
use Rattle.phases.proofs.integers.in_slack.Goals as goal

pub returns-then-z : goal.returns-then-z
returns-then-z c = range-below w64 c.args.z c.ranges.z (slack - 1) c.if-z.true

pub returns : goal.returns
returns c = range-above w64 c.args.z c.ranges.z (slack - 1) c.if-z.false
