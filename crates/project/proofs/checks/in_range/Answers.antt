-- `checks::in_range` meets its contract: the two tests are those of the range.
use Prim.Native.Nat.{◌-◌}
use mir.Syntax.{w64}
use borrow.Author.Rules.{rules}
use Rattle.phases.proofs.Ranges.{range-below, range-above}
use Rattle.project.specs.Calls.{max_coefficient}
use Rattle.project.proofs.checks.in_range.Goals as goal

pub returns-then-coefficient : goal.returns-then-coefficient
returns-then-coefficient c = range-below w64 c.args.coefficient c.ranges.coefficient (max_coefficient - 1) c.if-coefficient.true

pub returns : goal.returns
returns c = range-above w64 c.args.coefficient c.ranges.coefficient (max_coefficient - 1) c.if-coefficient.false
