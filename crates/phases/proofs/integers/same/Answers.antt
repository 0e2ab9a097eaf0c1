-- `integers::same` meets its contract: numbers are the same where what is stored is the same.
use mir.Syntax.{w64}
use Rattle.phases.proofs.Steps.{same-stored}
use Rattle.phases.proofs.integers.same.Goals as goal

pub returns : goal.returns
returns c = same-stored w64 c.args.a c.args.b c.ranges.a c.ranges.b
