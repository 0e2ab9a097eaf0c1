-- `least::short_of` meets its contract: start 0 is short of nothing, and any other start of what is left of the step.
use native.Mathlib.Omega.{arith}
use Rattle.cyclic.proofs.Cycles.{short_zero, short_some}
use Rattle.cyclic.proofs.least.short_of.Goals as goal

pub returns-then-turn-eq0 : goal.returns-then-turn-eq0
returns-then-turn-eq0 c = let turn = c.args.turn in short_zero turn.start turn.step (omega arith)

pub returns-else-turn-eq0 : goal.returns-else-turn-eq0
returns-else-turn-eq0 c = let turn = c.args.turn in short_some turn.start turn.step (λ z. omega arith) (omega arith)
