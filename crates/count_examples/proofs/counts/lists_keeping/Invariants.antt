use Rattle.std.proofs.Common.{◌≤◌}
use Rattle.count_examples.proofs.counts.lists_keeping.Given as goal

abbrev pub invariant-loop-modes : goal.invariant-loop-modes
invariant-loop-modes l = l.count ≤ l.modes-index
