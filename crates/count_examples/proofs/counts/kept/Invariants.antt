use Rattle.std.proofs.Common.{◌≤◌}
use Rattle.count_examples.proofs.counts.kept.Given as goal

abbrev pub invariant-loop-i : goal.invariant-loop-i
invariant-loop-i l = (l.i ≤ l.words) × (l.count ≤ l.i)
