-- `divide::meet` is safe and ends.
use Prim.Native.Nat.{◌≤◌}
use Rattle.split.proofs.divide.meet.Given as goal

abbrev pub invariant-loop-q : goal.invariant-loop-q
invariant-loop-q l = l.q ≤ l.sites
