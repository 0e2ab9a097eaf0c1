-- `divide::relabel` is safe and ends.
use mathlib.Core.Path.{◌≡◌}
use lib.ListN.{length}
use Prim.Native.Nat.{◌≤◌}
use Rattle.split.proofs.divide.relabel.Given as goal

abbrev pub invariant-loop-g : goal.invariant-loop-g
invariant-loop-g l = (l.g ≤ length l.labels) × (length l.labels ≡ length l.initial.labels)
