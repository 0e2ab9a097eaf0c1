-- `divide::label_one` is safe and ends.
use mathlib.Core.Path.{◌≡◌}
use lib.ListN.{length}
use Prim.Native.Nat.{◌≤◌, ◌<◌}
use Rattle.split.proofs.divide.label_one.Given as goal

abbrev pub invariant-loop-h : goal.invariant-loop-h
invariant-loop-h l = (l.h ≤ l.g) × (l.g < length l.labels) × (length l.labels ≡ length l.initial.labels)
