-- `orders::mark_cycle` meets its contract. The loop's invariant: q is where the steps made so far take start, and they are no more than the cycle
-- has, since no fewer steps came back to start.
use Prim.Native.Nat.{◌-◌, ◌≤◌, ◌<◌}
use mathlib.Core.Path.{◌≡◌}
use lib.ListN.{length}
use Rattle.action.specs.Permutation.{after, cycle_length}
use Rattle.permutation.specs.Lengths.{Marked}
use Rattle.permutation.proofs.orders.mark_cycle.Given as goal

abbrev pub invariant-loop-q : goal.invariant-loop-q
invariant-loop-q l =
    (length l.seen ≡ length l.initial.seen) × (l.q < length l.perm) × (0 < l.steps) × (l.steps ≤ cycle_length l.perm l.start) × (l.q ≡ after l.perm l.steps l.start) × Marked l.perm l.start l.steps l.initial.seen l.seen

abbrev pub decreases-loop-q : goal.decreases-loop-q
decreases-loop-q l = cycle_length l.perm l.start - l.steps
