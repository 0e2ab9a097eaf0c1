-- `list::fill_targets` meets its contract. The loop's invariant: the first g permutations of the list break no rule and are placed one after the other.
use Prim.Native.Nat.{◌-◌, ◌≤◌}
use lib.ListN.{length}
use Rattle.generators.proofs.Reading.{Read}
use Rattle.generators.proofs.list.fill_targets.Given as goal

abbrev pub invariant-loop-at : goal.invariant-loop-at
invariant-loop-at l = (l.at ≤ length l.list) × Read l.list l.sites l.targets l.at l.g

abbrev pub decreases-loop-at : goal.decreases-loop-at
decreases-loop-at l = length l.list - l.at
