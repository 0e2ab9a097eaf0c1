-- `list::count_generators` meets its contract. The loop's invariant: the list ends inside a generator exactly if what is left of it at `at` does,
-- and it writes `count` more generators than that.
use Prim.Native.Nat.{◌+◌, ◌-◌, ◌≤◌}
use mathlib.Core.Path.{◌≡◌}
use lib.ListN.{length, drop}
use Rattle.permutation.specs.Generators.{ends_inside, perms_of}
use Rattle.generators.proofs.list.count_generators.Given as goal

abbrev pub invariant-loop-at : goal.invariant-loop-at
invariant-loop-at l =
    (l.at ≤ length l.list) × (l.count ≤ l.at) × (ends_inside l.list ≡ ends_inside (drop l.at l.list)) × (length (perms_of l.list) ≡ l.count + length (perms_of (drop l.at l.list)))

abbrev pub decreases-loop-at : goal.decreases-loop-at
decreases-loop-at l = length l.list - l.at
