-- `index::index_of` meets its contract. The loop's invariant: the index is that of the digits from g on.
use Prim.Native.Nat.{◌≤◌}
use mathlib.Core.Path.{◌≡◌}
use lib.ListN.{drop}
use Rattle.action.specs.Index.{index as index_of}
use Rattle.elements.specs.HeldGroup.{generators_in}
use Rattle.elements.proofs.index.index_of.Given as goal

abbrev pub invariant-loop-g : goal.invariant-loop-g
invariant-loop-g l = (l.g ≤ l.group.generators) × (l.index ≡ index_of (drop l.g (generators_in l.group.generators l.group.sites l.group.targets.now l.group.orders.now)) (drop l.g l.counter))
