-- `index::fill_counter` meets its contract. The loop's invariant: the digits written and those of what is left are the digits of the index.
use Prim.Native.Nat.{◌≤◌}
use mathlib.Core.Path.{◌≡◌}
use mathlib.Core.List.{◌++◌}
use lib.ListN.{length, take, drop}
use Rattle.action.specs.Index.{digits}
use Rattle.elements.specs.HeldGroup.{generators_in}
use Rattle.elements.proofs.index.fill_counter.Given as goal

abbrev pub invariant-loop-g : goal.invariant-loop-g
invariant-loop-g l = (l.g ≤ l.group.generators) × (length l.counter ≡ length l.initial.counter) × (take l.g l.counter ++ (digits (drop l.g (generators_in l.group.generators l.group.sites l.group.targets.now l.group.orders.now)) l.rest ++ drop l.group.generators l.counter) ≡ digits (generators_in l.group.generators l.group.sites l.group.targets.now l.group.orders.now) l.index ++ drop l.group.generators l.initial.counter)
