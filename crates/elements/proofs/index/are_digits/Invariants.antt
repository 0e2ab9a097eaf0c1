-- `index::are_digits` meets its contract. The loop's invariant: the digits before g are below their orders, so that those from g on decide.
use Prim.Native.Nat.{◌≤◌}
use mathlib.Core.Path.{◌≡◌}
use lib.ListN.{drop}
use Rattle.action.specs.Index.{digits_below}
use Rattle.elements.specs.HeldGroup.{generators_in}
use Rattle.elements.proofs.index.are_digits.Given as goal

abbrev pub invariant-loop-g : goal.invariant-loop-g
invariant-loop-g l = (l.g ≤ l.group.generators) × (digits_below (drop l.g (generators_in l.group.generators l.group.sites l.group.targets.now l.group.orders.now)) (drop l.g l.counter) ≡ digits_below (generators_in l.group.generators l.group.sites l.group.targets.now l.group.orders.now) l.counter)
