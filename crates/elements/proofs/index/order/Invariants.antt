-- `index::order` meets its contract. The loop's invariant: the product times the orders that are left is the group order.
use Prim.Native.Nat.{◌*◌, ◌≤◌}
use mathlib.Core.Path.{◌≡◌}
use lib.ListN.{drop}
use Rattle.action.specs.Index.{order_of}
use Rattle.elements.specs.HeldGroup.{generators_in}
use Rattle.elements.proofs.index.order.Given as goal

abbrev pub invariant-loop-g : goal.invariant-loop-g
invariant-loop-g l = (l.g ≤ l.group.generators) × (l.product * order_of (drop l.g (generators_in l.group.generators l.group.sites l.group.targets.now l.group.orders.now)) ≡ order_of (generators_in l.group.generators l.group.sites l.group.targets.now l.group.orders.now))
