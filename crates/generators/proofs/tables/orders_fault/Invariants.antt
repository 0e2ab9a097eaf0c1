-- `tables::orders_fault` meets its contract. The loop's invariant: the check of all orders is the check of those from g on.
use Prim.Native.Nat.{◌≤◌}
use mathlib.Core.Path.{◌≡◌}
use Rattle.generators.proofs.Rows.{orders_from}
use Rattle.generators.proofs.tables.orders_fault.Given as goal

abbrev pub invariant-loop-g : goal.invariant-loop-g
invariant-loop-g l =
    (l.g ≤ l.group.generators) × (orders_from l.group.generators l.group.sites l.group.targets.now l.group.orders.now 0 ≡ orders_from l.group.generators l.group.sites l.group.targets.now l.group.orders.now l.g)
