-- `inner::group_order` meets its contract. The loop's invariant: order is the product of the first g orders.
use Prim.Native.Nat.{◌≤◌}
use mathlib.Core.Path.{◌≡◌}
use lib.ListN.{take}
use Rattle.permutation.specs.Limits.{max_wide}
use Rattle.action.specs.Arithmetic.{product}
use Rattle.permutation.proofs.inner.group_order.Given as goal

abbrev pub invariant-loop-g : goal.invariant-loop-g
invariant-loop-g l = (l.g ≤ l.generators) × (l.order ≤ max_wide) × (l.order ≡ product (take l.g l.orders))
