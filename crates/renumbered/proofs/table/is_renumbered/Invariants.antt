-- `table::is_renumbered` meets its contract. The loop's invariant: the stride is the product of the orders before g, and the generators before g pass.
use lib.ListN.{take}
use Rattle.action.specs.Arithmetic.{product}
use Rattle.renumbered.proofs.Tabled.{Carries}
use mathlib.Core.Path.{◌≡◌}
use Prim.Native.Nat.{◌≤◌}
use Rattle.renumbered.proofs.table.is_renumbered.Given as goal

abbrev pub invariant-loop-g : goal.invariant-loop-g
invariant-loop-g l = (l.g ≤ l.group.generators) × (l.stride ≡ product (take l.g l.group.orders.now)) × Carries l.group.sites l.group.targets.now l.group.orders.now l.site l.g
