-- `tables::no_orders` meets its contract. The loop's invariant: all orders are 0 exactly if those before i, put together, and those from i on are.
use Prim.Native.Nat.{◌≤◌}
use mathlib.Core.Path.{◌≡◌}
use mathlib.Core.Bool.{◌&&◌}
use lib.Dec.{eqb}
use lib.ListN.{length, drop}
use Rattle.generators.specs.Tables.{zeros}
use Rattle.generators.proofs.tables.no_orders.Given as goal

abbrev pub invariant-loop-i : goal.invariant-loop-i
invariant-loop-i l = (l.i ≤ length l.orders) × (zeros l.orders ≡ (eqb l.any 0 && zeros (drop l.i l.orders)))
