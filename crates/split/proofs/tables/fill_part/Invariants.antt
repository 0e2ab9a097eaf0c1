-- `tables::fill_part` meets its contract: the rows and orders before the one at hand are written (`Filled`).
use Rattle.split.proofs.PartTables.{Filled}
use lib.ListN.{get_or}
use Prim.Native.Nat.{◌≤◌}
use Rattle.split.proofs.tables.fill_part.Given as goal

abbrev pub invariant-loop-j : goal.invariant-loop-j
invariant-loop-j l = (l.j ≤ l.k) × Filled l.group.targets.now l.group.orders.now l.m (λ i. get_or l.members i 0) (λ a. get_or l.table a 0) (λ q. get_or l.number q 0) l.j l.part_targets l.part_orders
