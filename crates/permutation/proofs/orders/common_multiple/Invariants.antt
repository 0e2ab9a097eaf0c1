-- `orders::common_multiple` meets its contract. The loop's invariant: order is the common multiple of the first i lengths.
use Prim.Native.Nat.{◌≤◌}
use mathlib.Core.Path.{◌≡◌}
use lib.ListN.{length, take}
use Rattle.action.specs.Arithmetic.{lcm_all}
use Rattle.permutation.specs.Limits.{max_declared}
use Rattle.permutation.proofs.orders.common_multiple.Given as goal

abbrev pub invariant-loop-length : goal.invariant-loop-length
invariant-loop-length l = (l.length-index ≤ length l.lengths) × (l.order ≤ max_declared) × (l.order ≡ lcm_all (take l.length-index l.lengths))
