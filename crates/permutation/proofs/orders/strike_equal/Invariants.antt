-- `orders::strike_equal` meets its contract. The loop's invariant: the marked places before this one stand in the first places of left.
use Prim.Native.Nat.{◌<◌}
use mathlib.Core.Path.{◌≡◌}
use lib.ListN.{length}
use Rattle.permutation.proofs.Striking.{Struck}
use Rattle.permutation.proofs.orders.strike_equal.Given as goal

abbrev pub invariant-loop-length : goal.invariant-loop-length
invariant-loop-length l = (length l.left ≡ length l.initial.left) × (0 < l.length) × Struck l.fn.span.shortest l.fn.span.longest l.marks l.left l.count l.length
