-- `leading::how_many` meets its contract. The loop's invariant: the count of those below k.
use Prim.Native.Nat.{◌≤◌}
use mathlib.Core.Path.{◌≡◌}
use Rattle.action.specs.Lists.{below, count}
use Rattle.packed.specs.Packed.{bit_of}
use Rattle.decisions.proofs.leading.how_many.Given as goal

abbrev pub invariant-loop-k : goal.invariant-loop-k
invariant-loop-k l = (l.k ≤ l.bound) × (l.count ≤ l.k) × (l.count ≡ count (bit_of l.left) (below l.k))
