-- `settle::forward_of` meets its contract. The loop's invariant: the best is the smallest inverse of those below k.
use Prim.Native.Nat.{◌≤◌}
use Rattle.elements.specs.HeldGroup.{generators_in}
use Rattle.packed.specs.Packed.{bit_of}
use Rattle.grid.proofs.Settling.{Smallest}
use Rattle.grid.proofs.settle.forward_of.Given as goal

abbrev pub invariant-loop-k : goal.invariant-loop-k
invariant-loop-k l = (l.k ≤ l.order) × Smallest (generators_in l.group.generators l.group.sites l.group.targets.now l.group.orders.now) (bit_of l.left) l.k l.best
