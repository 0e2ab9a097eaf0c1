-- `settle::weigh_all` meets its contract. The loop's invariant: the candidates below k are weighed, and what is known of the next ones holds.
use Prim.Native.Nat.{◌≤◌}
use mathlib.Core.Path.{◌≡◌}
use lib.ListN.{length}
use Rattle.elements.specs.HeldGroup.{generators_in}
use Rattle.packed.specs.Packed.{bit_of, letters_at}
use Rattle.rotation.specs.Rotation.{Planes}
use Rattle.grid.specs.Weighing.{Weighed, Knows}
use Rattle.grid.proofs.settle.weigh_all.Given as goal

abbrev pub invariant-loop-k : goal.invariant-loop-k
invariant-loop-k l =
    (l.k ≤ l.order) × Planes l.group.sites (length l.x) l.xs l.zs × Weighed (generators_in l.group.generators l.group.sites l.group.targets.now l.group.orders.now) (letters_at l.group.sites l.x l.z) (bit_of l.left) l.k (letters_at l.group.sites l.xs l.zs) (bit_of l.found) × Knows (generators_in l.group.generators l.group.sites l.group.targets.now l.group.orders.now) (letters_at l.group.sites l.x l.z) (letters_at l.group.sites l.xs l.zs) l.known.lead l.known.shift × (length l.u ≡ length l.initial.u) × (length l.v ≡ length l.initial.v) × (length l.zs ≡ length l.initial.zs) × (length l.found ≡ length l.initial.found)
