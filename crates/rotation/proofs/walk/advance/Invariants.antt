-- `walk::advance` meets its contract. The loop's invariant: the step is what is left of it from generator g on, of the word as it is then.
use Prim.Native.Nat.{◌≤◌}
use mathlib.Core.Path.{◌≡◌}
use lib.ListN.{length, drop}
use Rattle.action.specs.Index.{digits}
use Rattle.action.specs.Orbit.{stepped}
use Rattle.elements.specs.HeldGroup.{generators_in}
use Rattle.packed.specs.Packed.{letters_at}
use Rattle.rotation.specs.Rotation.{Planes}
use Rattle.rotation.proofs.walk.advance.Given as goal

abbrev pub invariant-loop-g : goal.invariant-loop-g
invariant-loop-g l = (l.g ≤ l.group.generators) × Planes l.group.sites l.m l.x l.z × (length l.z ≡ length l.initial.z) × (stepped (generators_in l.group.generators l.group.sites l.group.targets.now l.group.orders.now) (digits (generators_in l.group.generators l.group.sites l.group.targets.now l.group.orders.now) l.index) (letters_at l.group.sites l.initial.x l.initial.z) ≡ stepped (drop l.g (generators_in l.group.generators l.group.sites l.group.targets.now l.group.orders.now)) (digits (drop l.g (generators_in l.group.generators l.group.sites l.group.targets.now l.group.orders.now)) l.rest) (letters_at l.group.sites l.x l.z))
