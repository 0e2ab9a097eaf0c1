-- `walk::advance` meets its contract. The loop's invariant: from the codes at hand what is left of the step goes on, from generator g on.
use Prim.Native.Nat.{◌≤◌}
use mathlib.Core.Path.{◌≡◌}
use lib.ListN.{length, drop}
use Rattle.elements.specs.HeldGroup.{generators_in}
use Rattle.lettered.proofs.CodeSteps.{Going}
use Rattle.lettered.proofs.walk.advance.Given as goal

abbrev pub invariant-loop-g : goal.invariant-loop-g
invariant-loop-g l = (l.g ≤ l.group.generators) × (length l.here ≡ l.group.sites) × (length l.spare ≡ l.group.sites) × Going (generators_in l.group.generators l.group.sites l.group.targets.now l.group.orders.now) l.index l.initial.here (drop l.g (generators_in l.group.generators l.group.sites l.group.targets.now l.group.orders.now)) l.rest l.here
