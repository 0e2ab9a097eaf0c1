-- `powers::reach_codes` meets its contract. The loop's invariant: what is left of the index from generator g on makes of the word at hand what the index
-- makes of the first.
use Prim.Native.Nat.{◌≤◌}
use mathlib.Core.Path.{◌≡◌}
use lib.ListN.{length}
use Rattle.action.specs.Orbit.{reach}
use Rattle.elements.specs.HeldGroup.{generators_in}
use Rattle.rotation.proofs.Reached.{rest_of}
use Rattle.at_index.proofs.Going.{Going}
use Rattle.at_index.proofs.powers.reach_codes.Given as goal

abbrev pub invariant-loop-g : goal.invariant-loop-g
invariant-loop-g l = (l.g ≤ l.group.generators) × (length l.perm ≡ l.group.sites) × (length l.room ≡ l.group.sites) × (length l.here ≡ l.group.sites) × (length l.spare ≡ l.group.sites) × Going (reach (generators_in l.group.generators l.group.sites l.group.targets.now l.group.orders.now) l.index) l.initial.here (rest_of (generators_in l.group.generators l.group.sites l.group.targets.now l.group.orders.now) l.g l.rest) l.here
