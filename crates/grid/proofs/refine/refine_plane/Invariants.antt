-- `refine::refine_plane` meets its contract. The loop's invariant: the sites before base are read (`Passed`).
use Prim.Native.Nat.{◌-◌}
use mathlib.Core.Path.{◌≡◌}
use lib.ListN.{length}
use Rattle.elements.specs.HeldGroup.{generators_in}
use Rattle.packed.specs.Packed.{bit_of}
use Rattle.grid.proofs.Rounds.{Passed}
use Rattle.grid.proofs.refine.refine_plane.Given as goal

abbrev pub invariant-loop-base : goal.invariant-loop-base
invariant-loop-base l =
    (length l.at ≡ length l.initial.at) × Passed (generators_in l.group.generators l.group.sites l.group.targets.now l.group.orders.now) l.group.sites l.order (bit_of l.plane) l.initial.left l.left l.base

abbrev pub decreases-loop-base : goal.decreases-loop-base
decreases-loop-base l = l.group.sites - l.base
