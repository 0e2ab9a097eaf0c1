-- `refine::refine_plane` meets its contract. The loop's invariant: q sites are read (`Read`).
use mathlib.Core.Path.{◌≡◌}
use lib.ListN.{length}
use Rattle.elements.specs.HeldGroup.{generators_in}
use Rattle.packed.specs.Packed.{bit_of}
use Rattle.renumbered.proofs.Sites.{Read}
use Rattle.renumbered.proofs.refine.refine_plane.Given as goal

abbrev pub invariant-loop-q : goal.invariant-loop-q
invariant-loop-q l =
    (length l.bits ≡ length l.initial.bits) × (length l.left ≡ length l.initial.left) × Read (generators_in l.group.generators l.group.sites l.group.targets.now l.group.orders.now) l.group.sites l.order (bit_of l.plane) l.place (bit_of l.initial.left) (bit_of l.left) l.q
