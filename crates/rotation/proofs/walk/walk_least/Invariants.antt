-- `walk::walk_least` meets its contract. The loop's invariant: the word at hand is what index i reaches, and the best so far is the least of the
-- entries before it, with its first place and its count.
use Prim.Native.Nat.{◌≤◌}
use mathlib.Core.Path.{◌≡◌}
use lib.ListN.{length}
use Rattle.elements.specs.HeldGroup.{generators_in}
use Rattle.packed.specs.Packed.{letters_at}
use Rattle.rotation.proofs.Walks.{Walked}
use Rattle.rotation.proofs.walk.walk_least.Given as goal

abbrev pub invariant-loop-i : goal.invariant-loop-i
invariant-loop-i l = (l.i ≤ l.order) × Walked l.group.sites l.m (generators_in l.group.generators l.group.sites l.group.targets.now l.group.orders.now) (letters_at l.group.sites l.initial.x l.initial.z) l.x l.z l.xs l.zs l.lead.index l.lead.ties l.i × (length l.z ≡ length l.initial.z) × (length l.zs ≡ length l.initial.zs)
