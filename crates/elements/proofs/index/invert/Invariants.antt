-- `index::invert` meets its contract. The loop's invariant: what is written and the place times the inverse of what is left are the inverse.
use Prim.Native.Nat.{◌+◌, ◌*◌, ◌≤◌}
use mathlib.Core.Path.{◌≡◌}
use lib.ListN.{drop}
use Rattle.action.specs.Index.{order_of, inverse}
use Rattle.elements.specs.HeldGroup.{generators_in}
use Rattle.elements.proofs.index.invert.Given as goal

abbrev pub invariant-loop-g : goal.invariant-loop-g
invariant-loop-g l = (l.g ≤ l.group.generators) × (l.place * order_of (drop l.g (generators_in l.group.generators l.group.sites l.group.targets.now l.group.orders.now)) ≡ order_of (generators_in l.group.generators l.group.sites l.group.targets.now l.group.orders.now)) × (l.out + l.place * inverse (drop l.g (generators_in l.group.generators l.group.sites l.group.targets.now l.group.orders.now)) l.rest ≡ inverse (generators_in l.group.generators l.group.sites l.group.targets.now l.group.orders.now) l.index)
