-- `index::spread` meets its contract: what is written, and the place times the index of what is left, are the index.
use lib.Dec.{eqb}
use lib.ListN.{drop}
use Rattle.action.specs.Index.{order_of}
use Rattle.elements.specs.HeldGroup.{generators_in}
use Rattle.parts.specs.Labels.{spread}
use mathlib.Core.Path.{◌≡◌}
use Prim.Native.Nat.{◌+◌, ◌*◌, ◌≤◌}
use Rattle.split.proofs.index.spread.Given as goal

abbrev pub invariant-loop-g : goal.invariant-loop-g
invariant-loop-g l = (l.g ≤ l.group.generators) × (l.place * order_of (drop l.g (generators_in l.group.generators l.group.sites l.group.targets.now l.group.orders.now)) ≡ order_of (generators_in l.group.generators l.group.sites l.group.targets.now l.group.orders.now)) × (l.out + l.place * spread (λ a. eqb a l.part) (drop l.g l.labels) (drop l.g (generators_in l.group.generators l.group.sites l.group.targets.now l.group.orders.now)) l.rest ≡ spread (λ a. eqb a l.part) l.labels (generators_in l.group.generators l.group.sites l.group.targets.now l.group.orders.now) l.index)
