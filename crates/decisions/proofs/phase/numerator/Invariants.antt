-- `phase::numerator` meets its contract. The loop's invariant: what is summed and the phases of what is left are the phases of all.
use Prim.Native.Nat.{◌+◌, ◌*◌, ◌≤◌}
use mathlib.Core.Path.{◌≡◌}
use lib.ListN.{drop}
use Rattle.action.specs.Sector.{phases}
use Rattle.permutation.specs.Limits.{max_order}
use Rattle.elements.specs.HeldGroup.{generators_in}
use Rattle.decisions.proofs.phase.numerator.Given as goal

abbrev pub invariant-loop-g : goal.invariant-loop-g
invariant-loop-g l = (l.g ≤ l.group.generators) × (l.sum ≤ l.g * max_order) × (l.sum + phases l.m (drop l.g (generators_in l.group.generators l.group.sites l.group.targets.now l.group.orders.now)) (drop l.g l.modes) (drop l.g l.counter) ≡ phases l.m (generators_in l.group.generators l.group.sites l.group.targets.now l.group.orders.now) l.modes l.counter)
