-- `leading::no_momentum` meets its contract. The loop's invariant: no generator before g adds to a numerator (`Still`).
use Prim.Native.Nat.{◌≤◌}
use Rattle.elements.specs.HeldGroup.{generators_in}
use Rattle.decisions.proofs.Differences.{Still}
use Rattle.decisions.proofs.leading.no_momentum.Given as goal

abbrev pub invariant-loop-g : goal.invariant-loop-g
invariant-loop-g l = (l.g ≤ l.group.generators) × Still l.group.generators (generators_in l.group.generators l.group.sites l.group.targets.now l.group.orders.now) l.modes l.g
