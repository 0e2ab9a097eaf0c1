-- `index::phase_modulus` meets its contract. The loop's invariant: the least common multiple of the orders from g on.
use Prim.Native.Nat.{◌≤◌}
use mathlib.Core.Path.{◌≡◌}
use lib.ListN.{drop}
use Rattle.elements.specs.HeldGroup.{generators_in}
use Rattle.elements.proofs.Indices.{multiple}
use Rattle.elements.proofs.index.phase_modulus.Given as goal

abbrev pub invariant-loop-g : goal.invariant-loop-g
invariant-loop-g l = (l.g ≤ l.group.generators) × (l.least ≡ multiple (drop l.g (generators_in l.group.generators l.group.sites l.group.targets.now l.group.orders.now)))
