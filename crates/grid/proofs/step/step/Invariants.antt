-- `step::step` meets its contract. The loop's invariant: 1 is added to each digit below generator g, and the digits of h there roll over.
use Prim.Native.Nat.{◌≤◌}
use mathlib.Core.Path.{◌≡◌}
use lib.ListN.{length, take, drop}
use Rattle.action.specs.Arithmetic.{product}
use Rattle.elements.specs.HeldGroup.{generators_in}
use Rattle.packed.specs.Packed.{bit_of, Clear}
use Rattle.grid.proofs.Stepping.{Carried}
use Rattle.grid.proofs.step.step.Given as goal

abbrev pub invariant-loop-g : goal.invariant-loop-g
invariant-loop-g l = (l.g ≤ l.group.generators) × (length l.at ≡ length l.initial.at) × Clear l.order l.at × Carried (generators_in l.group.generators l.group.sites l.group.targets.now l.group.orders.now) l.order l.h (bit_of l.initial.at) (bit_of l.at) (drop l.g (generators_in l.group.generators l.group.sites l.group.targets.now l.group.orders.now)) (product (take l.g l.group.orders.now)) l.digits
