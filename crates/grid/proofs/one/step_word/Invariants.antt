-- `one::step_word` meets its contract. The loop's invariant: 1 is added to each digit below generator g, and the digits of h there roll over.
use Prim.Native.Nat.{ℕ, ◌≤◌}
use mathlib.Core.Path.{◌≡◌}
use mathlib.Core.Bool.{false}
use lib.ListN.{take, drop}
use Rattle.action.specs.Arithmetic.{product}
use Rattle.elements.specs.HeldGroup.{generators_in}
use Rattle.packed.specs.Packed.{bit_at}
use Rattle.grid.proofs.Stepping.{Carried}
use Rattle.grid.proofs.one.step_word.Given as goal

abbrev pub invariant-loop-g : goal.invariant-loop-g
invariant-loop-g l =
    (l.g ≤ l.group.generators) × (l.g ≡ 0 → l.digits ≡ l.h) × ((k : ℕ) → l.order ≤ k → bit_at l.x k ≡ false)
    × Carried (generators_in l.group.generators l.group.sites l.group.targets.now l.group.orders.now) l.order l.h (bit_at l.at) (bit_at l.x) (drop l.g (generators_in l.group.generators l.group.sites l.group.targets.now l.group.orders.now)) (product (take l.g l.group.orders.now)) l.digits
