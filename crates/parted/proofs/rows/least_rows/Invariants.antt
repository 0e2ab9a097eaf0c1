-- `rows::least_rows` meets its contract. The loop's invariant: every row stands where it does before the part at hand.
use Rattle.parted.specs.Steps.{AllStand}
use Rattle.row_lists.specs.Rows.{row_at}
use Rattle.elements.specs.HeldGroup.{generators_in}
use Rattle.pauli_word.specs.Bytes.{letters_in}
use lib.ListN.{length}
use mathlib.Core.Path.{◌≡◌}
use Prim.Native.Nat.{◌≤◌}
use Rattle.parted.proofs.rows.least_rows.Given as goal

abbrev pub invariant-loop-part : goal.invariant-loop-part
invariant-loop-part l =
    (l.part ≤ l.group.generators)
    × (length l.representatives ≡ length l.initial.representatives)
    × (length l.indices ≡ length l.initial.indices)
    × AllStand l.group.sites (generators_in l.group.generators l.group.sites l.group.targets.now l.group.orders.now) l.labels l.part (λ i. letters_in l.group.sites (row_at l.initial.representatives i)) l.representatives l.indices
