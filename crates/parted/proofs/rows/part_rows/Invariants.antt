-- `rows::part_rows` meets its contract. The loop's invariant: the part's work is done on the first i rows, and the others are as they were.
use Rattle.parted.proofs.Walking.{Walked}
use Rattle.parted.specs.Steps.{site_of, Stepped}
use Rattle.row_lists.specs.Rows.{row_at}
use Rattle.elements.specs.HeldGroup.{generators_in}
use lib.ListN.{length, get_or}
use mathlib.Core.Path.{◌≡◌}
use Prim.Native.Nat.{◌≤◌}
use Rattle.parted.proofs.rows.part_rows.Given as goal

abbrev pub invariant-loop-i : goal.invariant-loop-i
invariant-loop-i l =
    (l.i ≤ length l.indices)
    × (length l.left ≡ length l.initial.left)
    × Walked (λ j. Stepped l.group.sites l.own_group.sites (site_of l.table) (generators_in l.own_group.generators l.own_group.sites l.own_group.targets.now l.own_group.orders.now) (generators_in l.group.generators l.group.sites l.group.targets.now l.group.orders.now) l.labels l.part (row_at l.initial.representatives j) (get_or l.initial.indices j 0)) l.initial.representatives l.initial.indices l.representatives l.indices l.i
