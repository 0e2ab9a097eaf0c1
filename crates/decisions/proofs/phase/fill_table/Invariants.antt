-- `phase::fill_table` meets its contract. The loop's invariant: the first i entries are the numerators of the indices below i.
use Prim.Native.Nat.{◌≤◌}
use mathlib.Core.Path.{◌≡◌}
use lib.ListN.{length, take}
use Rattle.elements.specs.HeldGroup.{generators_in}
use Rattle.decisions.proofs.Phases.{entries}
use Rattle.decisions.proofs.phase.fill_table.Given as goal

abbrev pub invariant-loop-i : goal.invariant-loop-i
invariant-loop-i l = (l.i ≤ length l.list) × (length l.list ≡ length l.initial.list) × (take l.i l.list ≡ entries (generators_in l.group.generators l.group.sites l.group.targets.now l.group.orders.now) l.modes l.i)
