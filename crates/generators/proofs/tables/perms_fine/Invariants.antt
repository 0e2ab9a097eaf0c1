-- `tables::perms_fine` meets its contract. The loop's invariant: the check of all generators is the check of those from g on.
use Prim.Native.Nat.{◌≤◌}
use mathlib.Core.Path.{◌≡◌}
use Rattle.generators.proofs.Rows.{perms_from}
use Rattle.generators.proofs.tables.perms_fine.Given as goal

abbrev pub invariant-loop-g : goal.invariant-loop-g
invariant-loop-g l = (l.g ≤ l.group.generators) × (perms_from l.group.generators l.group.sites l.group.targets.now 0 ≡ perms_from l.group.generators l.group.sites l.group.targets.now l.g)
