-- `tables::rests_clear` meets its contract. The loop's invariant: the places of all generators are clear exactly if those from g on are.
use Prim.Native.Nat.{◌≤◌}
use mathlib.Core.Path.{◌≡◌}
use Rattle.generators.specs.Tables.{rests_clear}
use Rattle.generators.proofs.Rows.{rests_from}
use Rattle.generators.proofs.tables.rests_clear.Given as goal

abbrev pub invariant-loop-g : goal.invariant-loop-g
invariant-loop-g l = (l.g ≤ l.group.generators) × (rests_clear l.group.generators l.group.sites l.group.targets.now ≡ rests_from l.group.generators l.group.sites l.group.targets.now l.g)
