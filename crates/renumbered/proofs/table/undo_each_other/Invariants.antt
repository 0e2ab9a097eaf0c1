-- `table::undo_each_other` meets its contract. The loop's invariant: the tables undo each other on the numbers before a.
use Rattle.renumbered.specs.Renumbered.{at}
use mathlib.Core.Path.{◌≡◌}
use Prim.Native.Nat.{ℕ, ◌≤◌, ◌<◌}
use Rattle.renumbered.proofs.table.undo_each_other.Given as goal

abbrev pub invariant-loop-a : goal.invariant-loop-a
invariant-loop-a l = (l.a ≤ l.sites) × ((b : ℕ) → b < l.a → (at l.site b < l.sites) × (at l.place b < l.sites) × (at l.place (at l.site b) ≡ b) × (at l.site (at l.place b) ≡ b))
