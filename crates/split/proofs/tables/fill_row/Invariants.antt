-- `tables::fill_row` meets its contract: the places before the one at hand have the numbers of the targets.
use lib.ListN.{length, get_or}
use Rattle.pauli_word.specs.Limits.{max_sites}
use Rattle.split.proofs.Placing.{Taken}
use mathlib.Core.Path.{◌≡◌}
use Prim.Native.Nat.{◌+◌, ◌*◌, ◌≤◌}
use Rattle.split.proofs.tables.fill_row.Given as goal

abbrev pub invariant-loop-a : goal.invariant-loop-a
invariant-loop-a l = (l.a ≤ l.m) × (length l.row ≡ length l.initial.row) × Taken (λ b. get_or l.number (get_or l.targets (max_sites * l.g + get_or l.table b 0) 0) 0) l.a l.row
