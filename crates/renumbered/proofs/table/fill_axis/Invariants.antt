-- `table::fill_axis` is safe. The loop's invariant: the tables keep their lengths.
use Rattle.pauli_word.specs.Limits.{max_sites}
use mathlib.Core.Path.{◌≡◌}
use lib.ListN.{length}
use Prim.Native.Nat.{◌≤◌}
use Rattle.renumbered.proofs.table.fill_axis.Given as goal

abbrev pub invariant-loop-h : goal.invariant-loop-h
invariant-loop-h l = (length l.site ≡ max_sites) × (length l.place ≡ max_sites) × (l.stride ≤ l.h)
