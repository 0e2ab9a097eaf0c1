-- `table::number_sites` is safe. The loop's invariant: the table keeps its length.
use Rattle.pauli_word.specs.Limits.{max_sites}
use mathlib.Core.Path.{◌≡◌}
use lib.ListN.{length}
use Rattle.renumbered.proofs.table.number_sites.Given as goal

abbrev pub invariant-loop-q : goal.invariant-loop-q
invariant-loop-q l = length l.place ≡ max_sites
