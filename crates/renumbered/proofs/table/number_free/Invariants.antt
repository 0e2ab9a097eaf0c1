-- `table::number_free` is safe. The loop's invariant: the tables keep their lengths, and the next number passes the sites nowhere.
use Rattle.pauli_word.specs.Limits.{max_sites}
use mathlib.Core.Path.{◌≡◌}
use lib.ListN.{length}
use Prim.Native.Nat.{◌≤◌}
use Rattle.renumbered.proofs.table.number_free.Given as goal

abbrev pub invariant-loop-q : goal.invariant-loop-q
invariant-loop-q l = (l.start ≤ l.group.sites) × (length l.site ≡ max_sites) × (length l.place ≡ max_sites)
