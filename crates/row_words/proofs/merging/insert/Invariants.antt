-- `merging::insert` meets its contract. The loop's invariant: the members from i on stand one place further up.
use Prim.Native.Nat.{◌≤◌}
use Rattle.row_words.proofs.Inserting.{Shifted}
use Rattle.row_words.proofs.merging.insert.Given as goal

abbrev pub invariant-loop-i : goal.invariant-loop-i
invariant-loop-i l = (l.k ≤ l.i) × (l.i ≤ l.used) × Shifted l.initial.positions l.positions l.used l.i
