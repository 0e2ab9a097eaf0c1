-- `search::slot_of` meets its contract. The loop's invariant: the words before `low` are less than the row's, and those from `high` on are
-- greater (`Searching`).
use Prim.Native.Nat.{◌-◌}
use Rattle.row_words.proofs.Searching.{Searching}
use Rattle.row_words.proofs.search.slot_of.Given as goal

abbrev pub invariant-loop-low : goal.invariant-loop-low
invariant-loop-low l = Searching l.words l.positions l.used l.row l.low l.high

abbrev pub decreases-loop-low : goal.decreases-loop-low
decreases-loop-low l = l.high - l.low
