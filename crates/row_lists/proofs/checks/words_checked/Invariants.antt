-- `checks::words_checked` meets its contract. The loop's invariant: the rows come to what those from row i on come to.
use Prim.Native.Nat.{◌-◌, ◌≤◌}
use mathlib.Core.Path.{◌≡◌}
use Rattle.outcome.specs.Outcome.{verdict}
use Rattle.row_lists.specs.Rows.{in_full_by}
use Rattle.row_lists.specs.Checks.{bits_above_sites}
use Rattle.row_lists.proofs.checks.words_checked.Given as goal

abbrev pub invariant-loop-i : goal.invariant-loop-i
invariant-loop-i l =
    let full = in_full_by l.size l.rows l.words in
    (l.i ≤ l.rows) × (verdict (bits_above_sites l.sites full 0 l.rows) ≡ verdict (bits_above_sites l.sites full l.i (l.rows - l.i)))
