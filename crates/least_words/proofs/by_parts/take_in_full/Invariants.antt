-- `by_parts::take_in_full` meets its contract. The loop's invariant: the first i rows hold their words in full, and the first i indices are 0.
use Prim.Native.Nat.{◌≤◌}
use mathlib.Core.Path.{◌≡◌}
use lib.ListN.{length}
use Rattle.pauli_word.specs.Bytes.{in_full}
use Rattle.row_lists.specs.Rows.{row_by}
use Rattle.parted.proofs.Walking.{Walked}
use Rattle.least_words.proofs.by_parts.take_in_full.Given as goal

abbrev pub invariant-loop-i : goal.invariant-loop-i
invariant-loop-i l =
    (l.i ≤ length l.indices) × Walked (λ j row x. (row ≡ in_full (row_by l.size l.words j)) × (x ≡ 0)) l.initial.representatives l.initial.indices l.representatives l.indices l.i
