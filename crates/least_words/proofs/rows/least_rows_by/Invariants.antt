-- `rows::least_rows_by` meets its contract. The loop's invariant: the first i rows have the least words of the first i rows' orbits, and the first i
-- places the indices that lead back.
use Prim.Native.Nat.{ℕ, ◌≤◌}
use mathlib.Core.Path.{◌≡◌}
use mathlib.Core.List.{List}
use lib.ListN.{length}
use Rattle.pauli_word.specs.Word.{Word}
use Rattle.action.specs.Permutation.{Generator}
use Rattle.action.specs.Orbit.{least, index_back}
use Rattle.elements.specs.HeldGroup.{generators_in}
use Rattle.elements.proofs.Orbits.{stored}
use Rattle.row_lists.specs.Rows.{in_full_by}
use Rattle.least_words.specs.Rows.{row_letters}
use Rattle.least_words.proofs.Filling.{Filled}
use Rattle.least_words.proofs.rows.least_rows_by.Given as goal

-- the least word of row i's orbit, and the index that leads back, of words in full
abbrev least_by : List Generator → ℕ → List ℕ → ℕ → Word
least_by gs n words i = least gs (row_letters n words i)

abbrev back_by : List Generator → ℕ → List ℕ → ℕ → ℕ
back_by gs n words i = index_back gs (row_letters n words i)

abbrev pub invariant-loop-i : goal.invariant-loop-i
invariant-loop-i l =
    let gs = generators_in l.group.generators l.group.sites l.group.targets.now l.group.orders.now in
    let full = in_full_by l.size (length l.initial.indices) l.words in
    (l.i ≤ length l.indices)
    × (l.representatives ≡ stored (least_by gs l.group.sites full) l.initial.representatives l.i)
    × Filled (back_by gs l.group.sites full) l.initial.indices l.indices l.i
    × (length l.left ≡ length l.initial.left)
