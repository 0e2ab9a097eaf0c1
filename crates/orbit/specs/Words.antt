-- What canonicalize_words comes to: its checks in their order, then an answer for each row.
use Rattle.std.specs.Prelude.{ℕ, List, ◌++◌}
use Rattle.outcome.specs.Outcome.{Outcome, answer, Check, unless}
use Rattle.pauli_word.specs.Word.{Word}
use Rattle.group.specs.declared.Group.{Group}
use Rattle.group.specs.Value.{generators_of}
use Rattle.group.specs.Calls.{value_checks}
use Rattle.row_lists.specs.Rows.{rows_in_full}
use Rattle.row_lists.specs.Checks.{word_list_checks}
use Rattle.least_words.specs.Rows.{answered_rows}

-- 1, 14, 22, 23, 36, and then 17 of each row; the indices have as many places as there are rows, and the last is the length of the representatives
abbrev pub words_checks : Group → List ℕ → ℕ → ℕ → List Check
words_checks g words rows representatives = value_checks g ++ word_list_checks g.sites words rows representatives rows rows

unfoldable pub words_outcome : Group → List ℕ → ℕ → ℕ → Outcome (List (Word × ℕ))
unfolding answered_rows
words_outcome g words rows representatives =
    unless (words_checks g words rows representatives) (answer (answered_rows (generators_of g) g.sites (rows_in_full rows words) rows))
