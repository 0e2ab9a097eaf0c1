-- What sector_words comes to: its checks in their order, then the decision for each row.
use Rattle.std.specs.Prelude.{ℕ, List, ◌∷◌, ◌++◌, ℤ}
use Rattle.outcome.specs.Outcome.{Outcome, answer, Check, unless}
use Rattle.group.specs.declared.Group.{Group}
use Rattle.group.specs.Value.{generators_of}
use Rattle.group.specs.Calls.{value_checks}
use Rattle.row_lists.specs.Rows.{rows_in_full}
use Rattle.row_lists.specs.Checks.{word_list_checks}
use Rattle.momentum.specs.Calls.{mode_count}
use Rattle.decisions.specs.Decisions.{Decision, Row}
use Rattle.sector_rows.specs.Rows.{decided_rows}

-- 1, 14, 18, 22, 23, 36, and then 17 of each row; the indices have as many places as there are rows, and the last two are the lengths of the
-- representatives and of the sizes
abbrev pub sector_words_checks : Group → List ℤ → List ℕ → ℕ → ℕ → ℕ → List Check
sector_words_checks g ks words rows representatives sizes =
    value_checks g ++ (mode_count g ks ∷ word_list_checks g.sites words rows representatives rows sizes)

unfoldable pub sector_words_outcome : Group → List ℤ → List ℕ → ℕ → ℕ → ℕ → Outcome (List (Decision Row))
unfolding decided_rows
sector_words_outcome g ks words rows representatives sizes =
    unless (sector_words_checks g ks words rows representatives sizes)
    (answer (decided_rows (generators_of g) ks g.sites (rows_in_full rows words) rows))
