-- The decisions for rows of words, and what the output lists hold afterwards.
use Rattle.std.specs.Prelude.{ℕ, List, map, ℤ}
use Rattle.action.specs.Lists.{below}
use Rattle.action.specs.Permutation.{Generator}
use Rattle.row_lists.specs.Rows.{join_rows}
use Rattle.least_words.specs.Rows.{row_letters}
use Rattle.decisions.specs.Decisions.{Decision, Row, decision, row_word, row_index, row_orbit}

-- the decisions for the first k rows, of words in full
unfoldable pub decided_rows : List Generator → List ℤ → ℕ → List ℕ → ℕ → List (Decision Row)
decided_rows gs ks n words k = map (λ i. decision gs ks (row_letters n words i)) (below k)

-- the output lists beside an answer: the bytes of the least words, in full, and zeros for a dropped row; the indices; and the orbit sizes
abbrev pub sector_words : List (Decision Row) → List ℕ
sector_words rows = join_rows (map row_word rows)

abbrev pub sector_indices : List (Decision Row) → List ℕ
sector_indices rows = map row_index rows

abbrev pub sector_sizes : List (Decision Row) → List ℕ
sector_sizes rows = map row_orbit rows
