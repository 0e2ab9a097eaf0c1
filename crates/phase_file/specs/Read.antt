-- What the functions that read a file come to.
use Rattle.std.specs.Prelude.{ℕ, cond, List, [], map, get_or, drop, ℤ, Option, Some, None}
use Rattle.action.specs.Lists.{below}
use Rattle.text.specs.Parts.{clamped}
use Rattle.phases.specs.declared.PhaseTable.{PhaseTable}
use Rattle.phases.specs.Rules.{turn}
use Rattle.phase_file.specs.File.{is_entry, number_at}

-- a line read as an entry, its numbers no further from 0 than the cap
abbrev pub entry_read : List ℕ → Option (ℤ × ℤ)
entry_read line = cond (is_entry line) (Some (clamped (number_at 0 line), clamped (number_at 1 line))) None

-- column i of a file's lines, as it is read
unfoldable pub column_read : ℕ → List (List ℕ) → List ℤ
column_read i lines = map (λ j. clamped (number_at i (get_or lines j []))) (below turn)

-- the table of a file's lines, as it is read
abbrev pub table_read : List (List ℕ) → PhaseTable
table_read lines = record { cosines = column_read 0 (drop 1 lines); sines = column_read 1 (drop 1 lines) }
