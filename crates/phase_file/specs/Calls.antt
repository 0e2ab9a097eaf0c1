-- What reading a file hands back: an outcome, and the table that stands after it in either case.
use Rattle.std.specs.Prelude.{Result, Ok, Err}
use Rattle.outcome.specs.Outcome.{Outcome, answer, refusal_of}
use Rattle.phases.specs.declared.PhaseTable.{PhaseTable}
use Rattle.phase_file.specs.declared.RefusedFile.{RefusedFile}

-- what the call comes to
abbrev pub outcome_of_file : {A : Type 0} → Result A RefusedFile → Outcome A
outcome_of_file (Ok a) = answer a
outcome_of_file (Err file) = refusal_of file.why

-- the table that it hands back
abbrev pub table_handed : Result PhaseTable RefusedFile → PhaseTable
table_handed (Ok table) = table
table_handed (Err file) = file.table
