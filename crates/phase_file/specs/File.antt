-- The file of a phase table: a line with the names of the two columns, and a line of two numbers for each entry. What reading one comes to, and the
-- file that a table is printed as.
use Rattle.std.specs.Prelude.{ℕ, zero, suc, ◌+◌, ◌*◌, Bool, false, ◌&&◌, not, List, [], ◌∷◌, ◌++◌, map, eqb, ltb, ℤ, length, get_or, drop}
use Rattle.outcome.specs.declared.Refusal.TheVariants as Refusal
use Rattle.outcome.specs.Outcome.{Outcome, refused, answer, Check, rule, unless, or_else, itself}
use Rattle.action.specs.Lists.{same_numbers, below}
use Rattle.text.specs.Text.{line_end, space, pieces, parted, is_signed, signed_of, decimal, signed_text}
use Rattle.text.specs.Quoted.{bytes}
use Rattle.phases.specs.declared.PhaseTable.{PhaseTable}
use Rattle.phases.specs.Table.{phase_table}
use Rattle.phases.specs.Rules.{turn, cosine, sine}
use Rattle.phases.specs.Checks.{broken_table}

-- the most bytes of a file
abbrev pub max_file : ℕ
max_file = 65536

-- the names of the columns
abbrev pub column_names : List ℕ
column_names = bytes "cos sin"

-- ---- the form of a file

-- two fields, each a signed number
abbrev pub two_numbers : List (List ℕ) → Bool
two_numbers [] = false
two_numbers (c ∷ []) = false
two_numbers (c ∷ s ∷ []) = is_signed c && is_signed s
two_numbers (c ∷ s ∷ more ∷ rest) = false

-- a line of two numbers, parted by one space
unfoldable pub is_entry : List ℕ → Bool
is_entry line = two_numbers (pieces space line)

-- n lines of two numbers, and after the last line end nothing
unfoldable pub entries_alone : ℕ → List (List ℕ) → Bool
entries_alone n [] = false
entries_alone zero (rest ∷ []) = eqb (length rest) 0
entries_alone zero (rest ∷ more ∷ lines) = false
entries_alone (suc n) (line ∷ lines) = is_entry line && entries_alone n lines

-- the names, and then as many lines of two numbers as a turn has steps
unfoldable pub is_file : List (List ℕ) → Bool
is_file [] = false
is_file (names ∷ lines) = same_numbers names column_names && entries_alone turn lines

-- ---- the table that a file writes

-- number i of a line
unfoldable pub number_at : ℕ → List ℕ → ℤ
number_at i line = signed_of (get_or (pieces space line) i [])

-- column i of the lines after the names: number i of as many of them as a turn has steps
unfoldable pub column : ℕ → List (List ℕ) → List ℤ
column i lines = map (λ j. number_at i (get_or lines j [])) (below turn)

-- the table of a file's lines
abbrev pub table_in : List (List ℕ) → PhaseTable
table_in lines = record { cosines = column 0 (drop 1 lines); sines = column 1 (drop 1 lines) }

-- ---- the call

-- 34: too many bytes
abbrev pub too_long : List ℕ → Check
too_long file = rule Refusal.PhaseForm (ltb max_file (length file))

-- 34: another form
abbrev pub other_form : List ℕ → Check
other_form file = rule Refusal.PhaseForm (not (is_file (pieces line_end file)))

-- the checks, and 35 of the table last
abbrev pub file_checks : List ℕ → List Check
file_checks file = too_long file ∷ other_form file ∷ broken_table (table_in (pieces line_end file)) ∷ []

unfoldable pub file_outcome : List ℕ → Outcome PhaseTable
file_outcome file = unless (file_checks file) (answer (table_in (pieces line_end file)))

-- the table that sums are read against afterwards: the file's, or the constant one where the file is refused
abbrev pub table_after : Outcome PhaseTable → PhaseTable
table_after o = or_else itself phase_table o

-- ---- the file of a table

-- the line of an entry
unfoldable pub entry_text : PhaseTable → ℕ → List ℕ
entry_text t j = signed_text (cosine t j) ++ (space ∷ signed_text (sine t j))

-- the names, a line for each entry, and a line end after each
unfoldable pub printed : PhaseTable → List ℕ
printed t = parted line_end (column_names ∷ (map (entry_text t) (below turn) ++ ([] ∷ [])))

-- the most bytes of a number in its range, and of the print of a table whose numbers are
abbrev pub max_number : ℕ
max_number = 11

abbrev pub max_print : ℕ
max_print = length column_names + 1 + turn * (2 * max_number + 2)

-- ---- the line that tells an answer

abbrev pub answer_line : {A : Type 0} → Outcome A → List ℕ
answer_line (answer a) = bytes "accepted\n"
answer_line (refused number vs) = bytes "refused " ++ (decimal number ++ (line_end ∷ []))

-- a list of this length suffices for it
abbrev pub max_line : ℕ
max_line = 16
