-- The sheet: a function from the bytes of a sheet to the bytes of its table, or of its refusal.
use Rattle.std.specs.Prelude.{ℕ, ◌+◌, ◌*◌, List, [], ◌∷◌, ◌++◌, ltb, length, get_or, drop}
use Rattle.outcome.specs.declared.Refusal.TheVariants as Refusal
use Rattle.outcome.specs.Outcome.{Outcome, refused, answer, rule_number, rule_values, refusal_of, Check, rule, unless, or_else}
use Rattle.action.specs.Permutation.{Generator}
use Rattle.text.specs.Text.{line_end, pieces, number_of, decimal, put}
use Rattle.sheet_lines.specs.Lines.{modes_of, generators_for, field, line_shape, rule_at, line_checks}
use Rattle.sheet_text.specs.declared.Printed.{Printed}
use Rattle.sheet_text.specs.declared.Printed.TheVariants as Printed
use Rattle.sheet_rows.specs.Rows.{refused_name, joined, refusal_line, line_row, spread}

-- ---- the words that a table is written with

-- word rep index orbit weight keep
abbrev pub table_names : List ℕ
table_names =
    119 ∷ 111 ∷ 114 ∷ 100 ∷ 32 ∷ 114 ∷ 101 ∷ 112 ∷ 32 ∷ 105 ∷ 110 ∷ 100 ∷ 101 ∷ 120 ∷ 32 ∷ 111 ∷ 114 ∷ 98 ∷ 105 ∷ 116 ∷ 32
    ∷ 119 ∷ 101 ∷ 105 ∷ 103 ∷ 104 ∷ 116 ∷ 32 ∷ 107 ∷ 101 ∷ 101 ∷ 112 ∷ []

-- ---- checks

-- 30: a sheet of more than 65,536 bytes
abbrev pub max_sheet : ℕ
max_sheet = 65536

abbrev pub sheet_size : List ℕ → Check
sheet_size input = rule_at Refusal.SheetLength (ltb max_sheet (length input)) 0

-- ---- the table

-- the rows of value lines; the last piece is no line
unfoldable pub rows : ℕ → List Generator → List (List ℕ) → List ℕ
rows m gs [] = []
rows m gs (last ∷ []) = []
rows m gs (line ∷ more ∷ rest) = line_row m gs line ++ rows m gs (more ∷ rest)

-- the generators of a line of values
abbrev pub line_generators : List ℕ → List Generator
line_generators line = generators_for (line_shape line) (number_of (field 1 line)) (number_of (field 2 line)) (number_of (field 3 line))

-- the table of a sheet's lines
unfoldable pub table : List (List ℕ) → List ℕ
table ls = let m = get_or ls 1 [] in table_names ++ (line_end ∷ rows (modes_of (line_shape m)) (line_generators m) (drop 3 ls))

-- ---- the sheet

-- the checks of the sheet as a whole and of its lines
abbrev pub sheet_checks : List ℕ → List Check
sheet_checks input = sheet_size input ∷ line_checks (pieces line_end input)

unfoldable pub sheet_outcome : List ℕ → Outcome (List ℕ)
unfolding pieces
sheet_outcome input = unless (sheet_checks input) (answer (table (pieces line_end input)))

-- a refused sheet prints its number and its line
abbrev pub printed : Outcome (List ℕ) → List ℕ
printed (refused number []) = joined (refused_name ∷ decimal number ∷ [])
printed (refused number (line ∷ more)) = refusal_line number line
printed (answer text) = text

-- what a sheet prints
unfoldable pub sheet : List ℕ → List ℕ
unfolding sheet_outcome
sheet input = printed (sheet_outcome input)

-- ---- the call: 21 where the list, of length k, is too short for what the sheet prints; else it is written at the front of the list

-- what a sheet prints: a table with its length, or the line of a refusal, with its rule's number, the sheet's line, what the rule names, and the length of
-- that one line
pub data Page : Type 0 where
  table_page : ℕ → Page
  refusal_page : ℕ → ℕ → List ℕ → ℕ → Page

abbrev pub page_of : Outcome (List ℕ) → Page
page_of (answer text) = table_page (length text)
page_of (refused number []) = refusal_page number 0 [] (length (printed (refused number [])))
page_of (refused number (line ∷ more)) = refusal_page number line more (length (printed (refused number (line ∷ more))))

-- 21: a list that is too short
abbrev pub too_short : ℕ → ℕ → Check
too_short k needed = rule Refusal.ListLength (ltb k needed)

unfoldable pub written_outcome : List ℕ → ℕ → Outcome Page
written_outcome input k = unless (too_short k (length (sheet input)) ∷ []) (answer (page_of (sheet_outcome input)))

abbrev pub outcome_of_printed : Printed → Outcome Page
outcome_of_printed (Printed.Table length) = answer (table_page length)
outcome_of_printed (Printed.Refused why line length) = answer (refusal_page (rule_number why) line (rule_values why) length)
outcome_of_printed Printed.ListLength = refusal_of Refusal.ListLength

-- the list afterwards
abbrev pub list_after : List ℕ → List ℕ → Outcome Page → List ℕ
list_after text list o = or_else (λ _. put 0 text list) list o

-- a list of this length suffices for any sheet
abbrev pub max_table : ℕ
max_table = spread * max_sheet + 64
