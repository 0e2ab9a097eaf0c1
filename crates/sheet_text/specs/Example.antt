-- The worked sheet, computed.
use Rattle.std.specs.Prelude.{ℕ, ◌≡◌, refl, true, List, [], ◌∷◌}
use Rattle.pauli_word.specs.Word.{weight}
use Rattle.pauli_word.specs.Text.{letters_alone}
use Rattle.action.specs.Arithmetic.{product}
use Rattle.action.specs.Lists.{same_numbers, every}
use Rattle.decisions.specs.Decisions.{decision}
use Rattle.action.specs.Lattice.{chain}
use Rattle.action.specs.Orbit.{least, index_back, orbit_size}
use Rattle.action.specs.Sector.{keeps, dropped_by}
use Rattle.text.specs.Text.{pieces, is_number, number_of, read_on, is_signed, signed_of, is_mode, decimal, digits_of}
use Rattle.text.specs.Parts.{four_fields}
use Rattle.sheet_lines.specs.Lines.{line_checks, second_checks, third_checks, body_checks, side_checks, first_pass, shape_of, generators_for}
use Rattle.sheet_rows.specs.Rows.{joined, row, line_row}
use Rattle.sheet_text.specs.Sheet.{sheet, sheet_outcome, rows, table}

abbrev pub example : List ℕ
example =
    115 ∷ 104 ∷ 97 ∷ 112 ∷ 101 ∷ 32 ∷ 97 ∷ 32 ∷ 98 ∷ 32 ∷ 99 ∷ 10 ∷ 99 ∷ 104 ∷ 97 ∷ 105 ∷ 110 ∷ 32 ∷ 52 ∷ 32 ∷ 48 ∷ 32 ∷ 48 ∷ 10 ∷ 119 ∷ 111 ∷ 114 ∷ 100 ∷ 32 ∷ 107 ∷ 48 ∷ 32 ∷ 107 ∷ 49 ∷ 32 ∷ 107 ∷ 50 ∷ 10 ∷ 88 ∷ 73 ∷ 73 ∷ 73 ∷ 32 ∷ 49 ∷ 32 ∷ 48 ∷ 32 ∷ 48 ∷ 10 ∷ 88 ∷ 73 ∷ 88 ∷ 73 ∷ 32 ∷ 49 ∷ 32 ∷ 48 ∷ 32 ∷ 48 ∷ 10 ∷ 88 ∷ 73 ∷ 88 ∷ 73 ∷ 32 ∷ 45 ∷ 50 ∷ 32 ∷ 48 ∷ 32 ∷ 48 ∷ 10 ∷ []

abbrev pub example_table : List ℕ
example_table =
    119 ∷ 111 ∷ 114 ∷ 100 ∷ 32 ∷ 114 ∷ 101 ∷ 112 ∷ 32 ∷ 105 ∷ 110 ∷ 100 ∷ 101 ∷ 120 ∷ 32 ∷ 111 ∷ 114 ∷ 98 ∷ 105 ∷ 116 ∷ 32 ∷ 119 ∷ 101 ∷ 105 ∷ 103 ∷ 104 ∷ 116 ∷ 32 ∷ 107 ∷ 101 ∷ 101 ∷ 112 ∷ 10 ∷ 88 ∷ 73 ∷ 73 ∷ 73 ∷ 32 ∷ 73 ∷ 73 ∷ 73 ∷ 88 ∷ 32 ∷ 49 ∷ 32 ∷ 52 ∷ 32 ∷ 49 ∷ 32 ∷ 49 ∷ 10 ∷ 88 ∷ 73 ∷ 88 ∷ 73 ∷ 32 ∷ 45 ∷ 32 ∷ 50 ∷ 32 ∷ 45 ∷ 32 ∷ 50 ∷ 32 ∷ 48 ∷ 10 ∷ 88 ∷ 73 ∷ 88 ∷ 73 ∷ 32 ∷ 73 ∷ 88 ∷ 73 ∷ 88 ∷ 32 ∷ 51 ∷ 32 ∷ 50 ∷ 32 ∷ 50 ∷ 32 ∷ 49 ∷ 10 ∷ []

pub example-prints : same_numbers (sheet example) example_table ≡ true
unfolding same_numbers sheet sheet_outcome line_checks second_checks third_checks body_checks side_checks four_fields first_pass shape_of pieces is_number number_of read_on is_signed signed_of is_mode decimal digits_of joined row decision line_row rows table generators_for product every chain least index_back orbit_size keeps dropped_by weight letters_alone
example-prints = refl
