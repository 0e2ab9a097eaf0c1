-- The lines that a sheet prints: the row of a word under modes, the row of a value line, and the line of a refusal.
use Rattle.std.specs.Prelude.{ℕ, suc, ◌+◌, ◌*◌, List, [], ◌∷◌, ◌++◌, map, ℤ, take, drop}
use Rattle.pauli_word.specs.Word.{Word, weight}
use Rattle.pauli_word.specs.Text.{read_text, spell}
use Rattle.action.specs.Permutation.{Generator}
use Rattle.decisions.specs.Decisions.{Decision, kept, dropped, Row, decision}
use Rattle.text.specs.Text.{line_end, space, signed_of, decimal, max_digits}
use Rattle.sheet_lines.specs.Lines.{zero_text, fields, field}

-- ---- the words that they are written with

-- refused
abbrev pub refused_name : List ℕ
refused_name = 114 ∷ 101 ∷ 102 ∷ 117 ∷ 115 ∷ 101 ∷ 100 ∷ []

abbrev pub one_text : List ℕ
one_text = 49 ∷ []

abbrev pub missing : List ℕ
missing = 45 ∷ []

-- ---- lines

-- fields with a space between them, and the line's end
unfoldable pub joined : List (List ℕ) → List ℕ
joined [] = line_end ∷ []
joined (f ∷ []) = f ++ (line_end ∷ [])
joined (f ∷ g ∷ fs) = f ++ (space ∷ joined (g ∷ fs))

-- what follows the first field of a line: a space and the field, for each, and the line's end
unfoldable pub rest : List (List ℕ) → List ℕ
rest [] = line_end ∷ []
rest (f ∷ fs) = space ∷ (f ++ rest fs)

-- the line of a sheet that breaks a rule: the rule's number, and the sheet's line
abbrev pub refusal_line : ℕ → ℕ → List ℕ
refusal_line number line = joined (refused_name ∷ decimal number ∷ decimal line ∷ [])

-- ---- rows

-- the fields of a row: the word, its least word, the index that leads from there back to it, the orbit size, the weight, and 1 if the modes keep it;
-- a dropped word has the index that drops it, no least word and orbit size, and 0
abbrev pub row_fields : Word → Decision Row → List (List ℕ)
row_fields w (kept r) = spell w ∷ spell r.word ∷ decimal r.index ∷ decimal r.size ∷ decimal (weight w) ∷ one_text ∷ []
row_fields w (dropped i) = spell w ∷ missing ∷ decimal i ∷ missing ∷ decimal (weight w) ∷ zero_text ∷ []

-- the row of a word under modes
unfoldable pub row : List Generator → Word → List ℤ → List ℕ
row gs w ks = joined (row_fields w (decision gs ks w))

-- the row of a value line
unfoldable pub line_row : ℕ → List Generator → List ℕ → List ℕ
line_row m gs line = row gs (read_text (field 0 line)) (map signed_of (take m (drop 1 (fields line))))

-- ---- how long they are at most

-- a space and a number
abbrev pub number_room : ℕ
number_room = suc max_digits

-- what follows the least word: three numbers, and ` 1` with the line's end
abbrev pub numbers_room : ℕ
numbers_room = 3 * number_room + 3

-- a row, for each byte of its line and the line's end
abbrev pub spread : ℕ
spread = 4
