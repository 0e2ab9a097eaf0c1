-- The lines of a sheet: the words that it is written with, shapes and fields, and the rules that each line is checked by, in their order.
use Rattle.std.specs.Prelude.{ℕ, suc, Bool, true, false, ◌&&◌, not, cond, List, [], ◌∷◌, ◌++◌, map, eqb, ltb, length, get_or, take, drop}
use Rattle.outcome.specs.declared.Refusal.{Refusal}
use Rattle.outcome.specs.declared.Refusal.TheVariants as Refusal
use Rattle.outcome.specs.Outcome.{rule_number, rule_values, Check}
use Rattle.pauli_word.specs.Limits.{max_sites}
use Rattle.pauli_word.specs.Text.{letters_alone, first_other}
use Rattle.action.specs.Arithmetic.{product}
use Rattle.action.specs.Lists.{same_numbers, every}
use Rattle.action.specs.Permutation.{Generator}
use Rattle.action.specs.Lattice.{chain, ladder, torus2, torus3}
use Rattle.text.specs.Text.{space, pieces, is_number, number_of, is_mode}
use Rattle.text.specs.Parts.{four_fields}
use Rattle.sheet_lines.specs.declared.line.Kind.{Kind}
use Rattle.sheet_lines.specs.declared.line.Kind.TheVariants as Kind

-- ---- the words that a sheet is written with

-- shape a b c
abbrev pub shape_names : List ℕ
shape_names = 115 ∷ 104 ∷ 97 ∷ 112 ∷ 101 ∷ 32 ∷ 97 ∷ 32 ∷ 98 ∷ 32 ∷ 99 ∷ []

-- word k0 k1 k2
abbrev pub word_names : List ℕ
word_names = 119 ∷ 111 ∷ 114 ∷ 100 ∷ 32 ∷ 107 ∷ 48 ∷ 32 ∷ 107 ∷ 49 ∷ 32 ∷ 107 ∷ 50 ∷ []

abbrev pub zero_text : List ℕ
zero_text = 48 ∷ []

-- ---- shapes

-- the shape of a name: chain, ladder, torus2, torus3
unfoldable pub shape_of : List ℕ → Kind
unfolding same_numbers
shape_of name =
    cond (same_numbers name (99 ∷ 104 ∷ 97 ∷ 105 ∷ 110 ∷ [])) Kind.Chain
    (cond (same_numbers name (108 ∷ 97 ∷ 100 ∷ 100 ∷ 101 ∷ 114 ∷ [])) Kind.Ladder
    (cond (same_numbers name (116 ∷ 111 ∷ 114 ∷ 117 ∷ 115 ∷ 50 ∷ [])) Kind.Torus2
    (cond (same_numbers name (116 ∷ 111 ∷ 114 ∷ 117 ∷ 115 ∷ 51 ∷ [])) Kind.Torus3 Kind.Other)))

abbrev pub is_shape : Kind → Bool
is_shape Kind.Other = false
is_shape Kind.Chain = true
is_shape Kind.Ladder = true
is_shape Kind.Torus2 = true
is_shape Kind.Torus3 = true

-- how many sides a shape has
abbrev pub sides_of : Kind → ℕ
sides_of Kind.Chain = 1
sides_of Kind.Ladder = 2
sides_of Kind.Torus2 = 2
sides_of Kind.Torus3 = 3
sides_of Kind.Other = 0

-- how many modes: one for each generator
abbrev pub modes_of : Kind → ℕ
modes_of Kind.Chain = 1
modes_of Kind.Ladder = 1
modes_of Kind.Torus2 = 2
modes_of Kind.Torus3 = 3
modes_of Kind.Other = 0

-- the generators of a shape with sides a, b and c
unfoldable pub generators_for : Kind → ℕ → ℕ → ℕ → List Generator
generators_for Kind.Chain a b c = chain a
generators_for Kind.Ladder a b c = ladder a b
generators_for Kind.Torus2 a b c = torus2 a b
generators_for Kind.Torus3 a b c = torus3 a b c
generators_for Kind.Other a b c = []

-- ---- fields

-- the fields of a line, parted by one space
abbrev pub fields : List ℕ → List (List ℕ)
fields line = pieces space line

-- field i
abbrev pub field : ℕ → List ℕ → List ℕ
field i line = get_or (fields line) i []

-- the first k texts pass a test, and the others are 0
unfoldable pub first_pass : (List ℕ → Bool) → ℕ → List (List ℕ) → Bool
unfolding every same_numbers
first_pass test k texts = every test (take k texts) && every (same_numbers zero_text) (drop k texts)

-- ---- checks

-- the rule that a refusal is by, at a line: a sheet's refusals name their line, and then what the rule names
abbrev pub rule_at : Refusal → Bool → ℕ → Check
rule_at why b line = record { number = rule_number why; values = line ∷ rule_values why; broken = b }

-- 31: a names line that is another
abbrev pub names_line : List ℕ → List ℕ → ℕ → Check
names_line names line k = rule_at Refusal.LineForm (not (same_numbers line names)) k

-- the line of values: its shape
abbrev pub line_shape : List ℕ → Kind
line_shape line = shape_of (field 0 line)

-- the sides that a shape uses, of the texts beside it
abbrev pub sides_used : Kind → List (List ℕ) → List ℕ
sides_used kind texts = map number_of (take (sides_of kind) texts)

-- 31: a shape, its sides, and 0 for each unused one; 26: a side 0; 27: sides whose product exceeds max_sites
unfoldable pub side_checks : Kind → List (List ℕ) → ℕ → List Check
side_checks kind texts k =
    rule_at Refusal.LineForm (not (is_shape kind && first_pass is_number (sides_of kind) texts)) k
    ∷ rule_at Refusal.ZeroSide (not (every (λ side. not (eqb side 0)) (sides_used kind texts))) k
    ∷ rule_at Refusal.SidesTooLarge (ltb max_sites (product (sides_used kind texts))) k
    ∷ []

-- the sites of a line of values
abbrev pub line_sites : List ℕ → ℕ
line_sites line = product (sides_used (line_shape line) (drop 1 (fields line)))

abbrev pub shape_checks : List ℕ → ℕ → List Check
shape_checks line k = rule_at Refusal.LineForm (not (four_fields line)) k ∷ side_checks (line_shape line) (drop 1 (fields line)) k

-- 28: more than max_sites letters; 29: another letter than I, X, Y, Z; 16: another number of letters than the n sites
abbrev pub letter_checks : ℕ → List ℕ → ℕ → List Check
letter_checks n word k =
    rule_at Refusal.TooManyLetters (ltb max_sites (length word)) k
    ∷ rule_at (Refusal.NotALetter (first_other word)) (not (letters_alone word)) k
    ∷ rule_at Refusal.OtherSites (not (eqb (length word) n)) k
    ∷ []

-- 31: a word, the m modes that are used, and 0 for each unused one; then the word
abbrev pub value_checks : ℕ → ℕ → List ℕ → ℕ → List Check
value_checks m n line k =
    rule_at Refusal.LineForm (not (four_fields line && first_pass is_mode m (drop 1 (fields line)))) k ∷ letter_checks n (field 0 line) k

-- the value lines, from line k on; 31: bytes after the last line end
unfoldable pub body_checks : ℕ → ℕ → List (List ℕ) → ℕ → List Check
body_checks m n [] k = []
body_checks m n (last ∷ []) k = rule_at Refusal.LineForm (not (eqb (length last) 0)) k ∷ []
body_checks m n (line ∷ more ∷ rest) k = value_checks m n line k ++ body_checks m n (more ∷ rest) (suc k)

-- the lines from the third on, where m modes are used and the sites are n; the last piece is what stands after the last line end. A missing line among
-- the first three is 31 at its own number
unfoldable pub third_checks : ℕ → ℕ → List (List ℕ) → List Check
third_checks m n [] = []
third_checks m n (last ∷ []) = rule_at Refusal.LineForm true 3 ∷ []
third_checks m n (line ∷ more ∷ rest) = names_line word_names line 3 ∷ body_checks m n (more ∷ rest) 4

-- from the second on
unfoldable pub second_checks : List (List ℕ) → List Check
second_checks [] = []
second_checks (last ∷ []) = rule_at Refusal.LineForm true 2 ∷ []
second_checks (line ∷ more ∷ rest) = shape_checks line 2 ++ third_checks (modes_of (line_shape line)) (line_sites line) (more ∷ rest)

-- all of them
unfoldable pub line_checks : List (List ℕ) → List Check
line_checks [] = []
line_checks (last ∷ []) = rule_at Refusal.LineForm true 1 ∷ []
line_checks (line ∷ more ∷ rest) = names_line shape_names line 1 ∷ second_checks (more ∷ rest)
