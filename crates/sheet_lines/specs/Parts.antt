-- What the functions that read lines come to.
use Rattle.std.specs.Prelude.{ℕ, ◌≤◌, ◌≡◌, Bool, cond, List, [], ◌∷◌, ℤ, pos, length, get_or, drop, Result, Ok, Err}
use Rattle.outcome.specs.declared.Refusal.{Refusal}
use Rattle.outcome.specs.declared.Refusal.TheVariants as Refusal
use Rattle.outcome.specs.Outcome.{Outcome, refused, answer, rule_number, rule_values, refusal_of, verdict}
use Rattle.action.specs.Arithmetic.{product}
use Rattle.action.specs.Lists.{same_numbers}
use Rattle.group.specs.declared.Group.{Group}
use Rattle.group.specs.Value.{group_of}
use Rattle.group.specs.Calls.{chain_outcome, ladder_outcome, torus2_outcome, torus3_outcome}
use Rattle.text.specs.Text.{line_end, pieces, number_of, is_mode, signed_of}
use Rattle.sheet_lines.specs.declared.line.Kind.{Kind}
use Rattle.sheet_lines.specs.declared.line.Kind.TheVariants as Kind
use Rattle.sheet_lines.specs.declared.LineFault.{LineFault}
use Rattle.sheet_lines.specs.declared.head.Head.{Head}
use Rattle.sheet_lines.specs.Lines.{zero_text, modes_of, generators_for, field, line_shape, sides_used, line_sites, shape_checks, body_checks, line_checks}

-- a refusal at a line: by its rule's number, with the line and then what the rule names
abbrev pub refused_at : {A : Type 0} → Refusal → ℕ → Outcome A
refused_at why line = refused (rule_number why) (line ∷ rule_values why)

-- an outcome at a line: a refusal names its line
abbrev pub at_line : {A : Type 0} → ℕ → Outcome A → Outcome (Unit {0})
at_line line (refused number vs) = refused number (line ∷ vs)
at_line line (answer a) = answer tt

-- what the checks of lines come to
abbrev pub outcome_of_lines : {A : Type 0} → Result A LineFault → Outcome A
outcome_of_lines (Ok a) = answer a
outcome_of_lines (Err fault) = refused_at fault.why fault.line

-- a text that is used passes a test, and one that is not is 0
abbrev pub fits_where : (List ℕ → Bool) → Bool → List ℕ → Bool
fits_where test used text = cond used (test text) (same_numbers zero_text text)

-- a text read as a mode; 0 where it is none
abbrev pub mode_or_zero : List ℕ → ℤ
mode_or_zero text = cond (is_mode text) (signed_of text) (pos 0)

-- what making the lattice of a kind comes to; 31 for no shape
abbrev pub lattice_for : Kind → ℕ → ℕ → ℕ → Outcome Group
lattice_for Kind.Chain a b c = chain_outcome a
lattice_for Kind.Ladder a b c = ladder_outcome a b
lattice_for Kind.Torus2 a b c = torus2_outcome a b
lattice_for Kind.Torus3 a b c = torus3_outcome a b c
lattice_for Kind.Other a b c = refusal_of Refusal.LineForm

-- the group of a shape with its sides
abbrev pub sides_group : Kind → List ℕ → List ℕ → List ℕ → Group
sides_group kind a b c = group_of (product (sides_used kind (a ∷ b ∷ c ∷ []))) (generators_for kind (number_of a) (number_of b) (number_of c))

-- the group of a line of values
abbrev pub line_group : List ℕ → Group
line_group line = sides_group (line_shape line) (field 1 line) (field 2 line) (field 3 line)

-- the first three lines of a sheet that break no rule: the shape's line, its group, how many modes are used, and where the value lines begin
pub record Ready (input : List ℕ) (h : Head) : Type 0 where
  pub line : List ℕ
  pub second : get_or (pieces line_end input) 1 [] ≡ line
  pub fine : verdict (shape_checks line 2) ≡ answer tt
  pub group : h.group ≡ line_group line
  pub used : h.used ≡ modes_of (line_shape line)
  pub inside : h.body ≤ length input
  pub lines : drop 3 (pieces line_end input) ≡ pieces line_end (drop h.body input)
  pub checks : verdict (line_checks (pieces line_end input)) ≡ verdict (body_checks h.used (line_sites line) (pieces line_end (drop h.body input)) 4)
