-- `head::read_head` meets its contract: each line that ends leaves the checks of the rest (`first_passes`, `second-passes`), and three make it ready
-- (`head-ready`).
use Prim.Native.Nat.{ℕ, ◌+◌, ◌-◌, ◌≤◌}
use mathlib.Core.Path.{◌≡◌, refl, sym, ap, subst, ◌∙◌}
use mathlib.Core.Bool.{true}
use mathlib.Core.List.{List}
use native.Mathlib.Omega.{arith}
use lib.ListN.{length, take, drop, length-drop}
use borrow.Author.Rules.{rules}
use Rattle.std.specs.Prelude.{Result, Ok, Err, IfOk, IfErr}
use Rattle.outcome.specs.declared.Refusal.{Refusal}
use Rattle.outcome.specs.Outcome.{verdict, answer, outcome_of}
use Rattle.pauli_word.proofs.Words.{rest_part}
use Rattle.action.specs.Lists.{same_numbers}
use Rattle.text.specs.Text.{line_end, pieces}
use Rattle.text.proofs.Lines.{front-part, Ended, ended, names_ends}
use Rattle.sheet_lines.specs.declared.LineFault.{LineFault}
use Rattle.sheet_lines.specs.declared.line.Shape.{Shape}
use Rattle.sheet_lines.specs.Lines.{shape_names, word_names, modes_of, line_shape, line_sites, shape_checks, third_checks, second_checks, line_checks}
use Rattle.sheet_lines.specs.Parts.{line_group, at_line, refused_at}
use Rattle.sheet_lines.proofs.Heads.{first_other_lem, first_passes, second_missing, second-refused, second-passes, third_other, head-ready, body-within}
use Rattle.sheet_lines.proofs.Faults.{placed, kept, handed_fault}
use Rattle.sheet_lines.proofs.head.read_head.Goals as goal

-- the text after a line that ends at k, as it is cut out
abbrev after : List ℕ → ℕ → List ℕ
after text k = take (length text - (k + 1)) (drop (k + 1) text)

after-is : (text : List ℕ) (k : ℕ) → after text k ≡ drop (k + 1) text
after-is text k = rest_part (k + 1) text

-- the first line ends at a: the checks are those from the second line on
abbrev First : List ℕ → ℕ → Type 0
First input a = Ended input a × (same_numbers (take a input) shape_names ≡ true)

checks-a : (input : List ℕ) (a : ℕ) → First input a
    → verdict (line_checks (pieces line_end input)) ≡ verdict (second_checks (pieces line_end (after input a)))
checks-a input a first =
    first_passes input a first.0 first.1 ∙ ap (λ l. verdict (second_checks (pieces line_end l))) (sym (after-is input a))

-- what is told of the line with the shape
abbrev Told : List ℕ → Result Shape Refusal → Type 0
Told line r =
    ((k : ℕ) → at_line k (outcome_of r) ≡ verdict (shape_checks line k))
    × IfOk r (λ shape. (shape.kind ≡ line_shape line) × (shape.group ≡ line_group line))

module _ (text : List ℕ) (b : ℕ) (r : Result Shape Refusal) (t : Told (take (b - 0) text) r) where
  told : Told (take b text) r
  told = subst (λ l. Told l r) (front-part b text) t

  -- it breaks no rule
  fine : (shape : Shape) → r ≡ Ok shape → verdict (shape_checks (take b text) 2) ≡ answer tt
  fine shape e = sym (told.0 2) ∙ ap (λ (r : Result Shape Refusal). at_line 2 (outcome_of r)) e

  shaped : (shape : Shape) → r ≡ Ok shape → (shape.kind ≡ line_shape (take b text)) × (shape.group ≡ line_group (take b text))
  shaped shape e = subst (λ r. IfOk r (λ (s : Shape). (s.kind ≡ line_shape (take b text)) × (s.group ≡ line_group (take b text)))) e told.1

  -- or one
  broken : (why : Refusal) → r ≡ Err why → refused_at why 2 ≡ verdict (shape_checks (take b text) 2)
  broken why e = sym (ap (λ (r : Result Shape Refusal). at_line 2 (outcome_of r)) e) ∙ told.0 2

-- the checks are those from the third line on
checks-b : (input : List ℕ) (a b : ℕ) → First input a
    → (let text = after input a in Ended text b → verdict (shape_checks (take b text) 2) ≡ answer tt
    → verdict (line_checks (pieces line_end input))
    ≡ verdict (third_checks (modes_of (line_shape (take b text))) (line_sites (take b text)) (pieces line_end (after text b))))
checks-b input a b first second fits =
    let text = after input a in
    checks-a input a first
    ∙ second-passes text b second fits
    ∙ ap (λ l. verdict (third_checks (modes_of (line_shape (take b text))) (line_sites (take b text)) (pieces line_end l))) (sym (after-is text b))

-- the three lines are within the sheet
within : (input : List ℕ) (a b c : ℕ) → First input a → Ended (after input a) b → Ended (after (after input a) b) c
    → a + b + c + 3 ≤ length input
within input a b c first second third =
    body-within input (after input a) (after (after input a) b) a b c first.0 (after-is input a) second (after-is (after input a) b) third

pub returns-in_default : goal.returns-in_default
returns-in_default c = record {
  fault = (first_other_lem c.args.input.now (sym c.names_end.ensures ∙ c.in_default.is), omega arith);
  ready = tt;
}

pub overflow_add-text : goal.overflow_add-text
overflow_add-text c =
    let first = names_ends shape_names c.args.input.now c.in-Some.a (sym c.names_end.ensures ∙ c.in-Some.is) in
    omega (arith, first.0, c.well_formed)

pub slice_bounds-text-count : goal.slice_bounds-text-count
slice_bounds-text-count c =
    let first = names_ends shape_names c.args.input.now c.in-Some.a (sym c.names_end.ensures ∙ c.in-Some.is) in
    omega (arith, first.0)

pub slice_bounds-text-start : goal.slice_bounds-text-start
slice_bounds-text-start c =
    let first = names_ends shape_names c.args.input.now c.in-Some.a (sym c.names_end.ensures ∙ c.in-Some.is) in
    omega (arith, first.0)

pub returns-then-b-text : goal.returns-then-b-text
returns-then-b-text c =
    let input = c.args.input.now in
    let a = c.in-Some.a in
    let first = names_ends shape_names input a (sym c.names_end.ensures ∙ c.in-Some.is) in record {
      fault = (second_missing (after input a) c.find-b.result c.find-b.ensures c.if-b-text.true ∙ sym (checks-a input a first), omega arith);
      ready = tt;
    }

pub slice_bounds-read_shape-end : goal.slice_bounds-read_shape-end
slice_bounds-read_shape-end c =
    let text = after c.args.input.now c.in-Some.a in
    omega (arith, ended text c.find-b.result c.find-b.ensures c.if-b-text.false)

pub returns-in_err-shape-clause-fault : goal.returns-in_err-shape-clause-fault
returns-in_err-shape-clause-fault c =
    let input = c.args.input.now in
    let a = c.in-Some.a in
    let b = c.find-b.result in
    let first = names_ends shape_names input a (sym c.names_end.ensures ∙ c.in-Some.is) in
    let text = after input a in
    let second = ended text b c.find-b.ensures c.if-b-text.false in
    let (why, told, is) = placed 2 c.read_shape.result c.map_err.result c.map_err.ensures.cases c.in_err-shape.was (λ e f k. search rules) in
    let e = second-refused text b second why (broken text b c.read_shape.result (c.read_shape.ensures.answer, c.read_shape.ensures.shape) why told) in
    let fault : LineFault → Type 0 = (λ fault. (refused_at fault.why fault.line ≡ verdict (line_checks (pieces line_end input))) × (fault.line ≤ 3)) in
    subst (λ r. IfErr r fault) (sym (handed_fault c.from_residual.result c.from_residual.ensures.1))
    (subst fault (sym is) (e ∙ sym (checks-a input a first), omega arith))

pub overflow_add-rest : goal.overflow_add-rest
overflow_add-rest c =
    let input = c.args.input.now in
    let a = c.in-Some.a in
    let second = ended (after input a) c.find-b.result c.find-b.ensures c.if-b-text.false in
    omega (arith, second, ap length (after-is input a), length-drop (a + 1) input, c.well_formed)

pub slice_bounds-rest-count : goal.slice_bounds-rest-count
slice_bounds-rest-count c =
    let text = after c.args.input.now c.in-Some.a in
    omega (arith, ended text c.find-b.result c.find-b.ensures c.if-b-text.false)

pub slice_bounds-rest-start : goal.slice_bounds-rest-start
slice_bounds-rest-start c =
    let text = after c.args.input.now c.in-Some.a in
    omega (arith, ended text c.find-b.result c.find-b.ensures c.if-b-text.false)

pub returns-in_default-names_end : goal.returns-in_default-names_end
returns-in_default-names_end c =
    let input = c.args.input.now in
    let a = c.in-Some.a in
    let b = c.find-b.result in
    let first = names_ends shape_names input a (sym c.names_end.ensures ∙ c.in-Some.is) in
    let text = after input a in
    let second = ended text b c.find-b.ensures c.if-b-text.false in
    let good = fine text b c.read_shape.result (c.read_shape.ensures.answer, c.read_shape.ensures.shape) c.in_ok-shape.shape (kept _ c.read_shape.result c.map_err.result c.map_err.ensures.cases c.in_ok-shape.was) in
    let line = take b text in
    let other = third_other (modes_of (line_shape line)) (line_sites line) (after text b) (sym c.names_end-2.ensures ∙ c.in_default-names_end.is) in record {
      fault = (other ∙ sym (checks-b input a b first second good), omega arith);
      ready = tt;
    }

pub overflow_add-result-2 : goal.overflow_add-result-2
overflow_add-result-2 c =
    let input = c.args.input.now in
    let a = c.in-Some.a in
    let b = c.find-b.result in
    let first = names_ends shape_names input a (sym c.names_end.ensures ∙ c.in-Some.is) in
    let second = ended (after input a) b c.find-b.ensures c.if-b-text.false in
    let third = names_ends word_names (after (after input a) b) c.in-Some-names_end.c (sym c.names_end-2.ensures ∙ c.in-Some-names_end.is) in
    omega (arith, within input a b c.in-Some-names_end.c first second third.0, c.well_formed)

pub overflow_add-result-3 : goal.overflow_add-result-3
overflow_add-result-3 c =
    let input = c.args.input.now in
    let a = c.in-Some.a in
    let b = c.find-b.result in
    let first = names_ends shape_names input a (sym c.names_end.ensures ∙ c.in-Some.is) in
    let second = ended (after input a) b c.find-b.ensures c.if-b-text.false in
    let third = names_ends word_names (after (after input a) b) c.in-Some-names_end.c (sym c.names_end-2.ensures ∙ c.in-Some-names_end.is) in
    omega (arith, within input a b c.in-Some-names_end.c first second third.0, c.well_formed)

pub returns : goal.returns
returns c =
    let input = c.args.input.now in
    let a = c.in-Some.a in
    let b = c.find-b.result in
    let first = names_ends shape_names input a (sym c.names_end.ensures ∙ c.in-Some.is) in
    let text = after input a in
    let second = ended text b c.find-b.ensures c.if-b-text.false in
    let read = kept _ c.read_shape.result c.map_err.result c.map_err.ensures.cases c.in_ok-shape.was in
    let it : Told (take (b - 0) text) c.read_shape.result = (c.read_shape.ensures.answer, c.read_shape.ensures.shape) in
    let good = fine text b c.read_shape.result it c.in_ok-shape.shape read in
    let shape = shaped text b c.read_shape.result it c.in_ok-shape.shape read in
    let third = names_ends word_names (after text b) c.in-Some-names_end.c (sym c.names_end-2.ensures ∙ c.in-Some-names_end.is) in record {
      fault = tt;
      ready = head-ready input text (after text b) a b c.in-Some-names_end.c first.0 (after-is input a) second (after-is text b) third.0 _
          first.1 good third.1 shape.1 (c.modes_of.ensures ∙ ap modes_of shape.0) refl;
    }
