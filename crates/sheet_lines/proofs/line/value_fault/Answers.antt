-- `line::value_fault` meets its contract: the fields by where they end (`fields_parts`), then the modes (`value-unfit`), then the word (`value-fits`).
use Prim.Native.Nat.{ℕ}
use mathlib.Core.Path.{◌≡◌, sym, ap, ◌∙◌}
use mathlib.Core.List.{List}
use native.Mathlib.Omega.{arith}
use borrow.Author.Rules.{rules}
use borrow.Author.Tests.{not-true, not-false}
use Rattle.std.specs.Prelude.{Option, Some}
use Rattle.outcome.specs.Outcome.{verdict}
use Rattle.text.specs.Parts.{fields_read}
use Rattle.text.proofs.Pieces.{FourParts}
use Rattle.text.proofs.Lines.{front-part}
use Rattle.sheet_lines.specs.Lines.{letter_checks}
use Rattle.text.proofs.Meanings.{fields_parts}
use Rattle.sheet_lines.proofs.Lines.{fields-other, value_other, value-unfit, value-fits}
use Rattle.sheet_lines.proofs.line.value_fault.Goals as goal

-- the fields by where the first three end
four : (line : List ℕ) {o : Option (ℕ × ℕ × ℕ)} {a b c : ℕ} → o ≡ fields_read line → o ≡ Some (a, b, c) → FourParts line a b c
four line {a} {b} {c} told is = fields_parts line a b c (sym told ∙ is)

pub returns-in_default : goal.returns-in_default
returns-in_default c =
    let a = c.args in
    value_other a.used a.sites a.line.now (fields-other a.line.now (sym c.four_fields.ensures ∙ c.in_default.is))

pub overflow_add-a : goal.overflow_add-a
overflow_add-a c = omega (arith, four c.args.line.now c.four_fields.ensures c.in-Some.is, c.well_formed)

pub slice_bounds-modes_fit-count : goal.slice_bounds-modes_fit-count
slice_bounds-modes_fit-count c = omega (arith, four c.args.line.now c.four_fields.ensures c.in-Some.is)

pub slice_bounds-modes_fit-start : goal.slice_bounds-modes_fit-start
slice_bounds-modes_fit-start c = omega (arith, four c.args.line.now c.four_fields.ensures c.in-Some.is)

pub slice_bounds-modes_fit-end : goal.slice_bounds-modes_fit-end
slice_bounds-modes_fit-end c = omega (arith, four c.args.line.now c.four_fields.ensures c.in-Some.is)

pub overflow_add-b : goal.overflow_add-b
overflow_add-b c = omega (arith, four c.args.line.now c.four_fields.ensures c.in-Some.is, c.well_formed)

pub slice_bounds-modes_fit-count-2 : goal.slice_bounds-modes_fit-count-2
slice_bounds-modes_fit-count-2 c = omega (arith, four c.args.line.now c.four_fields.ensures c.in-Some.is)

pub slice_bounds-modes_fit-start-2 : goal.slice_bounds-modes_fit-start-2
slice_bounds-modes_fit-start-2 c = omega (arith, four c.args.line.now c.four_fields.ensures c.in-Some.is)

pub slice_bounds-modes_fit-end-2 : goal.slice_bounds-modes_fit-end-2
slice_bounds-modes_fit-end-2 c = omega (arith, four c.args.line.now c.four_fields.ensures c.in-Some.is)

pub overflow_add-c : goal.overflow_add-c
overflow_add-c c = omega (arith, four c.args.line.now c.four_fields.ensures c.in-Some.is, c.well_formed)

pub slice_bounds-modes_fit-count-3 : goal.slice_bounds-modes_fit-count-3
slice_bounds-modes_fit-count-3 c = omega (arith, four c.args.line.now c.four_fields.ensures c.in-Some.is)

pub slice_bounds-modes_fit-start-3 : goal.slice_bounds-modes_fit-start-3
slice_bounds-modes_fit-start-3 c = omega (arith, four c.args.line.now c.four_fields.ensures c.in-Some.is)

pub returns-then-not-modes_fit : goal.returns-then-not-modes_fit
returns-then-not-modes_fit c =
    let a = c.args in
    value-unfit a.line.now c.in-Some.a c.in-Some.b c.in-Some.c (four a.line.now c.four_fields.ensures c.in-Some.is) a.used a.sites
    (sym c.modes_fit.ensures ∙ not-true _ c.if-not-modes_fit.true-raw)

pub slice_bounds-word_fault-end : goal.slice_bounds-word_fault-end
slice_bounds-word_fault-end c = omega (arith, four c.args.line.now c.four_fields.ensures c.in-Some.is)

pub returns : goal.returns
returns c k =
    let a = c.args in
    c.word_fault.ensures k
    ∙ ap (λ l. verdict (letter_checks a.sites l k)) (front-part c.in-Some.a a.line.now)
    ∙ value-fits a.line.now c.in-Some.a c.in-Some.b c.in-Some.c (four a.line.now c.four_fields.ensures c.in-Some.is) a.used a.sites
    (sym c.modes_fit.ensures ∙ not-false _ c.if-not-modes_fit.false-raw) k
