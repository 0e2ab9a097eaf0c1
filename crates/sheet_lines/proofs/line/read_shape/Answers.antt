-- `line::read_shape` meets its contract: the fields by where they end (`fields_parts`), and then the shape with its sides (`shape-fields`).
use Prim.Native.Nat.{ℕ}
use mathlib.Core.Path.{◌≡◌, sym, ap, ◌∙◌}
use mathlib.Core.List.{List}
use native.Mathlib.Omega.{arith}
use borrow.Author.Rules.{rules}
use Rattle.std.specs.Prelude.{Option, Some}
use Rattle.text.specs.Parts.{fields_read}
use Rattle.text.proofs.Pieces.{FourParts}
use Rattle.text.proofs.Lines.{front-part}
use Rattle.sheet_lines.specs.Lines.{shape_of}
use Rattle.text.proofs.Meanings.{fields_parts}
use Rattle.sheet_lines.proofs.Lines.{fields-other, shape_other, shape-fields}
use Rattle.sheet_lines.proofs.line.read_shape.Goals as goal

-- the fields by where the first three end
four : (line : List ℕ) {o : Option (ℕ × ℕ × ℕ)} {a b c : ℕ} → o ≡ fields_read line → o ≡ Some (a, b, c) → FourParts line a b c
four line {a} {b} {c} told is = fields_parts line a b c (sym told ∙ is)

pub returns-in_default : goal.returns-in_default
returns-in_default c =
    let line = c.args.line.now in record {
      answer = shape_other line (fields-other line (sym c.four_fields.ensures ∙ c.in_default.is));
      shape = tt;
    }

pub slice_bounds-kind_of-end : goal.slice_bounds-kind_of-end
slice_bounds-kind_of-end c = omega (arith, four c.args.line.now c.four_fields.ensures c.in-Some.is)

pub overflow_add-a : goal.overflow_add-a
overflow_add-a c = omega (arith, four c.args.line.now c.four_fields.ensures c.in-Some.is, c.well_formed)

pub slice_bounds-shape_with-count : goal.slice_bounds-shape_with-count
slice_bounds-shape_with-count c = omega (arith, four c.args.line.now c.four_fields.ensures c.in-Some.is)

pub slice_bounds-shape_with-start : goal.slice_bounds-shape_with-start
slice_bounds-shape_with-start c = omega (arith, four c.args.line.now c.four_fields.ensures c.in-Some.is)

pub slice_bounds-shape_with-end : goal.slice_bounds-shape_with-end
slice_bounds-shape_with-end c = omega (arith, four c.args.line.now c.four_fields.ensures c.in-Some.is)

pub overflow_add-b : goal.overflow_add-b
overflow_add-b c = omega (arith, four c.args.line.now c.four_fields.ensures c.in-Some.is, c.well_formed)

pub slice_bounds-shape_with-count-2 : goal.slice_bounds-shape_with-count-2
slice_bounds-shape_with-count-2 c = omega (arith, four c.args.line.now c.four_fields.ensures c.in-Some.is)

pub slice_bounds-shape_with-start-2 : goal.slice_bounds-shape_with-start-2
slice_bounds-shape_with-start-2 c = omega (arith, four c.args.line.now c.four_fields.ensures c.in-Some.is)

pub slice_bounds-shape_with-end-2 : goal.slice_bounds-shape_with-end-2
slice_bounds-shape_with-end-2 c = omega (arith, four c.args.line.now c.four_fields.ensures c.in-Some.is)

pub overflow_add-c : goal.overflow_add-c
overflow_add-c c = omega (arith, four c.args.line.now c.four_fields.ensures c.in-Some.is, c.well_formed)

pub slice_bounds-shape_with-count-3 : goal.slice_bounds-shape_with-count-3
slice_bounds-shape_with-count-3 c = omega (arith, four c.args.line.now c.four_fields.ensures c.in-Some.is)

pub slice_bounds-shape_with-start-3 : goal.slice_bounds-shape_with-start-3
slice_bounds-shape_with-start-3 c = omega (arith, four c.args.line.now c.four_fields.ensures c.in-Some.is)

pub returns : goal.returns
returns c =
    let line = c.args.line.now in
    let a = c.in-Some.a in
    let it = shape-fields line a c.in-Some.b c.in-Some.c (four c.args.line.now c.four_fields.ensures c.in-Some.is) c.kind_of.result c.shape_with.result
    (c.kind_of.ensures ∙ ap shape_of (front-part a line)) c.shape_with.ensures.answer c.shape_with.ensures.shape in record {
      answer = it.0;
      shape = it.1;
    }
