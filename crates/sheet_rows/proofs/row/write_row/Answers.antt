-- `row::write_row` meets its contract: a line that breaks no rule has four fields (`line-parts`), and its row is that of its word and modes (`line_row`).
use Prim.Native.Nat.{ℕ, ◌+◌, ◌≤◌}
use mathlib.Core.Path.{◌≡◌, sym, ap, subst, ◌∙◌}
use mathlib.Core.List.{List}
use native.Mathlib.Omega.{arith}
use borrow.Author.Rules.{rules}
use lib.ListN.{length}
use mir.Syntax.{w32}
use mir.ValLaws.{to_z-of_z}
use Rattle.elements.specs.HeldGroup.{generators_held}
use Rattle.text.specs.Text.{put}
use Rattle.outcome.specs.Outcome.{verdict, answer}
use Rattle.sheet_lines.specs.Lines.{value_checks}
use Rattle.text.specs.Parts.{fields_read}
use Rattle.std.specs.Prelude.{Some}
use Rattle.sheet_rows.proofs.Rows.{line-not-other, line-parts, line-letters, line_long, line-room, three_taken, line_row_lem}
use Rattle.sheet_rows.proofs.row.write_row.Goals as goal

-- the fields end within the line
within :
    (used sites : ℕ) (line : List ℕ) → verdict (value_checks used sites line 0) ≡ answer tt → {a b d : ℕ} → fields_read line ≡ Some (a, b, d)
    → (a + 1 ≤ b) × (b + 1 ≤ d) × (d + 1 ≤ length line)
within used sites line fine told =
    let p = line-parts used sites line fine told in
    (omega (arith, p.second), omega (arith, p.third), omega (arith, p.fourth))

pub returns-in_default : goal.returns-in_default
returns-in_default c =
    let other = sym c.four_fields.ensures ∙ c.in_default.is in
    absurd (line-not-other c.args.group.now.generators c.args.group.now.sites c.args.line.now c.requires.line_value other)

pub overflow_add-a : goal.overflow_add-a
overflow_add-a c =
    let w = within c.args.group.now.generators c.args.group.now.sites c.args.line.now c.requires.line_value (sym c.four_fields.ensures ∙ c.in-Some.is) in
    omega (arith, w)

pub slice_bounds-mode_or_zero-count : goal.slice_bounds-mode_or_zero-count
slice_bounds-mode_or_zero-count c =
    let w = within c.args.group.now.generators c.args.group.now.sites c.args.line.now c.requires.line_value (sym c.four_fields.ensures ∙ c.in-Some.is) in
    omega (arith, w)

pub slice_bounds-mode_or_zero-start : goal.slice_bounds-mode_or_zero-start
slice_bounds-mode_or_zero-start c =
    let w = within c.args.group.now.generators c.args.group.now.sites c.args.line.now c.requires.line_value (sym c.four_fields.ensures ∙ c.in-Some.is) in
    omega (arith, w)

pub slice_bounds-mode_or_zero-end : goal.slice_bounds-mode_or_zero-end
slice_bounds-mode_or_zero-end c =
    let w = within c.args.group.now.generators c.args.group.now.sites c.args.line.now c.requires.line_value (sym c.four_fields.ensures ∙ c.in-Some.is) in
    omega (arith, w)

pub overflow_add-b : goal.overflow_add-b
overflow_add-b c =
    let w = within c.args.group.now.generators c.args.group.now.sites c.args.line.now c.requires.line_value (sym c.four_fields.ensures ∙ c.in-Some.is) in
    omega (arith, w)

pub slice_bounds-mode_or_zero-count-2 : goal.slice_bounds-mode_or_zero-count-2
slice_bounds-mode_or_zero-count-2 c =
    let w = within c.args.group.now.generators c.args.group.now.sites c.args.line.now c.requires.line_value (sym c.four_fields.ensures ∙ c.in-Some.is) in
    omega (arith, w)

pub slice_bounds-mode_or_zero-start-2 : goal.slice_bounds-mode_or_zero-start-2
slice_bounds-mode_or_zero-start-2 c =
    let w = within c.args.group.now.generators c.args.group.now.sites c.args.line.now c.requires.line_value (sym c.four_fields.ensures ∙ c.in-Some.is) in
    omega (arith, w)

pub slice_bounds-mode_or_zero-end-2 : goal.slice_bounds-mode_or_zero-end-2
slice_bounds-mode_or_zero-end-2 c =
    let w = within c.args.group.now.generators c.args.group.now.sites c.args.line.now c.requires.line_value (sym c.four_fields.ensures ∙ c.in-Some.is) in
    omega (arith, w)

pub overflow_add-c : goal.overflow_add-c
overflow_add-c c =
    let w = within c.args.group.now.generators c.args.group.now.sites c.args.line.now c.requires.line_value (sym c.four_fields.ensures ∙ c.in-Some.is) in
    omega (arith, w)

pub slice_bounds-mode_or_zero-count-3 : goal.slice_bounds-mode_or_zero-count-3
slice_bounds-mode_or_zero-count-3 c =
    let w = within c.args.group.now.generators c.args.group.now.sites c.args.line.now c.requires.line_value (sym c.four_fields.ensures ∙ c.in-Some.is) in
    omega (arith, w)

pub slice_bounds-mode_or_zero-start-3 : goal.slice_bounds-mode_or_zero-start-3
slice_bounds-mode_or_zero-start-3 c =
    let w = within c.args.group.now.generators c.args.group.now.sites c.args.line.now c.requires.line_value (sym c.four_fields.ensures ∙ c.in-Some.is) in
    omega (arith, w)

pub slice_bounds-word_row-end-2 : goal.slice_bounds-word_row-end-2
slice_bounds-word_row-end-2 c =
    let w = within c.args.group.now.generators c.args.group.now.sites c.args.line.now c.requires.line_value (sym c.four_fields.ensures ∙ c.in-Some.is) in
    omega (arith, w)

pub word_row-requires : goal.word_row-requires
word_row-requires c =
    let a = c.args in
    let fine = c.requires.line_value in
    let told = sym c.four_fields.ensures ∙ c.in-Some.is in
    let alone = line-letters a.group.now.generators a.group.now.sites a.line.now fine told in
    let long = line_long a.group.now.generators a.group.now.sites a.line.now fine told in
    let room = line-room a.group.now.generators a.group.now.sites a.line.now fine told a.at (length a.list.now) c.requires.line_in_bounds in
    let taken = three_taken a.group.now.generators _ _ _ c.requires.used_bound in record {
      tables = c.requires.tables;
      modes_len = taken;
      word_value = (alone, long);
      numbers_room_in_bounds = room;
    }

pub returns : goal.returns
returns c =
    let a = c.args in
    let e =
    line_row_lem a.group.now.generators a.group.now.sites a.line.now c.requires.line_value (sym c.four_fields.ensures ∙ c.in-Some.is) c.requires.used_bound
    (to_z-of_z w32 c.mode_or_zero.result (record { sfits = c.mode_or_zero.type_inv }) ∙ c.mode_or_zero.ensures)
    (to_z-of_z w32 c.mode_or_zero-2.result (record { sfits = c.mode_or_zero-2.type_inv }) ∙ c.mode_or_zero-2.ensures)
    (to_z-of_z w32 c.mode_or_zero-3.result (record { sfits = c.mode_or_zero-3.type_inv }) ∙ c.mode_or_zero-3.ensures)
    (generators_held a.group.now)
    in record {
      place = c.word_row.ensures.place ∙ ap (λ (t : List ℕ). a.at + length t) e;
      list = c.word_row.ensures.list ∙ ap (λ (t : List ℕ). put a.at t a.list.now) e;
    }
