use Prim.Native.Nat.{ℕ, ◌+◌, ◌-◌, ◌<◌}
use mathlib.Core.Path.{◌≡◌, ap, ◌∙◌}
use mathlib.Core.List.{List}
use native.Mathlib.Omega.{arith}
use lib.ListN.{length, take, drop}
use Rattle.pauli_word.proofs.Words.{rest_part}
use Rattle.action.specs.Permutation.{Generator}
use Rattle.elements.specs.HeldGroup.{generators_held}
use Rattle.text.specs.Text.{line_end, before}
use Rattle.sheet_rows.proofs.Widths.{line_row_short}
use Rattle.sheet_text.proofs.Bodies.{line_long, Filling, filling_start, filling-length, filling-ends, filling-fine, filling-next, filling-end}
use Rattle.sheet_text.proofs.body.fill_rows.Goals as goal

pub loop-at-init : goal.loop-at-init
loop-at-init c =
    let a = c.args in
    filling_start a.group.now.generators a.group.now.sites (generators_held a.group.now) a.text.now a.list.now a.start c.requires.text_value c.requires.text_len_bound.1

pub slice_bounds-find-count : goal.slice_bounds-find-count
slice_bounds-find-count c = omega arith

pub slice_bounds-find-start : goal.slice_bounds-find-start
slice_bounds-find-start c = omega arith

pub slice_bounds-find-end : goal.slice_bounds-find-end
slice_bounds-find-end c = omega arith

pub overflow_add-end : goal.overflow_add-end
overflow_add-end c =
    let a = c.args in
    let l = c.loop-at in
    let found = c.find.ensures ∙ ap (λ (t : List ℕ). length (before line_end t)) (rest_part l.at a.text.now) in
    let ends = filling-ends l.invariant c.find.result found c.loop-at-test.true in
    omega (arith, ends, c.requires.text_len_bound.0)

pub slice_bounds-write_row-count : goal.slice_bounds-write_row-count
slice_bounds-write_row-count c = omega arith

pub slice_bounds-write_row-start : goal.slice_bounds-write_row-start
slice_bounds-write_row-start c = omega arith

pub slice_bounds-write_row-end : goal.slice_bounds-write_row-end
slice_bounds-write_row-end c =
    let a = c.args in
    let l = c.loop-at in
    let found = c.find.ensures ∙ ap (λ (t : List ℕ). length (before line_end t)) (rest_part l.at a.text.now) in
    let ends = filling-ends l.invariant c.find.result found c.loop-at-test.true in
    omega (arith, ends)

pub write_row-place-requires : goal.write_row-place-requires
write_row-place-requires c =
    let a = c.args in
    let l = c.loop-at in
    let found = c.find.ensures ∙ ap (λ (t : List ℕ). length (before line_end t)) (rest_part l.at a.text.now) in
    let ends = filling-ends l.invariant c.find.result found c.loop-at-test.true in
    let r = c.find.result in record {
      tables = c.requires.tables;
      used_bound = c.requires.used_bound;
      line_value = filling-fine l.invariant r found c.loop-at-test.true;
      line_in_bounds = omega (arith, ends, l.invariant.room, filling-length l.invariant, line_long a.text.now l.at r ends);
    }

pub overflow_add-at : goal.overflow_add-at
overflow_add-at c =
    let a = c.args in
    let l = c.loop-at in
    let found = c.find.ensures ∙ ap (λ (t : List ℕ). length (before line_end t)) (rest_part l.at a.text.now) in
    let ends = filling-ends l.invariant c.find.result found c.loop-at-test.true in
    omega (arith, ends, c.requires.text_len_bound.0)

pub loop-at-smaller : goal.loop-at-smaller
loop-at-smaller c =
    let a = c.args in
    let l = c.loop-at in
    let found = c.find.ensures ∙ ap (λ (t : List ℕ). length (before line_end t)) (rest_part l.at a.text.now) in
    let ends = filling-ends l.invariant c.find.result found c.loop-at-test.true in
    omega (arith, ends)

pub loop-at-preserved : goal.loop-at-preserved
loop-at-preserved c =
    let a = c.args in
    let l = c.loop-at in
    let found = c.find.ensures ∙ ap (λ (t : List ℕ). length (before line_end t)) (rest_part l.at a.text.now) in
    let r = c.find.result in
    let t = c.requires.tables in
    let taken = c.loop-at-test.true in
    let fine = filling-fine l.invariant r found taken in
    let short = line_row_short t.valid t.small t.sites a.group.now.generators (take (l.at + r - l.at) (drop l.at a.text.now)) fine in
    filling-next l.invariant r found taken short c.write_row-place.ensures.place c.write_row-place.ensures.list

pub returns : goal.returns
returns c =
    let it = filling-end c.loop-at.invariant c.loop-at-test.false in record {
      place = it.0;
      list = it.1.0;
      room = it.1.1;
    }
