use mathlib.Core.Path.{sym, ◌∙◌}
use native.Mathlib.Omega.{arith}
use borrow.Author.Tests.{not-true, not-false}
use Rattle.generators.proofs.Rows.{rests-all, rests-none, rests-other, rests-next}
use Rattle.generators.proofs.tables.rests_clear.Goals as goal

pub loop-g-init : goal.loop-g-init
loop-g-init c = let a = c.args in (omega arith, rests-all a.group.now.generators a.group.now.sites a.group.now.targets.now)

pub overflow_mul-start : goal.overflow_mul-start
overflow_mul-start c = omega arith

pub overflow_add-start : goal.overflow_add-start
overflow_add-start c = omega arith

pub overflow_mul-end : goal.overflow_mul-end
overflow_mul-end c = omega arith

pub overflow_add-end : goal.overflow_add-end
overflow_add-end c = omega arith

pub offset_bounds-targets-start : goal.offset_bounds-targets-start
offset_bounds-targets-start c = omega arith

pub slice_bounds-all_zero-count : goal.slice_bounds-all_zero-count
slice_bounds-all_zero-count c = omega arith

pub slice_bounds-all_zero-start : goal.slice_bounds-all_zero-start
slice_bounds-all_zero-start c = omega arith

pub slice_bounds-all_zero-end : goal.slice_bounds-all_zero-end
slice_bounds-all_zero-end c = omega arith

pub returns-then-not-all_zero : goal.returns-then-not-all_zero
returns-then-not-all_zero c =
    let a = c.args in
    sym
    (c.loop-g.invariant.1
    ∙ rests-other a.group.now.generators a.group.now.sites a.group.now.targets.now c.loop-g.g c.loop-g-test.true
    (sym c.all_zero.ensures ∙ not-true c.all_zero.result c.if-not-all_zero.true-raw))

pub loop-g-preserved : goal.loop-g-preserved
loop-g-preserved c =
    let a = c.args in (
      omega arith,
      c.loop-g.invariant.1
          ∙ rests-next a.group.now.generators a.group.now.sites a.group.now.targets.now c.loop-g.g c.loop-g-test.true
          (sym c.all_zero.ensures ∙ not-false c.all_zero.result c.if-not-all_zero.false-raw),
    )

pub returns : goal.returns
returns c =
    let a = c.args in
    sym (c.loop-g.invariant.1 ∙ rests-none a.group.now.generators a.group.now.sites a.group.now.targets.now c.loop-g.g c.loop-g-test.false)
