use mathlib.Core.Path.{refl, sym, ap, ◌∙◌}
use mathlib.Core.Bool.{not}
use native.Mathlib.Omega.{arith}
use borrow.Author.Tests.{not-true, not-false}
use Rattle.permutation.specs.Generators.{perm_check, row_at}
use Rattle.permutation.proofs.Faults.{unbroken}
use Rattle.generators.proofs.Rows.{row_check, perms-none, perms-broken, perms-next}
use Rattle.generators.proofs.tables.perms_fine.Goals as goal

pub loop-g-init : goal.loop-g-init
loop-g-init c = (omega arith, refl)

pub overflow_mul-start : goal.overflow_mul-start
overflow_mul-start c = omega arith

pub overflow_add-end : goal.overflow_add-end
overflow_add-end c = omega arith

pub offset_bounds-targets-start : goal.offset_bounds-targets-start
offset_bounds-targets-start c = omega arith

pub slice_bounds-permutes-count : goal.slice_bounds-permutes-count
slice_bounds-permutes-count c = omega arith

pub slice_bounds-permutes-start : goal.slice_bounds-permutes-start
slice_bounds-permutes-start c = omega arith

pub slice_bounds-permutes-end : goal.slice_bounds-permutes-end
slice_bounds-permutes-end c = omega arith

pub permutes-requires : goal.permutes-requires
permutes-requires c = c.requires.2

pub returns-then-not-permutes : goal.returns-then-not-permutes
returns-then-not-permutes c =
    let check = perm_check c.args.group.now.sites c.loop-g.g (row_at c.args.group.now.sites c.args.group.now.targets.now c.loop-g.g) in
    let fault = not-false check.broken (sym
    (c.permutes.ensures c.loop-g.g ∙ sym (ap unbroken (row_check c.args.group.now.sites c.args.group.now.targets.now c.loop-g.g (omega arith))))
    ∙ not-true c.permutes.result c.if-not-permutes.true-raw) in
    sym
    (ap unbroken
    (c.loop-g.invariant.1
    ∙ perms-broken c.args.group.now.generators c.args.group.now.sites c.args.group.now.targets.now c.loop-g.g c.loop-g-test.true fault)
    ∙ ap not fault)

pub loop-g-preserved : goal.loop-g-preserved
loop-g-preserved c =
    let check = perm_check c.args.group.now.sites c.loop-g.g (row_at c.args.group.now.sites c.args.group.now.targets.now c.loop-g.g) in
    let fine = not-true check.broken (sym
    (c.permutes.ensures c.loop-g.g ∙ sym (ap unbroken (row_check c.args.group.now.sites c.args.group.now.targets.now c.loop-g.g (omega arith))))
    ∙ not-false c.permutes.result c.if-not-permutes.false-raw) in
    let more = c.loop-g-test.true in
    (omega arith, c.loop-g.invariant.1 ∙ perms-next c.args.group.now.generators c.args.group.now.sites c.args.group.now.targets.now c.loop-g.g more fine)

pub returns : goal.returns
returns c =
    sym (ap unbroken (c.loop-g.invariant.1 ∙ perms-none c.args.group.now.generators c.args.group.now.sites c.args.group.now.targets.now c.loop-g.g c.loop-g-test.false))
