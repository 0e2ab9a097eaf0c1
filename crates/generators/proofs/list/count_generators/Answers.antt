use mathlib.Core.Path.{refl, sym, ap, ◌∙◌}
use native.Mathlib.Omega.{arith}
use lib.ListN.{length}
use Rattle.generators.proofs.Written.{ends-short, ends_next, perms-next, scan_ends, scan_counts, ends-none, perms-none}
use Rattle.generators.proofs.list.count_generators.Goals as goal

pub loop-at-init : goal.loop-at-init
loop-at-init c = (omega arith, omega arith, refl, omega arith)

pub offset_bounds-list-at : goal.offset_bounds-list-at
offset_bounds-list-at c = omega arith

pub bounds-list-at : goal.bounds-list-at
bounds-list-at c = omega arith

pub overflow_sub-rest : goal.overflow_sub-rest
overflow_sub-rest c = omega arith

pub overflow_sub-rest-in-loop-at : goal.overflow_sub-rest-in-loop-at
overflow_sub-rest-in-loop-at c = omega arith

pub returns-then-rest-n : goal.returns-then-rest-n
returns-then-rest-n c =
    let a = c.args in
    let l = c.loop-at in
    sym (scan_ends a.list.now (l.invariant.2 ∙ ends-short a.list.now l.at c.loop-at-test.true c.if-rest-n.true))

pub overflow_add-at : goal.overflow_add-at
overflow_add-at c = omega arith

pub overflow_add-at-in-loop-at : goal.overflow_add-at-in-loop-at
overflow_add-at-in-loop-at c = omega arith

pub overflow_add-count : goal.overflow_add-count
overflow_add-count c = omega arith

pub loop-at-smaller : goal.loop-at-smaller
loop-at-smaller c = omega arith

pub loop-at-preserved : goal.loop-at-preserved
loop-at-preserved c =
    let a = c.args in
    let l = c.loop-at in
    let more = c.loop-at-test.true in (
      omega arith,
      omega arith,
      l.invariant.2 ∙ ends_next a.list.now l.at more c.if-rest-n.false,
      omega (arith, l.invariant.3, ap length (perms-next a.list.now l.at more)),
    )

pub returns : goal.returns
returns c =
    let a = c.args in
    let l = c.loop-at in
    let over = c.loop-at-test.false in
    sym
    (scan_counts a.list.now l.count (l.invariant.2 ∙ ends-none a.list.now l.at over)
    (omega (arith, l.invariant.3, ap length (perms-none a.list.now l.at over))))
