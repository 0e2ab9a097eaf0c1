use mathlib.Core.Path.{refl, sym, ap, ◌∙◌}
use native.Mathlib.Omega.{arith}
use borrow.Author.Count.{below_more}
use Rattle.outcome.specs.Outcome.{outcome_of, alone}
use Rattle.permutation.proofs.Commuting.{pairs-none, pairs-open, pair-none, pair-apart, pair-next, SameAt, rows-commute, rows_apart}
use Rattle.permutation.proofs.inner.first_pair.Goals as goal

pub pairs-init : goal.pairs-init
pairs-init c = (refl, omega arith, refl)

pub loop-right-init : goal.loop-right-init
loop-right-init c =
    let a = c.args in
    let l = c.pairs in
    (l.invariant.0, omega arith, omega arith, pairs-open a.group.now.generators a.group.now.sites a.group.now.targets.now l.left c.pairs-test.true)

pub loop-q-init : goal.loop-q-init
loop-q-init c = (c.loop-right.invariant.0, omega arith, λ p h. absurd (omega arith))

pub overflow_mul-l : goal.overflow_mul-l
overflow_mul-l c = omega arith

pub overflow_add-l : goal.overflow_add-l
overflow_add-l c = omega arith

pub offset_bounds-targets-left : goal.offset_bounds-targets-left
offset_bounds-targets-left c = omega arith

pub bounds-targets-left : goal.bounds-targets-left
bounds-targets-left c = omega arith

pub overflow_mul-r : goal.overflow_mul-r
overflow_mul-r c = omega arith

pub overflow_add-r : goal.overflow_add-r
overflow_add-r c = omega arith

pub offset_bounds-targets-right : goal.offset_bounds-targets-right
offset_bounds-targets-right c = omega arith

pub bounds-targets-right : goal.bounds-targets-right
bounds-targets-right c = omega arith

pub overflow_mul-left : goal.overflow_mul-left
overflow_mul-left c = omega arith

pub overflow_add-left : goal.overflow_add-left
overflow_add-left c = omega (arith, c.requires.by_index c.loop-right.right c.loop-q.q c.loop-right-test.true c.loop-q-test.true)

pub offset_bounds-targets-left-in-loop-q : goal.offset_bounds-targets-left-in-loop-q
offset_bounds-targets-left-in-loop-q c = omega (arith, c.requires.by_index c.loop-right.right c.loop-q.q c.loop-right-test.true c.loop-q-test.true)

pub bounds-targets-left-in-loop-q : goal.bounds-targets-left-in-loop-q
bounds-targets-left-in-loop-q c = omega (arith, c.requires.by_index c.loop-right.right c.loop-q.q c.loop-right-test.true c.loop-q-test.true)

pub overflow_mul-right : goal.overflow_mul-right
overflow_mul-right c = omega arith

pub overflow_add-right : goal.overflow_add-right
overflow_add-right c = omega (arith, c.requires.by_index c.pairs.left c.loop-q.q c.pairs-test.true c.loop-q-test.true)

pub offset_bounds-targets-right-in-loop-q : goal.offset_bounds-targets-right-in-loop-q
offset_bounds-targets-right-in-loop-q c = omega (arith, c.requires.by_index c.pairs.left c.loop-q.q c.pairs-test.true c.loop-q-test.true)

pub bounds-targets-right-in-loop-q : goal.bounds-targets-right-in-loop-q
bounds-targets-right-in-loop-q c = omega (arith, c.requires.by_index c.pairs.left c.loop-q.q c.pairs-test.true c.loop-q-test.true)

pub loop-q-smaller : goal.loop-q-smaller
loop-q-smaller c = omega arith

pub loop-q-preserved : goal.loop-q-preserved
loop-q-preserved c =
    let l = c.loop-q in
    let left = c.pairs.left in
    let right = c.loop-right.right in
    (l.invariant.0, omega arith, below_more (SameAt c.args.group.now.targets.now left right) l.q l.invariant.2 c.if-targets-left.false)

pub loop-right-smaller : goal.loop-right-smaller
loop-right-smaller c = omega arith

pub loop-right-preserved : goal.loop-right-preserved
loop-right-preserved c =
    let a = c.args in
    let left = c.pairs.left in
    let l = c.loop-right in
    let same = c.loop-q in (
      same.invariant.0,
      omega arith,
      omega arith,
      l.invariant.3
          ∙ pair-next a.group.now.generators a.group.now.sites a.group.now.targets.now left l.right c.loop-right-test.true
          (rows-commute a.group.now.sites a.group.now.targets.now left l.right
          (λ q. c.requires.by_index left q (omega arith)) (λ q. c.requires.by_index l.right q (omega arith))
          (λ q h. same.invariant.2 q (omega arith))),
    )

pub pairs-smaller : goal.pairs-smaller
pairs-smaller c = omega arith

pub pairs-preserved : goal.pairs-preserved
pairs-preserved c =
    let a = c.args in
    let p = c.pairs in
    let l = c.loop-right in (
      l.invariant.0,
      omega arith,
      p.invariant.2 ∙ l.invariant.3 ∙ pair-none a.group.now.generators a.group.now.sites a.group.now.targets.now p.left l.right c.loop-right-test.false,
    )

pub returns-after-pairs : goal.returns-after-pairs
returns-after-pairs c =
    let a = c.args in
    let p = c.pairs in
    ap outcome_of p.invariant.0 ∙ sym (ap alone (p.invariant.2 ∙ pairs-none a.group.now.generators a.group.now.sites a.group.now.targets.now p.left c.pairs-test.false))

pub returns-then-targets-left : goal.returns-then-targets-left
returns-then-targets-left c =
    let a = c.args in
    let p = c.pairs in
    let l = c.loop-right in
    sym
    (ap alone
    (p.invariant.2
    ∙ l.invariant.3
    ∙ pair-apart a.group.now.generators a.group.now.sites a.group.now.targets.now p.left l.right c.loop-right-test.true
    (rows_apart a.group.now.sites a.group.now.targets.now p.left l.right
    (λ q. c.requires.by_index p.left q (omega arith)) (λ q. c.requires.by_index l.right q (omega arith))
    c.loop-q.q c.loop-q-test.true c.if-targets-left.true)))
