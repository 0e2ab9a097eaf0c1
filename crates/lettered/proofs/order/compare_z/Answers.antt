use Prim.Native.Nat.{◌/◌}
use mathlib.Core.Path.{refl, sym, ◌∙◌}
use native.Mathlib.Omega.{arith}
use Rattle.lettered.proofs.Comparing.{site-less, site-greater, site-same, sites-end}
use Rattle.lettered.proofs.order.compare_z.Goals as goal

pub loop-q-init : goal.loop-q-init
loop-q-init c = (omega arith, refl)

pub bounds-a-q : goal.bounds-a-q
bounds-a-q c = omega arith

pub bounds-b-q : goal.bounds-b-q
bounds-b-q c = omega arith

pub returns-then-x-y : goal.returns-then-x-y
returns-then-x-y c =
    let a = c.args in
    let l = c.loop-q in
    sym (l.invariant.1 ∙ site-less (λ w. w / 2) a.a.now a.b.now l.q (omega arith) (omega arith) c.if-x-y.true)

pub returns-then-y-x : goal.returns-then-y-x
returns-then-y-x c =
    let a = c.args in
    let l = c.loop-q in
    sym (l.invariant.1 ∙ site-greater (λ w. w / 2) a.a.now a.b.now l.q (omega arith) (omega arith) c.if-y-x.true)

pub loop-q-preserved : goal.loop-q-preserved
loop-q-preserved c =
    let a = c.args in
    let l = c.loop-q in
    (omega arith, l.invariant.1 ∙ site-same (λ w. w / 2) a.a.now a.b.now l.q (omega arith) (omega arith) c.if-x-y.false c.if-y-x.false)

pub returns : goal.returns
returns c =
    let a = c.args in
    let l = c.loop-q in
    sym (l.invariant.1 ∙ sites-end (λ w. w / 2) a.a.now a.b.now l.q c.loop-q-test.false)
