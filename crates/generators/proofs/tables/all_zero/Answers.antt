use mathlib.Core.Path.{refl, sym, ◌∙◌}
use native.Mathlib.Omega.{arith}
use Rattle.generators.proofs.Zeros.{zeros-none, zeros-more}
use Rattle.generators.proofs.tables.all_zero.Goals as goal

pub loop-i-init : goal.loop-i-init
loop-i-init c = (omega arith, refl)

pub offset_bounds-targets-i : goal.offset_bounds-targets-i
offset_bounds-targets-i c = omega arith

pub bounds-targets-i : goal.bounds-targets-i
bounds-targets-i c = omega arith

pub loop-i-preserved : goal.loop-i-preserved
loop-i-preserved c =
    let a = c.args in
    let l = c.loop-i in
    (omega arith, l.invariant.1 ∙ zeros-more a.targets.now l.i l.any c.loop-i-test.true)

pub returns : goal.returns
returns c =
    let a = c.args in
    let l = c.loop-i in
    sym (l.invariant.1 ∙ zeros-none a.targets.now l.i l.any c.loop-i-test.false)
