use mathlib.Core.Path.{sym, ap, ◌∙◌}
use native.Mathlib.Omega.{arith}
use native.Mathlib.Nat.{mod-lt}
use Rattle.action.specs.Arithmetic.{gcd}
use Rattle.permutation.proofs.Divisors.{gcd_step, gcd_end}
use Rattle.permutation.proofs.inner.gcd.Goals as goal

pub nonzero_rem-r : goal.nonzero_rem-r
nonzero_rem-r c = omega arith

pub loop-y-smaller : goal.loop-y-smaller
loop-y-smaller c = mod-lt c.loop-y.x (omega arith)

pub loop-y-preserved : goal.loop-y-preserved
loop-y-preserved c = let l = c.loop-y in l.invariant ∙ gcd_step l.x l.y

pub returns : goal.returns
returns c =
    let l = c.loop-y in
    sym (l.invariant ∙ ap (gcd l.x) c.loop-y-test.false ∙ gcd_end l.x)
