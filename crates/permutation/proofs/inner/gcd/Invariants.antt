-- `inner::gcd` meets its contract. The loop's invariant: a and b have the same greatest common divisor as x and y.
use mathlib.Core.Path.{◌≡◌}
use Rattle.action.specs.Arithmetic.{gcd}
use Rattle.permutation.proofs.inner.gcd.Given as goal

abbrev pub invariant-loop-y : goal.invariant-loop-y
invariant-loop-y l = gcd l.a l.b ≡ gcd l.x l.y

abbrev pub decreases-loop-y : goal.decreases-loop-y
decreases-loop-y l = l.y
