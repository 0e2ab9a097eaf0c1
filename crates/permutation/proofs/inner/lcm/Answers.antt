-- `inner::lcm` meets its contract: the divisor is the gcd of a positive number, and the result is at most the product.
use Prim.Native.Nat.{ℕ, ◌/◌, ◌*◌}
use mathlib.Core.Path.{◌≡◌, ap, ◌∙◌}
use native.Mathlib.Omega.{arith}
use Rattle.action.specs.Arithmetic.{gcd, lcm}
use Rattle.permutation.proofs.Divisors.{gcd_comm, gcd-positive, lcm_small}
use Rattle.permutation.proofs.inner.lcm.Goals as goal
use Rattle.permutation.proofs.inner.lcm.Lts as lts
use Rattle.permutation.proofs.inner.lcm.Tie as tie
use Rattle.permutation.proofs.inner.lcm.Reads as reads

abbrev ctx-After-gcd : Type 0
ctx-After-gcd = lts.After-gcd tie.the-claims reads.Pre reads.Post

-- the divisor is the gcd, of the numbers in either order
divisor : (c : ctx-After-gcd) → let a = c.args in c.gcd.result ≡ gcd a.a a.b
divisor c = let a = c.args in c.gcd.ensures ∙ gcd_comm a.b a.a

pub nonzero_div-result : goal.nonzero_div-result
nonzero_div-result c = let a = c.args in omega (arith, divisor c, gcd-positive a.a a.b c.requires.0)

pub overflow_mul-result : goal.overflow_mul-result
overflow_mul-result c =
    let a = c.args in
    let p = c.requires in
    omega (arith, ap (λ (g : ℕ). a.a / g * a.b) (divisor c), lcm_small a.a a.b p.1 p.3)

pub returns : goal.returns
unfolding lcm
returns c = let a = c.args in ap (λ (g : ℕ). a.a / g * a.b) (divisor c)
