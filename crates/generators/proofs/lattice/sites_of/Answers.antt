-- `lattice::sites_of` meets its contract: a quotient of the most sites tells whether a product exceeds it.
use mathlib.Core.Path.{sym}
use native.Mathlib.Nat.{zero-mul, mul-zero}
use native.Mathlib.Omega.{arith}
use Rattle.generators.proofs.Shifts.{sides-zero, two-large, two-fit, two-positive, three-large, three-fit, sides-fit}
use Rattle.generators.proofs.lattice.sites_of.Goals as goal

pub returns-then-a-eq0 : goal.returns-then-a-eq0
returns-then-a-eq0 c = let a = c.args in sym (sides-zero a.a a.b a.c (rw (c.if-a-eq0.true, zero-mul, zero-mul)))

pub returns-then-b-eq0 : goal.returns-then-b-eq0
returns-then-b-eq0 c = let a = c.args in sym (sides-zero a.a a.b a.c (rw (c.if-b-eq0.true, mul-zero, zero-mul)))

pub returns-then-c-eq0 : goal.returns-then-c-eq0
returns-then-c-eq0 c = let a = c.args in sym (sides-zero a.a a.b a.c (rw (c.if-c-eq0.true, mul-zero)))

pub returns-then-a-b : goal.returns-then-a-b
returns-then-a-b c = let a = c.args in sym (two-large a.a a.b a.c (omega arith) (omega arith) (omega arith) c.if-a-b.true)

pub overflow_mul-a : goal.overflow_mul-a
overflow_mul-a c = let a = c.args in omega (arith, two-fit a.a a.b a.c (omega arith) (omega arith) (omega arith) c.if-a-b.false)

pub nonzero_div-a-2 : goal.nonzero_div-a-2
nonzero_div-a-2 c = let a = c.args in two-positive a.a a.b a.c (omega arith) (omega arith) (omega arith)

pub returns-then-a-b-2 : goal.returns-then-a-b-2
returns-then-a-b-2 c = let a = c.args in sym (three-large a.a a.b a.c (omega arith) (omega arith) (omega arith) c.if-a-b-2.true)

pub overflow_mul-result : goal.overflow_mul-result
overflow_mul-result c = let a = c.args in omega (arith, two-fit a.a a.b a.c (omega arith) (omega arith) (omega arith) c.if-a-b.false)

pub overflow_mul-result-2 : goal.overflow_mul-result-2
overflow_mul-result-2 c = let a = c.args in omega (arith, three-fit a.a a.b a.c (omega arith) (omega arith) (omega arith) c.if-a-b-2.false)

pub returns : goal.returns
returns c = let a = c.args in sym (sides-fit a.a a.b a.c (omega arith) (omega arith) (omega arith) c.if-a-b-2.false)
