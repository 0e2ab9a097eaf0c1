use mathlib.Core.Path.{refl, sym, ◌∙◌}
use native.Mathlib.Omega.{arith}
use Rattle.pauli_word.proofs.WordOrder.{digit-less, digit-greater, digit-same, digits_end}
use Rattle.pauli_word.proofs.plane.compare_byte.Goals as goal

pub loop-k-init : goal.loop-k-init
loop-k-init c = (omega arith, refl)

pub returns-then-a-b : goal.returns-then-a-b
returns-then-a-b c = let l = c.loop-k in sym (l.invariant.1 ∙ digit-less l._k l.a l.b c.loop-k-test.true c.if-a-b.true)

pub returns-then-b-a : goal.returns-then-b-a
returns-then-b-a c = let l = c.loop-k in sym (l.invariant.1 ∙ digit-greater l._k l.a l.b c.loop-k-test.true c.if-b-a.true)

pub loop-k-preserved : goal.loop-k-preserved
loop-k-preserved c = let l = c.loop-k in (omega arith, l.invariant.1 ∙ digit-same l._k l.a l.b c.loop-k-test.true c.if-a-b.false c.if-b-a.false)

pub returns : goal.returns
returns c = let l = c.loop-k in sym (l.invariant.1 ∙ digits_end l._k l.a l.b c.loop-k-test.false)
