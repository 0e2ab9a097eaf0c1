use mathlib.Core.Bool.{false≢true}
use borrow.Author.Count.{below_more}
use native.Mathlib.Nat.{not-suc-le-zero}
use mathlib.Core.Logic.{inl, inr}
use native.Mathlib.Omega.{arith}
use Rattle.split.proofs.divide.leaves_others.Goals as goal
use Rattle.split.proofs.divide.leaves_others.Goals.{else-owners-q-via-then-owners-q+else-targets-g, else-owners-q-via-else-owners-q}

pub loop-q-init : goal.loop-q-init
loop-q-init c = (omega arith, λ r h. absurd (not-suc-le-zero h))

pub offset_bounds-owners-q : goal.offset_bounds-owners-q
offset_bounds-owners-q c = omega arith

pub bounds-owners-q : goal.bounds-owners-q
bounds-owners-q c = omega arith

pub overflow_add-label : goal.overflow_add-label
overflow_add-label c = omega arith

pub overflow_mul-g : goal.overflow_mul-g
overflow_mul-g c = omega arith

pub overflow_add-g : goal.overflow_add-g
overflow_add-g c = omega arith

pub offset_bounds-targets-g : goal.offset_bounds-targets-g
offset_bounds-targets-g c = omega arith

pub bounds-targets-g : goal.bounds-targets-g
bounds-targets-g c = omega arith

pub returns-then-targets-g : goal.returns-then-targets-g
returns-then-targets-g c = λ e. absurd (false≢true e)

pub loop-q-preserved : goal.loop-q-preserved
loop-q-preserved c = (omega arith, below_more _ _ c.loop-q.invariant.1 (elim c.else-owners-q.branch [ else-owners-q-via-then-owners-q+else-targets-g w ↦ inr w.if-targets-g.false | else-owners-q-via-else-owners-q w ↦ inl (omega (arith, w.if-owners-q.false)) ]))

pub returns : goal.returns
returns c = λ e q h. c.loop-q.invariant.1 q (omega arith)
