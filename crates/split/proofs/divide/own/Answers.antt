use mathlib.Core.Path.{ap, ◌∙◌}
use lib.ListN.{length-set, length}
use native.Mathlib.Omega.{arith}
use Rattle.split.proofs.divide.own.Goals as goal
use Rattle.split.proofs.divide.own.Goals.{then-targets-g, else-targets-g}

pub loop-q-init : goal.loop-q-init
loop-q-init c = omega arith

pub overflow_mul-g : goal.overflow_mul-g
overflow_mul-g c = omega arith

pub overflow_add-g : goal.overflow_add-g
overflow_add-g c = omega arith

pub offset_bounds-targets-g : goal.offset_bounds-targets-g
offset_bounds-targets-g c = omega arith

pub bounds-targets-g : goal.bounds-targets-g
bounds-targets-g c = omega arith

pub overflow_add-owners : goal.overflow_add-owners
overflow_add-owners c = omega arith

pub offset_bounds-owners-q : goal.offset_bounds-owners-q
offset_bounds-owners-q c = omega arith

pub bounds-owners-q : goal.bounds-owners-q
bounds-owners-q c = omega arith

pub loop-q-preserved : goal.loop-q-preserved
loop-q-preserved c = (omega arith, elim c.if-targets-g.branch [ then-targets-g w ↦ ap length w.owners-is ∙ simp length-set c.loop-q.invariant.1 | else-targets-g w ↦ ap length w.owners-is ∙ c.loop-q.invariant.1 ])

pub returns : goal.returns
returns c = omega arith
