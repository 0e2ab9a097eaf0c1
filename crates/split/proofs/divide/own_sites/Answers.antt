use mathlib.Core.Path.{ap, ◌∙◌}
use lib.ListN.{length}
use native.Mathlib.Omega.{arith}
use Rattle.split.proofs.divide.own_sites.Goals as goal
use Rattle.split.proofs.divide.own_sites.Goals.{then-label-lt-MAX_GENERATORS, else-label-lt-MAX_GENERATORS}

pub loop-g-init : goal.loop-g-init
loop-g-init c = omega arith

pub offset_bounds-labels-g : goal.offset_bounds-labels-g
offset_bounds-labels-g c = omega arith

pub bounds-labels-g : goal.bounds-labels-g
bounds-labels-g c = omega arith

pub overflow_cast-label : goal.overflow_cast-label
overflow_cast-label c = omega (arith, c.shared_slice_known-in-loop-g-1.given c.loop-g.g)

pub own-requires : goal.own-requires
own-requires c = omega arith

pub loop-g-preserved : goal.loop-g-preserved
loop-g-preserved c = (omega arith, elim c.if-label-lt-MAX_GENERATORS.branch [ then-label-lt-MAX_GENERATORS w ↦ ap length w.owners-is ∙ w.own.auto.owners ∙ c.loop-g.invariant.1 | else-label-lt-MAX_GENERATORS w ↦ ap length w.owners-is ∙ c.loop-g.invariant.1 ])

pub returns : goal.returns
returns c = omega arith
