-- `grid::axes::is_axis` meets its contract: the identity is an axis of one place, and any other rotation is one where its blocks are a round.
use borrow.Author.Tests.{eqb-true}
use native.Mathlib.Omega.{arith}
use Rattle.grid.proofs.Grids.{axis_one, axis_round}
use Rattle.grid.proofs.axes.is_axis.Goals as goal

pub returns-then-stride-eq0 : goal.returns-then-stride-eq0
returns-then-stride-eq0 c t = axis_one c.args.place (omega arith) (omega arith) (eqb-true _ _ t)

pub returns-else-stride-eq0 : goal.returns-else-stride-eq0
returns-else-stride-eq0 c t = absurd (c.if-stride-eq0.false (eqb-true _ _ t))

pub returns-then-stride-place : goal.returns-then-stride-place
returns-then-stride-place c t = axis_round (omega arith) (omega arith) (omega arith) (eqb-true _ _ t)

pub returns-else-stride-place : goal.returns-else-stride-place
returns-else-stride-place c t = absurd (c.if-stride-place.false (eqb-true _ _ t))
