use native.Mathlib.Omega.{arith}
use Rattle.parted.proofs.divided.has_two.Goals as goal

pub loop-g-init : goal.loop-g-init
loop-g-init c = omega arith

pub offset_bounds-labels-g : goal.offset_bounds-labels-g
offset_bounds-labels-g c = omega arith

pub bounds-labels-g : goal.bounds-labels-g
bounds-labels-g c = omega arith

pub bounds-labels-0 : goal.bounds-labels-0
bounds-labels-0 c = omega arith

pub returns-then-labels-g : goal.returns-then-labels-g
returns-then-labels-g c = omega arith

pub loop-g-preserved : goal.loop-g-preserved
loop-g-preserved c = omega arith

pub returns : goal.returns
returns c = omega arith
