use native.Mathlib.Omega.{arith}
use Rattle.split.proofs.divide.meet.Goals as goal

pub loop-q-init : goal.loop-q-init
loop-q-init c = omega arith

pub overflow_mul-g : goal.overflow_mul-g
overflow_mul-g c = omega arith

pub overflow_add-g : goal.overflow_add-g
overflow_add-g c = omega arith

pub offset_bounds-targets-g : goal.offset_bounds-targets-g
offset_bounds-targets-g c = omega arith

pub bounds-targets-g : goal.bounds-targets-g
bounds-targets-g c = omega arith

pub overflow_mul-h : goal.overflow_mul-h
overflow_mul-h c = omega arith

pub overflow_add-h : goal.overflow_add-h
overflow_add-h c = omega arith

pub offset_bounds-targets-h : goal.offset_bounds-targets-h
offset_bounds-targets-h c = omega arith

pub bounds-targets-h : goal.bounds-targets-h
bounds-targets-h c = omega arith

pub returns-then-targets-h : goal.returns-then-targets-h
returns-then-targets-h c = omega arith

pub loop-q-preserved : goal.loop-q-preserved
loop-q-preserved c = omega arith

pub returns : goal.returns
returns c = omega arith
