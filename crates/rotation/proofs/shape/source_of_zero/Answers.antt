use native.Mathlib.Omega.{arith}
use Rattle.rotation.proofs.shape.source_of_zero.Goals as goal

pub loop-q-init : goal.loop-q-init
loop-q-init c = omega arith

pub offset_bounds-perm-q : goal.offset_bounds-perm-q
offset_bounds-perm-q c = omega arith

pub bounds-perm-q : goal.bounds-perm-q
bounds-perm-q c = omega arith

pub returns-then-perm-q-eq0 : goal.returns-then-perm-q-eq0
returns-then-perm-q-eq0 c = omega arith

pub loop-q-preserved : goal.loop-q-preserved
loop-q-preserved c = omega arith

pub returns : goal.returns
returns c = omega arith
