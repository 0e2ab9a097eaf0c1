use native.Mathlib.Omega.{arith}
use Rattle.split.proofs.divide.label.Goals as goal

pub loop-g-init : goal.loop-g-init
loop-g-init c = omega arith

pub label_one-requires : goal.label_one-requires
label_one-requires c = omega arith

pub loop-g-preserved : goal.loop-g-preserved
loop-g-preserved c = omega arith

pub returns : goal.returns
returns c = omega arith
