-- `one::next_digit` meets its contract.
use native.Mathlib.Omega.{arith}
use Rattle.grid.proofs.OneWord.{count-rolls, count-stays}
use Rattle.grid.proofs.one.next_digit.Goals as goal

pub returns-then-low-o : goal.returns-then-low-o
returns-then-low-o c = let a = c.args in record {
  small = omega arith;
  next = λ h some digit. count-rolls a.low a.o h some digit c.if-low-o.true;
}

pub returns-else-low-o : goal.returns-else-low-o
returns-else-low-o c = let a = c.args in record {
  small = omega arith;
  next = λ h some digit. count-stays a.low a.o h some digit c.if-low-o.false;
}
