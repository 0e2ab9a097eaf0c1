-- `scan::period_of` meets its contract, by cases.
use borrow.Author.Tests.{lt-ltb, le-ltb}
use native.Mathlib.Omega.{arith}
use Rattle.cyclic.proofs.scan.period_of.Goals as goal

pub returns-then-s-m : goal.returns-then-s-m
returns-then-s-m c = simp (lt-ltb _ _ c.if-s-m.true)

pub returns-then-s : goal.returns-then-s
returns-then-s c = simp (le-ltb _ _ c.if-s-m.false) (omega arith)

pub returns-else-s : goal.returns-else-s
returns-else-s c = simp (le-ltb _ _ c.if-s-m.false) (omega arith)
