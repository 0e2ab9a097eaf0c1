-- `scan::round` meets its contract: one subtraction brings a place back.
use mathlib.Core.Path.{sym}
use native.Mathlib.Nat.{mod-eq_of_lt}
use Rattle.cyclic.proofs.Symbols.{once_round}
use Rattle.cyclic.proofs.scan.round.Goals as goal

pub returns-then-p-m : goal.returns-then-p-m
returns-then-p-m c = sym (mod-eq_of_lt c.if-p-m.true)

pub returns-else-p-m : goal.returns-else-p-m
returns-else-p-m c = once_round c.args.p c.args.m c.if-p-m.false c.requires
