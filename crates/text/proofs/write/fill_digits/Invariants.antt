-- `write::fill_digits` meets its contract. The loop's invariant: the digits from place i on are the last ones of the number (`Filled`).
use mathlib.Core.Path.{sym, ◌∙◌}
use native.Mathlib.Omega.{arith}
use Rattle.text.specs.Text.{max_digits}
use Rattle.text.proofs.Decimals.{Filled, filled-start, filled-place, filled_next, filled-end}
use Rattle.text.proofs.write.fill_digits.Given as goal

abbrev pub invariant-loop-rest : goal.invariant-loop-rest
invariant-loop-rest l = Filled max_digits l.number l.digits l.rest l.i

abbrev pub decreases-loop-rest : goal.decreases-loop-rest
decreases-loop-rest l = l.rest
