-- `read::mode_in` meets its contract: its two tests are those of the range of modes.
use borrow.Author.Rules.{rules}
use Rattle.text.proofs.Numbers.{mode-low, mode-high, mode-narrow, mode-value}
use Rattle.text.proofs.read.mode_in.Goals as goal

pub returns-then-number : goal.returns-then-number
returns-then-number c = mode-low c.args.number c.ranges.number c.if-number.true

pub overflow_cast-result : goal.overflow_cast-result
overflow_cast-result c = mode-narrow c.args.number c.ranges.number c.if-number.false c.if-number-lt-MODE_BOUND.true

pub returns-then-number-lt-MODE_BOUND : goal.returns-then-number-lt-MODE_BOUND
returns-then-number-lt-MODE_BOUND c = mode-value c.args.number c.ranges.number c.if-number.false c.if-number-lt-MODE_BOUND.true

pub returns-else-number-lt-MODE_BOUND : goal.returns-else-number-lt-MODE_BOUND
returns-else-number-lt-MODE_BOUND c = mode-high c.args.number c.ranges.number c.if-number-lt-MODE_BOUND.false
