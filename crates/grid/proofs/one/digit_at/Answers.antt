-- `one::digit_at` meets its contract.
use Rattle.grid.proofs.one.digit_at.Goals as goal

pub returns-then-g-eq0 : goal.returns-then-g-eq0
returns-then-g-eq0 c = c.requires.1 c.if-g-eq0.true
