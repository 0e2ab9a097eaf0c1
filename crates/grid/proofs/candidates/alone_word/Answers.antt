-- `candidates::alone_word` meets its contract.
use Rattle.grid.proofs.Sets.{alone_here, alone-other}
use Rattle.grid.proofs.candidates.alone_word.Goals as goal

pub returns-then-i-k : goal.returns-then-i-k
returns-then-i-k c = let a = c.args in alone_here a.k a.i c.if-i-k.true

pub returns-else-i-k : goal.returns-else-i-k
returns-else-i-k c = let a = c.args in alone-other a.k a.i c.if-i-k.false
