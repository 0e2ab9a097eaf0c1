-- `word::told` meets its contract, by whether the size is 0.
use borrow.Author.Tests.{eq-eqb, ne_eqb}
use Rattle.sector_rows.proofs.word.told.Goals as goal

pub returns-then-size-eq0 : goal.returns-then-size-eq0
returns-then-size-eq0 c = rw (eq-eqb c.args.size 0 c.if-size-eq0.true)

pub returns-else-size-eq0 : goal.returns-else-size-eq0
returns-else-size-eq0 c = rw (ne_eqb c.args.size 0 c.if-size-eq0.false)
