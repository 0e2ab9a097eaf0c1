-- `settle::is_known` meets its contract, by cases.
use borrow.Author.Tests.{eq-eqb, ne_eqb}
use Rattle.grid.proofs.settle.is_known.Goals as goal

pub returns-then-k-lead : goal.returns-then-k-lead
returns-then-k-lead c = rw (eq-eqb _ _ c.if-k-lead.true)

pub returns : goal.returns
returns c = rw (ne_eqb _ _ c.if-k-lead.false) (rw c.add-index.ensures at c.holds.ensures)
