-- `numbers::forward_by` meets its contract: the inverse of the one candidate that is left, or the least inverse of those that lead.
use Rattle.grid.proofs.Leads.{alone-forward, staged_leads}
use mathlib.Core.Path.{sym, ◌∙◌}
use Rattle.ways.proofs.numbers.forward_by.Goals as goal

pub returns-in-Alone : goal.returns-in-Alone
returns-in-Alone c w e t s =
    let told = rw c.in-Alone.is at s in
    c.invert.ensures ∙ sym (alone-forward c.requires.tables.valid w e told.0 _ told.1)

pub returns : goal.returns
returns c w e t s = c.forward_of.ensures w e (staged_leads c.args.stage t s)
