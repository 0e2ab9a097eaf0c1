-- `exchange::row_of` meets its contract: the part that is copied is the row (`part-row`).
use mathlib.Core.Path.{◌∙◌}
use Rattle.row_lists.proofs.Rows.{part-row}
use Rattle.row_lists.proofs.exchange.row_of.Goals as goal

pub returns : goal.returns
returns c =
    let a = c.args in
    c.copy.ensures ∙ part-row a.words.now a.row
