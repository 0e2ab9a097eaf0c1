-- `line::side_fits` meets its contract: the test where the text is used, else the comparison with 0 (`fits-used`, `fits-unused`).
use mathlib.Core.Path.{sym, ◌∙◌}
use Rattle.text.specs.Text.{is_number}
use Rattle.sheet_lines.proofs.Lines.{fits_used, fits_unused}
use borrow.Author.Rules.{rules}
use Rattle.sheet_lines.proofs.line.side_fits.Goals as goal

pub returns-then-used : goal.returns-then-used
returns-then-used c =
    let a = c.args in
    c.is_number.ensures ∙ sym (fits_used is_number a.used a.text.now c.if-used.true)

pub returns-else-used : goal.returns-else-used
returns-else-used c =
    let a = c.args in
    c.same.ensures ∙ sym (fits_unused is_number a.used a.text.now c.if-used.false)
