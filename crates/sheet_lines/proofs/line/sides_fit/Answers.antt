-- `line::sides_fit` meets its contract: the three tests are those of the texts (`fits-three`).
use mathlib.Core.Path.{sym, ◌∙◌}
use mathlib.Core.Bool.{◌&&◌}
use Rattle.text.specs.Text.{is_number}
use Rattle.sheet_lines.proofs.Lines.{fits_three}
use borrow.Author.Rules.{rules}
use Rattle.sheet_lines.proofs.line.sides_fit.Goals as goal

pub returns : goal.returns
returns c =
    let a = c.args in
    let x = c.side_fits.ensures in
    let y = c.side_fits-2.ensures in
    let z = c.side_fits-3.ensures in
    c.all.ensures
    ∙ (λ i. x i && (y i && z i))
    ∙ sym (fits_three is_number a.used a.a.now a.b.now a.c.now c.requires)
