-- `line::modes_fit` meets its contract: the three tests are those of the texts (`fits-three`).
use mathlib.Core.Path.{sym, ◌∙◌}
use mathlib.Core.Bool.{◌&&◌}
use Rattle.text.specs.Text.{is_mode}
use Rattle.sheet_lines.proofs.Lines.{fits_three}
use borrow.Author.Rules.{rules}
use Rattle.sheet_lines.proofs.line.modes_fit.Goals as goal

pub returns : goal.returns
returns c =
    let a = c.args in
    let x = c.mode_fits.ensures in
    let y = c.mode_fits-2.ensures in
    let z = c.mode_fits-3.ensures in
    c.all.ensures
    ∙ (λ i. x i && (y i && z i))
    ∙ sym (fits_three is_mode a.used a.a.now a.b.now a.c.now c.requires)
