-- `line::mode_fits` meets its contract: a text that is read as a mode is one (`mode-some`).
use mathlib.Core.Path.{sym, ap, ◌∙◌}
use borrow.Author.Tests.{not-true, not-false}
use Rattle.std.specs.Prelude.{is_some}
use Rattle.text.specs.Text.{is_mode}
use Rattle.sheet_lines.proofs.Lines.{fits_used, fits_unused, mode-some}
use borrow.Author.Rules.{rules}
use Rattle.sheet_lines.proofs.line.mode_fits.Goals as goal

pub returns-then-not-used : goal.returns-then-not-used
returns-then-not-used c =
    let a = c.args in
    c.same.ensures ∙ sym (fits_unused is_mode a.used a.text.now (not-true _ c.if-not-used.true-raw))
