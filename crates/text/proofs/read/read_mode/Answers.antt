-- `read::read_mode` meets its contract: the number that is read is a mode or none (`value-mode`), and what is no number is no mode (`other-mode`).
use mathlib.Core.Path.{sym, ap, ◌∙◌}
use borrow.Author.Rules.{rules}
use Rattle.text.specs.Parts.{mode_in}
use Rattle.text.proofs.Numbers.{signed_stays, value-mode, other-mode}
use Rattle.text.proofs.read.read_mode.Goals as goal

pub returns-in_err-read_signed : goal.returns-in_err-read_signed
returns-in_err-read_signed c = c.from_residual.ensures ∙ other-mode c.args.text.now (sym c.read_signed.ensures ∙ c.in_err-read_signed.was)

pub returns : goal.returns
returns c =
    let t = c.args.text.now in
    let z = c.in_ok-read_signed.field-0 in
    let read = sym c.read_signed.ensures ∙ c.in_ok-read_signed.was in
    c.mode_in.ensures ∙ ap mode_in (signed_stays t z read) ∙ value-mode t z read
