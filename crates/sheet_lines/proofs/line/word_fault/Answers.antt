-- `line::word_fault` meets its contract: reading the word meets the same rules, and its letters are counted (`word-refused` to `word-sites`).
use mathlib.Core.Path.{sym, ap, ◌∙◌}
use Rattle.std.specs.Prelude.{Result}
use Rattle.outcome.specs.declared.Refusal.{Refusal}
use Rattle.outcome.specs.Outcome.{outcome_of}
use Rattle.outcome.proofs.Outcomes.{handed_on}
use Rattle.sheet_lines.specs.Parts.{at_line}
use Rattle.sheet_lines.proofs.Lines.{word-refused, word_same, word-sites}
use borrow.Author.Rules.{rules}
use Rattle.sheet_lines.proofs.line.word_fault.Goals as goal

pub returns-in_err-read : goal.returns-in_err-read
returns-in_err-read c = λ k.
    let a = c.args in
    ap (λ (r : Result (Unit {0}) Refusal). at_line k (outcome_of r)) (handed_on c.from_residual.result c.from_residual.ensures.1)
    ∙ word-refused a.sites a.word.now c.in_err-read.field-0.0 (sym (ap outcome_of c.in_err-read.was) ∙ c.from_text.ensures) k

pub returns-then-read-sites : goal.returns-then-read-sites
returns-then-read-sites c =
    let a = c.args in
    word_same a.sites a.word.now c.in_ok-read.read (sym (ap outcome_of c.in_ok-read.was) ∙ c.from_text.ensures) c.if-read-sites.true

pub returns-else-read-sites : goal.returns-else-read-sites
returns-else-read-sites c =
    let a = c.args in
    word-sites a.sites a.word.now c.in_ok-read.read (sym (ap outcome_of c.in_ok-read.was) ∙ c.from_text.ensures) c.if-read-sites.false
