-- `names::names_end` meets its contract: there is no line, or it is these names, or others (`names-missing`, `names_same`, `names-differ`).
use mathlib.Core.Path.{sym, ap, ◌∙◌}
use native.Mathlib.Omega.{arith}
use Rattle.action.specs.Lists.{same_numbers}
use Rattle.text.specs.Text.{line_end}
use Rattle.text.proofs.Pieces.{before_short}
use Rattle.text.proofs.Lines.{front-part, names-missing, names_same, names-differ}
use borrow.Author.Rules.{rules}
use Rattle.text.proofs.names.names_end.Goals as goal

pub returns-then-k-text : goal.returns-then-k-text
returns-then-k-text c =
    let a = c.args in
    names-missing a.names.now a.text.now c.find-k.result c.find-k.ensures c.if-k-text.true

pub slice_bounds-same-end : goal.slice_bounds-same-end
slice_bounds-same-end c = omega (arith, c.find-k.ensures, before_short line_end c.args.text.now)

pub returns-then-same : goal.returns-then-same
returns-then-same c =
    let a = c.args in
    names_same a.names.now a.text.now c.find-k.result c.find-k.ensures c.if-k-text.false
    (ap (λ l. same_numbers l a.names.now) (sym (front-part c.find-k.result a.text.now)) ∙ sym c.same.ensures ∙ c.if-same.true)

pub returns-else-same : goal.returns-else-same
returns-else-same c =
    let a = c.args in
    names-differ a.names.now a.text.now c.find-k.result c.find-k.ensures c.if-k-text.false
    (ap (λ l. same_numbers l a.names.now) (sym (front-part c.find-k.result a.text.now)) ∙ sym c.same.ensures ∙ c.if-same.false)
