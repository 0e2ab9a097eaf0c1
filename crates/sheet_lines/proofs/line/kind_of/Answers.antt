-- `line::kind_of` meets its contract: the first name that is the same decides (`name-chain` to `name-other`).
use mathlib.Core.Path.{sym, ◌∙◌}
use Rattle.sheet_lines.proofs.Lines.{name-chain, name-ladder, name-torus2, name-torus3, name-other}
use borrow.Author.Rules.{rules}
use Rattle.sheet_lines.proofs.line.kind_of.Goals as goal

pub returns-then-same : goal.returns-then-same
returns-then-same c = name-chain c.args.name.now (sym c.same.ensures ∙ c.if-same.true)

pub returns-then-same-2 : goal.returns-then-same-2
returns-then-same-2 c =
    name-ladder c.args.name.now (sym c.same.ensures ∙ c.if-same.false)
    (sym c.same-2.ensures ∙ c.if-same-2.true)

pub returns-then-same-3 : goal.returns-then-same-3
returns-then-same-3 c =
    name-torus2 c.args.name.now (sym c.same.ensures ∙ c.if-same.false)
    (sym c.same-2.ensures ∙ c.if-same-2.false)
    (sym c.same-3.ensures ∙ c.if-same-3.true)

pub returns-then-same-4 : goal.returns-then-same-4
returns-then-same-4 c =
    name-torus3 c.args.name.now (sym c.same.ensures ∙ c.if-same.false)
    (sym c.same-2.ensures ∙ c.if-same-2.false)
    (sym c.same-3.ensures ∙ c.if-same-3.false) (sym c.same-4.ensures ∙ c.if-same-4.true)

pub returns : goal.returns
returns c =
    name-other c.args.name.now (sym c.same.ensures ∙ c.if-same.false)
    (sym c.same-2.ensures ∙ c.if-same-2.false)
    (sym c.same-3.ensures ∙ c.if-same-3.false) (sym c.same-4.ensures ∙ c.if-same-4.false)
