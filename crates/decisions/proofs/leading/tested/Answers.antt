-- `leading::tested` meets its contract.
use mathlib.Core.Path.{sym, ◌∙◌}
use borrow.Author.Tests.{not-true, not-false}
use Rattle.decisions.proofs.leading.tested.Goals as goal

pub returns-then-not-holds : goal.returns-then-not-holds
returns-then-not-holds c = rw (sym c.holds.ensures ∙ not-true c.holds.result c.if-not-holds.true-raw)

pub returns-then-trivial : goal.returns-then-trivial
returns-then-trivial c =
    rw (sym c.holds.ensures ∙ not-false c.holds.result c.if-not-holds.false-raw, sym c.trivial.ensures ∙ c.if-trivial.true)

pub returns-else-trivial : goal.returns-else-trivial
returns-else-trivial c =
    rw (sym c.holds.ensures ∙ not-false c.holds.result c.if-not-holds.false-raw, sym c.trivial.ensures ∙ c.if-trivial.false)
