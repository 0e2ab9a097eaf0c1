-- `candidates::strike` meets its contract: where none has a bit here, or all have, all stay, and else those that have none.
use mathlib.Core.Path.{◌∙◌}
use borrow.Author.Tests.{not-true, not-false}
use Rattle.grid.proofs.Refining.{left_struck, left_none, left-all}
use Rattle.grid.proofs.candidates.strike.Goals as goal

pub returns-then-not-some_with : goal.returns-then-not-some_with
returns-then-not-some_with c = λ o t F l m. left-all l m (c.some_with.ensures (not-true c.some_with.result c.if-not-some_with.true-raw))

pub returns-then-not-some_without : goal.returns-then-not-some_without
returns-then-not-some_without c = λ o t F l m. left_none l m (c.some_without.ensures.no (not-true c.some_without.result c.if-not-some_without.true-raw))

pub returns : goal.returns
returns c =
    let out = c.take_out.ensures in
    let found = c.some_without.ensures.yes (not-false c.some_without.result c.if-not-some_without.false-raw) in
    λ o t F l m. left_struck l m out found.0 (out found.0 ∙ found.1)
