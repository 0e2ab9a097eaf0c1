-- `checks::lengths_checked` meets its contract: each return is reached by the tests that decide it.
use mathlib.Core.Path.{sym, ap, ◌∙◌}
use borrow.Author.Tests.{not-true, not-false}
use Rattle.pauli_word.specs.Calls.{past_old}
use Rattle.row_lists.proofs.ListChecks.{lengths-disagree, lengths-many, lengths-old, lengths-pass}
use Rattle.row_lists.proofs.checks.lengths_checked.Goals as goal

pub returns-then-not-rows_agree : goal.returns-then-not-rows_agree
returns-then-not-rows_agree c =
    let a = c.args in
    sym
    (lengths-disagree a.sites a.words a.rows a.leasts a.first a.second
    (sym c.rows_agree.ensures ∙ not-true c.rows_agree.result c.if-not-rows_agree.true-raw))

pub returns-then-rows-gt-MAX_ROWS : goal.returns-then-rows-gt-MAX_ROWS
returns-then-rows-gt-MAX_ROWS c =
    let a = c.args in
    sym (lengths-many a.sites a.words a.rows a.leasts a.first a.second (sym c.rows_agree.ensures ∙ not-false c.rows_agree.result c.if-not-rows_agree.false-raw) c.if-rows-gt-MAX_ROWS.true)

pub returns-then-past_old : goal.returns-then-past_old
returns-then-past_old c =
    let a = c.args in
    sym
    (lengths-old a.sites a.words a.rows a.leasts a.first a.second (sym c.rows_agree.ensures ∙ not-false c.rows_agree.result c.if-not-rows_agree.false-raw) c.if-rows-gt-MAX_ROWS.false
    (sym (c.past_old.ensures ∙ ap (past_old a.sites) c.row_size.ensures) ∙ c.if-past_old.true))

pub returns : goal.returns
returns c =
    let a = c.args in
    sym
    (lengths-pass a.sites a.words a.rows a.leasts a.first a.second (sym c.rows_agree.ensures ∙ not-false c.rows_agree.result c.if-not-rows_agree.false-raw) c.if-rows-gt-MAX_ROWS.false
    (sym (c.past_old.ensures ∙ ap (past_old a.sites) c.row_size.ensures) ∙ c.if-past_old.false))
