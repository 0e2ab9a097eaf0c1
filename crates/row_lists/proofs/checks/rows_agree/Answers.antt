-- `checks::rows_agree` meets its contract: each return is reached by the test that decides it.
use native.Mathlib.Omega.{arith}
use Rattle.row_lists.proofs.ListChecks.{leasts-disagree, first-disagree, second-disagree, full-agree, neither-agree, old-decides}
use Rattle.row_lists.proofs.checks.rows_agree.Goals as goal

pub returns-then-leasts-ne0 : goal.returns-then-leasts-ne0
returns-then-leasts-ne0 c =
    let a = c.args in
    leasts-disagree a.words a.rows a.leasts a.first a.second (λ e. c.if-leasts-ne0.true (omega arith))

pub returns-then-leasts-rows : goal.returns-then-leasts-rows
returns-then-leasts-rows c =
    let a = c.args in
    leasts-disagree a.words a.rows a.leasts a.first a.second (λ e. c.if-leasts-rows.true (omega arith))

pub returns-then-first-rows : goal.returns-then-first-rows
returns-then-first-rows c =
    let a = c.args in
    first-disagree a.words a.rows a.leasts a.first a.second c.if-first-rows.true

pub returns-then-second-rows : goal.returns-then-second-rows
returns-then-second-rows c =
    let a = c.args in
    second-disagree a.words a.rows a.leasts a.first a.second c.if-second-rows.true

pub returns-then-words-leasts : goal.returns-then-words-leasts
returns-then-words-leasts c =
    let a = c.args in
    full-agree a.words a.rows a.leasts a.first a.second (omega arith) (omega arith) (omega arith) (omega arith)

pub returns-then-words-ne0 : goal.returns-then-words-ne0
returns-then-words-ne0 c =
    let a = c.args in
    neither-agree a.words a.rows a.leasts a.first a.second (omega arith) (omega arith) (omega arith) (λ e. c.if-words-leasts.false (omega arith))
    (λ e. c.if-words-ne0.true (omega arith))

pub returns : goal.returns
returns c =
    let a = c.args in
    old-decides a.words a.rows a.leasts a.first a.second (omega arith) (omega arith) (omega arith) (λ e. c.if-words-leasts.false (omega arith))
    c.if-words-ne0.false
