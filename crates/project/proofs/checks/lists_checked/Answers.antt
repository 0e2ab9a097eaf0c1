-- `checks::lists_checked` meets its contract: the lengths refuse, or the rows decide.
use Rattle.outcome.proofs.Outcomes.{handed_on}
use mathlib.Core.Path.{◌≡◌, sym, ap, ◌∙◌}
use lib.ListN.{length}
use Rattle.outcome.specs.Outcome.{answer, verdict, outcome_of}
use Rattle.row_lists.proofs.ListChecks.{length_checks, lengths-agree, agreed_size, lists-refused, lists-rows}
use Rattle.project.specs.Calls.{out_of_range}
use borrow.Author.Rules.{rules}
use Rattle.project.proofs.checks.lists_checked.Goals as goal

pub rows_checked-requires : goal.rows_checked-requires
rows_checked-requires c =
    let a = c.args in
    agreed_size
    (lengths-agree a.sites (length a.words.now) (length a.coefficients.now) a.leasts a.first a.second (sym c.lengths_checked.ensures ∙ ap outcome_of c.in_ok-lengths_checked.was))
    c.row_size-size.ensures

pub returns-in_err-lengths_checked : goal.returns-in_err-lengths_checked
returns-in_err-lengths_checked c =
    ap outcome_of (handed_on c.from_residual.result c.from_residual.ensures.1)
    ∙ (let a = c.args in
    let e = sym c.lengths_checked.ensures ∙ ap outcome_of c.in_err-lengths_checked.was in
    sym (lists-refused out_of_range a.sites a.words.now a.coefficients.now a.leasts a.first a.second c.in_err-lengths_checked.field-0.0 e))

pub returns : goal.returns
returns c =
    let a = c.args in
    c.rows_checked.ensures
    ∙ sym
    (lists-rows out_of_range a.sites a.words.now a.coefficients.now a.leasts a.first a.second c.row_size-size.ensures
    (sym c.lengths_checked.ensures ∙ ap outcome_of c.in_ok-lengths_checked.was))
