-- `checks::word_lists_checked` meets its contract: the lengths refuse, or the rows decide.
use Rattle.outcome.proofs.Outcomes.{handed_on}
use mathlib.Core.Path.{◌≡◌, sym, ap, ◌∙◌}
use lib.ListN.{length}
use Rattle.outcome.specs.Outcome.{answer, verdict, outcome_of}
use Rattle.row_lists.proofs.ListChecks.{length_checks, lengths-agree, agreed_size}
use Rattle.row_lists.proofs.WordLists.{word-lists-refused, word-lists-rows}
use Rattle.row_lists.proofs.checks.word_lists_checked.Goals as goal
use Rattle.row_lists.proofs.checks.word_lists_checked.Lts as lts
use Rattle.row_lists.proofs.checks.word_lists_checked.Tie as tie
use Rattle.row_lists.proofs.checks.word_lists_checked.Reads as reads

abbrev ctx-After-known_told : Type 0
ctx-After-known_told = lts.Past-After-known_told tie.the-claims reads.Pre reads.Post tie.handed_clauses

-- the lengths pass
lengths-pass :
    (c : ctx-After-known_told)
    → let a = c.args in
    verdict (length_checks a.sites (length a.words.now) a.rows a.leasts a.first a.second) ≡ answer tt
lengths-pass c = sym c.lengths_checked.ensures ∙ ap outcome_of c.in_ok-lengths_checked.was

pub words_checked-requires : goal.words_checked-requires
words_checked-requires c =
    let a = c.args in
    agreed_size (lengths-agree a.sites (length a.words.now) a.rows a.leasts a.first a.second (lengths-pass c.before))
    c.row_size-size.ensures

pub returns-in_err-lengths_checked : goal.returns-in_err-lengths_checked
returns-in_err-lengths_checked c =
    ap outcome_of (handed_on c.from_residual.result c.from_residual.ensures.1)
    ∙ (let a = c.args in
    sym
    (word-lists-refused a.sites a.words.now a.rows a.leasts a.first a.second c.in_err-lengths_checked.field-0.0
    (sym c.lengths_checked.ensures ∙ ap outcome_of c.in_err-lengths_checked.was)))

pub returns : goal.returns
returns c =
    let a = c.args in
    c.words_checked.ensures
    ∙ sym (word-lists-rows a.sites a.words.now a.rows a.leasts a.first a.second c.row_size-size.ensures (lengths-pass c.before.before))
