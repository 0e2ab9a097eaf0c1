-- `checks::row_checked` meets its contract: the word's check decides, and then the test of the coefficient.
use Rattle.outcome.proofs.Outcomes.{handed_on}
use Prim.Native.Nat.{ℕ}
use mathlib.Core.Path.{◌≡◌, sym, ap, ◌∙◌}
use mathlib.Core.List.{List, [], ◌∷◌}
use lib.ListN.{length, get_or}
use lib.Ieee.{nan}
use borrow.Author.Rules.{rules}
use Rattle.outcome.specs.Outcome.{answer, verdict, outcome_of, Check}
use Rattle.pauli_word.specs.Bytes.{in_full}
use Rattle.row_lists.specs.Rows.{row_by}
use Rattle.row_lists.specs.Checks.{bit_above_sites}
use Rattle.row_lists.proofs.InFull.{row_inside}
use Rattle.row_lists.proofs.ListChecks.{own-refused, own-decides}
use Rattle.merge.specs.Calls.{not_finite}
use Rattle.merge.proofs.SumChecks.{finite-kept, finite-broken}
use Rattle.merge.proofs.checks.row_checked.Goals as goal

pub word_checked-requires : goal.word_checked-requires
word_checked-requires c =
    let (either, long) = c.requires.either_length in record {
      either_length = either;
      size_in_bounds = row_inside c.args.size (length c.args.coefficients.now) c.args.words.now long c.args.i c.requires.i_in_bounds;
    }

pub returns-in_err-word_checked : goal.returns-in_err-word_checked
returns-in_err-word_checked c =
    ap outcome_of (handed_on c.from_residual.result c.from_residual.ensures.1)
    ∙ (sym (own-refused c.args.sites c.args.i (in_full (row_by c.args.size c.args.words.now c.args.i)) (not_finite c.args.i (get_or c.args.coefficients.now c.args.i nan)) c.in_err-word_checked.field-0.0 (sym c.word_checked.ensures ∙ ap outcome_of c.in_err-word_checked.was)))

pub returns-then-is_finite : goal.returns-then-is_finite
returns-then-is_finite c =
    sym
    (own-decides c.args.sites c.args.i (in_full (row_by c.args.size c.args.words.now c.args.i)) (not_finite c.args.i (get_or c.args.coefficients.now c.args.i nan)) (sym c.word_checked.ensures ∙ ap outcome_of c.in_ok-word_checked.was)
    ∙ finite-kept c.args.i (get_or c.args.coefficients.now c.args.i nan) (sym c.is_finite.ensures ∙ c.if-is_finite.true))

pub returns-else-is_finite : goal.returns-else-is_finite
returns-else-is_finite c =
    sym
    (own-decides c.args.sites c.args.i (in_full (row_by c.args.size c.args.words.now c.args.i)) (not_finite c.args.i (get_or c.args.coefficients.now c.args.i nan)) (sym c.word_checked.ensures ∙ ap outcome_of c.in_ok-word_checked.was)
    ∙ finite-broken c.args.i (get_or c.args.coefficients.now c.args.i nan) (sym c.is_finite.ensures ∙ c.if-is_finite.false))
