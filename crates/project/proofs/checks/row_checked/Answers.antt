-- `checks::row_checked` meets its contract: the word's check decides, and then the range of the coefficient.
use Rattle.outcome.proofs.Outcomes.{handed_on}
use Prim.Native.Nat.{ℕ}
use mathlib.Core.Path.{◌≡◌, sym, ap, ◌∙◌}
use mathlib.Core.List.{List, [], ◌∷◌}
use lib.IntN.{ℤ, pos}
use lib.ListN.{length, get_or}
use mir.Syntax.{w64}
use mir.ValLaws.{to_z-of_z}
use Rattle.outcome.specs.Outcome.{answer, verdict, outcome_of}
use Rattle.pauli_word.specs.Bytes.{in_full}
use Rattle.row_lists.specs.Rows.{row_by}
use Rattle.row_lists.specs.Checks.{bit_above_sites}
use Rattle.row_lists.proofs.InFull.{row_inside}
use Rattle.row_lists.proofs.ListChecks.{own-refused, own-decides}
use Rattle.phases.specs.Rules.{in_range}
use Rattle.project.specs.Calls.{max_coefficient, out_of_range}
use Rattle.project.proofs.ProjectChecks.{range-kept, range-broken}
use borrow.Author.Rules.{rules}
use Rattle.project.proofs.checks.row_checked.Goals as goal

pub word_checked-requires : goal.word_checked-requires
word_checked-requires c =
    let a = c.args in record {
      either_length = c.requires.either_length.0;
      size_in_bounds = row_inside a.size (length a.coefficients.now) a.words.now c.requires.either_length.1 a.i c.requires.i_in_bounds;
    }

pub returns-in_err-word_checked : goal.returns-in_err-word_checked
returns-in_err-word_checked c =
    ap outcome_of (handed_on c.from_residual.result c.from_residual.ensures.1)
    ∙ (let e = sym c.word_checked.ensures ∙ ap outcome_of c.in_err-word_checked.was in
    sym (own-refused c.args.sites c.args.i (in_full (row_by c.args.size c.args.words.now c.args.i)) (out_of_range c.args.i (get_or c.args.coefficients.now c.args.i (pos 0))) c.in_err-word_checked.field-0.0 e))

pub returns-then-in_range : goal.returns-then-in_range
returns-then-in_range c =
    sym
    (own-decides c.args.sites c.args.i (in_full (row_by c.args.size c.args.words.now c.args.i)) (out_of_range c.args.i (get_or c.args.coefficients.now c.args.i (pos 0))) (sym c.word_checked.ensures ∙ ap outcome_of c.in_ok-word_checked.was)
    ∙ range-kept c.args.i (get_or c.args.coefficients.now c.args.i (pos 0)) (sym (c.in_range.ensures ∙ ap (in_range max_coefficient) (to_z-of_z w64 (get_or c.args.coefficients.now c.args.i (pos 0)) record { sfits = c.in_range-arg-1.given })) ∙ c.if-in_range.true))

pub returns-else-in_range : goal.returns-else-in_range
returns-else-in_range c =
    sym
    (own-decides c.args.sites c.args.i (in_full (row_by c.args.size c.args.words.now c.args.i)) (out_of_range c.args.i (get_or c.args.coefficients.now c.args.i (pos 0))) (sym c.word_checked.ensures ∙ ap outcome_of c.in_ok-word_checked.was)
    ∙ range-broken c.args.i (get_or c.args.coefficients.now c.args.i (pos 0)) (sym (c.in_range.ensures ∙ ap (in_range max_coefficient) (to_z-of_z w64 (get_or c.args.coefficients.now c.args.i (pos 0)) record { sfits = c.in_range-arg-1.given })) ∙ c.if-in_range.false))
