-- `project_pauli_sum` meets its contract: it is refused by its checks, or projects the rows by a table that passes (`ProjectCalls`).
use mathlib.Core.Path.{◌≡◌, sym, ap, ◌∙◌}
use native.Mathlib.Omega.{arith}
use lib.ListN.{length}
use Rattle.outcome.specs.Outcome.{answer, verdict, outcome_of, on_answer}
use Rattle.outcome.proofs.Outcomes.{handed_on}
use Rattle.pauli_word.proofs.Planes.{bytes_of_lem}
use Rattle.group.specs.declared.Group.{Group}
use Rattle.group.specs.Value.{group_lent, generators_of, AcceptedGroup}
use Rattle.group.proofs.Accepted.{value-accepted}
use Rattle.row_lists.specs.Rows.{in_full_by, rows_in_full}
use Rattle.row_lists.proofs.ListChecks.{Agreeing, agreed_size}
use Rattle.projection.proofs.Projected.{counts-add}
use Rattle.project.specs.Calls.{project_checks, input_rows, projection_of, words_after, cosines_after, sines_after}
use Rattle.project.specs.Rows.{PhaseLists, Sector, WholeRows}
use Rattle.project.proofs.ProjectChecks.{passed-value, passed-sector, passed-table, passed-lengths, passed-rows}
use Rattle.project.proofs.ProjectCalls.{passing_lists, project-refused, answered-counts, answered-words, answered-cosines, answered-sines}
use Rattle.project.proofs.TurnedRows.{input-length}
use borrow.Author.Rules.{rules}
use Rattle.project.proofs.project_pauli_sum.Goals as goal

pub project-kept-requires : goal.project-kept-requires
project-kept-requires c =
    let a = c.args in
    let g = group_lent a.group.now in
    let ks = a.modes.now in
    let words = a.words.now in
    let cs = a.coefficients.now in
    let leasts = length a.representatives.now in
    let first = length a.cosines.now in
    let second = length a.sines.now in
    let pass : verdict (project_checks a.table g ks words cs leasts first second) ≡ answer tt =
    sym c.projection_checked.ensures ∙ ap outcome_of c.in_ok-projection_checked.was
    in
    let accepted : AcceptedGroup g = value-accepted g (search rules) (search rules) (passed-value a.table g ks words cs leasts first second pass) in
    let long = passed-lengths a.table g ks words cs leasts first second pass in record {
      sector = passed-sector a.table g ks words cs leasts first second pass accepted;
      either_length = agreed_size long c.row_size-size.ensures;
      whole_rows = rw c.row_size-size.ensures
          (passed-rows a.table g ks words cs leasts first second pass (bytes_of_lem words (λ i. (c.shared_slice_known-1.given i).fits)));
      phase_lists = passing_lists a.table (search rules) (search rules) (passed-table a.table g ks words cs leasts first second pass);
      representatives_len = long.leasts_long;
      cosines_len = (long.first_long, long.second_long);
    }

pub overflow_sub-result : goal.overflow_sub-result
unfolding generators_of
overflow_sub-result c =
    let a = c.args in
    let full = in_full_by c.row_size-size.result (length a.coefficients.now) a.words.now in
    omega (
      arith,
      c.project-kept.ensures.kept,
      counts-add (generators_of (group_lent a.group.now)) a.modes.now (input_rows a.group.now.sites full a.coefficients.now),
      input-length a.group.now.sites full a.coefficients.now,
    )

pub returns-in_err-projection_checked : goal.returns-in_err-projection_checked
returns-in_err-projection_checked c =
    let a = c.args in
    let no =
    project-refused a.table (group_lent a.group.now) a.modes.now a.words.now a.coefficients.now (length a.representatives.now)
    (length a.cosines.now) (length a.sines.now) c.in_err-projection_checked.field-0.0
    (sym c.projection_checked.ensures ∙ ap outcome_of c.in_err-projection_checked.was)
    in
    let k = length a.coefficients.now in record {
      answer = ap outcome_of (handed_on c.from_residual.result c.from_residual.ensures.1)
          ∙ sym (ap (on_answer projection_of) no);
      representatives = sym (ap (words_after a.representatives.now k) no);
      cosines = sym (ap (cosines_after a.cosines.now k) no);
      sines = sym (ap (sines_after a.sines.now k) no);
    }

pub returns : goal.returns
unfolding generators_of
returns c =
    let a = c.args in
    let g = group_lent a.group.now in
    let ks = a.modes.now in
    let words = a.words.now in
    let cs = a.coefficients.now in
    let pass : verdict
    (project_checks a.table g ks words cs (length a.representatives.now) (length a.cosines.now) (length a.sines.now)) ≡ answer tt =
    sym c.projection_checked.ensures ∙ ap outcome_of c.in_ok-projection_checked.was
    in
    let sized = c.row_size-size.ensures in record {
      answer = answered-counts a.table g ks words cs _ _ _ pass sized c.project-kept.ensures.kept;
      representatives = answered-words a.table g ks words cs _ _ _ pass sized a.representatives.now c.project-kept.ensures.representatives;
      cosines = answered-cosines a.table g ks words cs _ _ _ pass sized a.cosines.now c.project-kept.ensures.cosines;
      sines = answered-sines a.table g ks words cs _ _ _ pass sized a.sines.now c.project-kept.ensures.sines;
    }
