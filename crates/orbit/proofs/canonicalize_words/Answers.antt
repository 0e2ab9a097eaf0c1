-- `canonicalize_words` meets its contract: it is refused by its checks, or fills the lists with what each row is answered (`RowCalls`).
use Rattle.outcome.proofs.Outcomes.{handed_on}
use Prim.Native.Nat.{ℕ}
use mathlib.Core.Path.{◌≡◌, sym, ap, ◌∙◌}
use lib.ListN.{length}
use borrow.Author.Rules.{rules}
use Rattle.outcome.specs.Outcome.{answer, verdict, outcome_of, on_answer, or_else, done}
use Rattle.pauli_word.proofs.Planes.{bytes_of_lem}
use Rattle.group.specs.Value.{group_in, generators_of, AcceptedGroup}
use Rattle.group.proofs.Accepted.{value-accepted, accepted_tables}
use Rattle.row_lists.specs.Rows.{in_full_by}
use Rattle.row_lists.proofs.ListChecks.{agreed_size}
use Rattle.least_words.specs.Rows.{answered_rows, words_of, indices_of}
use Rattle.orbit.specs.Words.{words_checks}
use Rattle.orbit.proofs.RowCalls.{words-refused, words-answer, passed-value, passed-lengths, passed-rows}
use Rattle.orbit.proofs.canonicalize_words.Goals as goal

pub least_rows-requires : goal.least_rows-requires
least_rows-requires c =
    let a = c.args in
    let g = group_in a.group.now.sites a.group.now.generators a.group.now.orders.now a.group.now.targets.now in
    let words = a.words.now in
    let rows = length a.indices.now in
    let room = length a.representatives.now in
    let pass : verdict (words_checks g words rows room) ≡ answer tt = sym c.rows_checked.ensures ∙ ap outcome_of c.in_ok-rows_checked.was in
    let accepted : AcceptedGroup g = value-accepted g (search rules) (search rules) (passed-value g words rows room pass) in
    let lengths = passed-lengths g words rows room pass in
    let sized = c.row_size-size.ensures in record {
      tables = accepted_tables g accepted;
      either_length = agreed_size lengths sized;
      accepted_rows = rw sized (passed-rows g words rows room pass (bytes_of_lem words (λ i. (c.shared_slice_known-1.given i).fits)));
      representatives_len = lengths.leasts_long;
    }

pub returns-in_err-rows_checked : goal.returns-in_err-rows_checked
returns-in_err-rows_checked c =
    let e =
    words-refused (group_in c.args.group.now.sites c.args.group.now.generators c.args.group.now.orders.now c.args.group.now.targets.now) c.args.words.now (length c.args.indices.now) (length c.args.representatives.now) c.in_err-rows_checked.field-0.0 (sym c.rows_checked.ensures ∙ ap outcome_of c.in_err-rows_checked.was)
    in record {
      answer = ap outcome_of (handed_on c.from_residual.result c.from_residual.ensures.1)
          ∙ sym (ap (on_answer done) e);
      representatives = sym (ap (or_else words_of c.args.representatives.now) e);
      indices = sym (ap (or_else indices_of c.args.indices.now) e);
    }

pub returns : goal.returns
unfolding generators_of
returns c =
    let a = c.args in
    let g = group_in a.group.now.sites a.group.now.generators a.group.now.orders.now a.group.now.targets.now in
    let words = a.words.now in
    let rows = length a.indices.now in
    let room = length a.representatives.now in
    let pass : verdict (words_checks g words rows room) ≡ answer tt = sym c.rows_checked.ensures ∙ ap outcome_of c.in_ok-rows_checked.was in
    let outcome = words-answer g words rows room pass in
    let same = ap (λ (size : ℕ). answered_rows (generators_of g) a.group.now.sites (in_full_by size rows words) rows) c.row_size-size.ensures in record {
      answer = sym (ap (on_answer done) outcome);
      representatives = c.least_rows.ensures.representatives ∙ ap words_of same ∙ sym (ap (or_else words_of a.representatives.now) outcome);
      indices = c.least_rows.ensures.indices ∙ ap indices_of same ∙ sym (ap (or_else indices_of a.indices.now) outcome);
    }
