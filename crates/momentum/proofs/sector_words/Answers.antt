-- `sector_words` meets its contract: it is refused by its checks, or fills the lists with the decisions for the rows (`RowCalls`).
use Rattle.outcome.proofs.Outcomes.{handed_on}
use Prim.Native.Nat.{ℕ}
use mathlib.Core.Path.{◌≡◌, sym, ap, ◌∙◌}
use mathlib.Core.List.{List}
use lib.IntN.{ℤ}
use lib.ListN.{length}
use borrow.Author.Rules.{rules}
use Rattle.outcome.specs.Outcome.{answer, verdict, outcome_of, on_answer, or_else, done}
use Rattle.pauli_word.proofs.Planes.{bytes_of_lem}
use Rattle.group.specs.declared.Group.{Group}
use Rattle.group.specs.Value.{group_lent, generators_of, AcceptedGroup}
use Rattle.group.proofs.Accepted.{value-accepted, accepted_tables}
use Rattle.row_lists.specs.Rows.{in_full_by, rows_in_full}
use Rattle.row_lists.specs.Checks.{AcceptedRows}
use Rattle.row_lists.proofs.ListChecks.{Agreeing, agreed_size}
use Rattle.momentum.specs.Words.{sector_words_checks}
use Rattle.sector_rows.specs.Rows.{decided_rows, sector_words, sector_indices, sector_sizes}
use Rattle.momentum.proofs.RowCalls.{sector-words-refused, sector-words-answer, passed-value, passed-modes, passed-lengths, passed-rows}
use Rattle.momentum.proofs.sector_words.Goals as goal

pub place_rows-requires : goal.place_rows-requires
place_rows-requires c =
    let a = c.args in
    let g = group_lent a.group.now in
    let modes = a.modes.now in
    let words = a.words.now in
    let rows = length a.indices.now in
    let room = length a.representatives.now in
    let sizes = length a.sizes.now in
    let pass : verdict (sector_words_checks g modes words rows room sizes) ≡ answer tt = sym c.rows_checked.ensures ∙ ap outcome_of c.in_ok-rows_checked.was in
    let accepted : AcceptedGroup g = value-accepted g (search rules) (search rules) (passed-value g modes words rows room sizes pass) in
    let lengths = passed-lengths g modes words rows room sizes pass in
    let sized = c.row_size-size.ensures in record {
      tables = accepted_tables g accepted;
      modes_len = passed-modes g modes words rows room sizes pass;
      either_length = agreed_size lengths sized;
      accepted_rows = rw sized
          (passed-rows g modes words rows room sizes pass (bytes_of_lem words (λ i. (c.shared_slice_known-1.given i).fits)));
      representatives_len = lengths.leasts_long;
      sizes_len = lengths.second_long;
    }

pub returns-in_err-rows_checked : goal.returns-in_err-rows_checked
returns-in_err-rows_checked c =
    let a = c.args in
    let e =
    sector-words-refused (group_lent a.group.now) a.modes.now a.words.now (length a.indices.now) (length a.representatives.now) (length a.sizes.now) c.in_err-rows_checked.field-0.0
    (sym c.rows_checked.ensures ∙ ap outcome_of c.in_err-rows_checked.was)
    in record {
      answer = ap outcome_of (handed_on c.from_residual.result c.from_residual.ensures.1)
          ∙ sym (ap (on_answer done) e);
      representatives = sym (ap (or_else sector_words a.representatives.now) e);
      indices = sym (ap (or_else sector_indices a.indices.now) e);
      sizes = sym (ap (or_else sector_sizes a.sizes.now) e);
    }

pub returns : goal.returns
unfolding generators_of
returns c =
    let a = c.args in
    let g = group_lent a.group.now in
    let modes = a.modes.now in
    let words = a.words.now in
    let rows = length a.indices.now in
    let room = length a.representatives.now in
    let sizes = length a.sizes.now in
    let pass : verdict (sector_words_checks g modes words rows room sizes) ≡ answer tt = sym c.rows_checked.ensures ∙ ap outcome_of c.in_ok-rows_checked.was in
    let outcome = sector-words-answer g modes words rows room sizes pass in
    let same =
    ap (λ (size : ℕ). decided_rows (generators_of g) modes a.group.now.sites (in_full_by size rows words) rows) c.row_size-size.ensures
    in record {
      answer = sym (ap (on_answer done) outcome);
      representatives = c.place_rows.ensures.representatives ∙ ap sector_words same ∙ sym (ap (or_else sector_words a.representatives.now) outcome);
      indices = c.place_rows.ensures.indices ∙ ap sector_indices same ∙ sym (ap (or_else sector_indices a.indices.now) outcome);
      sizes = c.place_rows.ensures.sizes ∙ ap sector_sizes same ∙ sym (ap (or_else sector_sizes a.sizes.now) outcome);
    }
