-- `canonicalize_pauli_sum` meets its contract: it is refused by its checks, or folds the representatives (`SumCalls`).
use Rattle.outcome.proofs.Outcomes.{handed_on}
use Prim.Native.Nat.{ℕ}
use mathlib.Core.Path.{◌≡◌, sym, ap, ◌∙◌}
use mathlib.Core.List.{List}
use lib.ListN.{length}
use lib.Ieee.{Float}
use borrow.Author.Rules.{rules}
use Rattle.outcome.specs.Outcome.{answer, verdict, outcome_of, on_answer}
use Rattle.pauli_word.proofs.Planes.{bytes_of_lem}
use Rattle.elements.specs.HeldGroup.{encode_all}
use Rattle.group.specs.declared.Group.{Group}
use Rattle.group.specs.Value.{group_in, generators_of, AcceptedGroup}
use Rattle.group.specs.Calls.{value_checks}
use Rattle.pauli_word.specs.Bytes.{Bytes}
use Rattle.group.proofs.Accepted.{value_fine, value-accepted, accepted_tables}
use Rattle.row_lists.specs.Rows.{in_full_by, rows_in, rows_in_full}
use Rattle.row_lists.specs.Checks.{AcceptedRows}
use Rattle.row_lists.proofs.ListChecks.{Agreeing, agreed_size}
use Rattle.row_words.specs.Words.{words_filled}
use Rattle.sum_rows.specs.Sums.{fold_outcome, sums_filled, counts_filled, handed_back}
use Rattle.sum_rows.specs.Rows.{byte_sums}
use Rattle.merge.specs.Calls.{sum_checks, least_rows}
use Rattle.merge.proofs.SumChecks.{passed-value, passed-lengths, passed-rows}
use Rattle.merge.proofs.SumCalls.{least-bytes, refused-outcome, refused-words, refused-sums, refused-counts, folded-outcome, folded-words, folded-sums, folded-counts}
use Rattle.merge.proofs.canonicalize_pauli_sum.Goals as goal

-- accepted rows, past the checks
rows :
    (g : Group) (words : List ℕ) (cs : List Float) (i j k : ℕ) → verdict (sum_checks g words cs i j k) ≡ answer tt → Bytes words
    → AcceptedRows g.sites (rows_in_full (length cs) words) (length cs)
rows g words cs i j k pass small = passed-rows g words cs i j k pass (value_fine g (passed-value g words cs i j k pass)).0 small

pub representatives-requires : goal.representatives-requires
representatives-requires c =
    let a = c.args in
    let g = group_in a.group.now.sites a.group.now.generators a.group.now.orders.now a.group.now.targets.now in
    let words = a.words.now in
    let cs = a.coefficients.now in
    let i = length a.representatives.now in
    let j = length a.sums.now in
    let k = length a.counts.now in
    let pass : verdict (sum_checks g words cs i j k) ≡ answer tt = sym c.sum_checked.ensures ∙ ap outcome_of c.in_ok-sum_checked.was in
    let accepted : AcceptedGroup g = value-accepted g (search rules) (search rules) (passed-value g words cs i j k pass) in
    let sized = c.row_size-size.ensures in record {
      tables = accepted_tables g accepted;
      either_length = agreed_size (passed-lengths g words cs i j k pass) sized;
      accepted_rows = rw sized (rows g words cs i j k pass (bytes_of_lem a.words.now (λ i. (c.shared_slice_known-1.given i).fits)));
      out_len = (passed-lengths g words cs i j k pass).leasts_long;
    }

pub fold_rows-requires : goal.fold_rows-requires
fold_rows-requires c =
    let a = c.args in
    let g = group_in a.group.now.sites a.group.now.generators a.group.now.orders.now a.group.now.targets.now in
    let words = a.words.now in
    let cs = a.coefficients.now in
    let i = length a.representatives.now in
    let j = length a.sums.now in
    let k = length a.counts.now in
    let pass : verdict (sum_checks g words cs i j k) ≡ answer tt = sym c.sum_checked.ensures ∙ ap outcome_of c.in_ok-sum_checked.was in
    let bytes = ap length c.representatives.ensures ∙ least-bytes _ _ _ (length a.coefficients.now) in record {
      coefficients_len_bound = (passed-lengths g words cs i j k pass).few;
      words_len = bytes;
      sums_len = (passed-lengths g words cs i j k pass).first_long;
      counts_len = (passed-lengths g words cs i j k pass).second_long;
    }

pub returns-in_err-sum_checked : goal.returns-in_err-sum_checked
returns-in_err-sum_checked c =
    let a = c.args in
    let why = c.in_err-sum_checked.field-0.0 in
    let e = sym c.sum_checked.ensures ∙ ap outcome_of c.in_err-sum_checked.was in record {
      answer = ap outcome_of (handed_on c.from_residual.result c.from_residual.ensures.1)
          ∙ refused-outcome (group_in c.args.group.now.sites c.args.group.now.generators c.args.group.now.orders.now c.args.group.now.targets.now) a.words.now a.coefficients.now a.representatives.now a.sums.now a.counts.now why e;
      representatives = refused-words (group_in c.args.group.now.sites c.args.group.now.generators c.args.group.now.orders.now c.args.group.now.targets.now) a.words.now a.coefficients.now a.representatives.now a.sums.now a.counts.now why e;
      sums = refused-sums (group_in c.args.group.now.sites c.args.group.now.generators c.args.group.now.orders.now c.args.group.now.targets.now) a.words.now a.coefficients.now a.representatives.now a.sums.now a.counts.now why e;
      counts = refused-counts (group_in c.args.group.now.sites c.args.group.now.generators c.args.group.now.orders.now c.args.group.now.targets.now) a.words.now a.coefficients.now a.representatives.now a.sums.now a.counts.now why e;
    }

pub returns : goal.returns
unfolding generators_of
returns c =
    let a = c.args in
    let g = group_in a.group.now.sites a.group.now.generators a.group.now.orders.now a.group.now.targets.now in
    let words = a.words.now in
    let cs = a.coefficients.now in
    let i = length a.representatives.now in
    let j = length a.sums.now in
    let k = length a.counts.now in
    let pass : verdict (sum_checks g words cs i j k) ≡ answer tt = sym c.sum_checked.ensures ∙ ap outcome_of c.in_ok-sum_checked.was in
    let accepted : AcceptedGroup g = value-accepted g (search rules) (search rules) (passed-value g words cs i j k pass) in
    let accepted_rows = rows g words cs i j k pass (bytes_of_lem a.words.now (λ i. (c.shared_slice_known-1.given i).fits)) in
    let stored =
    c.representatives.ensures
    ∙ ap (λ (size : ℕ). encode_all (least_rows (generators_of g) a.group.now.sites (in_full_by size (length cs) a.words.now) (length cs)))
    c.row_size-size.ensures
    in record {
      answer = c.fold_rows.ensures.answer ∙ ap (λ (w : List ℕ). on_answer length (fold_outcome byte_sums (rows_in w cs))) stored
          ∙ folded-outcome g a.words.now cs a.representatives.now a.sums.now a.counts.now pass accepted accepted_rows;
      representatives = c.fold_rows.ensures.words ∙ ap (λ (w : List ℕ). words_filled (length cs) (handed_back (fold_outcome byte_sums (rows_in w cs)))) stored
          ∙ folded-words g a.words.now cs a.representatives.now a.sums.now a.counts.now pass accepted accepted_rows;
      sums = c.fold_rows.ensures.sums ∙ ap (λ (w : List ℕ). sums_filled (length cs) (handed_back (fold_outcome byte_sums (rows_in w cs)))) stored
          ∙ folded-sums g a.words.now cs a.representatives.now a.sums.now a.counts.now pass accepted accepted_rows;
      counts = c.fold_rows.ensures.counts ∙ ap (λ (w : List ℕ). counts_filled (length cs) (handed_back (fold_outcome byte_sums (rows_in w cs)))) stored
          ∙ folded-counts g a.words.now cs a.representatives.now a.sums.now a.counts.now pass accepted accepted_rows;
    }
