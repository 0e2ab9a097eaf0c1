-- `canonicalize_in_sector` meets its contract: the checks pass or refuse, and `calls::sector_of` answers of the word in full (`sector-full`).
use Prim.Native.Nat.{ℕ}
use mathlib.Core.Path.{◌≡◌, sym, ap, ◌∙◌}
use mathlib.Core.List.{List}
use lib.ListN.{length}
use Rattle.outcome.specs.Outcome.{answer, verdict, outcome_of, on_answer, or_else}
use Rattle.outcome.proofs.Outcomes.{told-passes, handed_on}
use Rattle.pauli_word.specs.Bytes.{in_full}
use Rattle.pauli_word.proofs.Planes.{bytes_of_lem}
use Rattle.group.specs.declared.Group.{Group}
use Rattle.group.specs.Value.{group_lent, generators_of}
use Rattle.orbit.specs.Calls.{word_call_checks}
use Rattle.orbit.proofs.WordCalls.{call-sites, call_long, call_fits, full-passes, full-word}
use Rattle.momentum.specs.Calls.{sector_of, row_counter, sector_outcome}
use Rattle.momentum.proofs.Outcomes.{sector_refused, sector_full}
use borrow.Author.Rules.{rules}
use Rattle.momentum.proofs.canonicalize_in_sector.Goals as goal

pub in_full-full-requires : goal.in_full-full-requires
in_full-full-requires c = call_long (group_lent c.args.group.now) c.args.n c.args.word.now (told-passes (word_call_checks (group_lent c.args.group.now) c.args.n c.args.word.now) _ c.word_call_checked.ensures c.in_ok-word_call_checked.was)

pub sector_of-requires : goal.sector_of-requires
sector_of-requires c =
    let bytes = c.args.word.now in record {
      word_value = rw c.in_full-full.ensures (full-passes (group_lent c.args.group.now) c.args.n bytes (told-passes (word_call_checks (group_lent c.args.group.now) c.args.n c.args.word.now) _ c.word_call_checked.ensures c.in_ok-word_call_checked.was));
      accepted_word = rw c.in_full-full.ensures
          (full-word (group_lent c.args.group.now) c.args.n bytes (told-passes (word_call_checks (group_lent c.args.group.now) c.args.n c.args.word.now) _ c.word_call_checked.ensures c.in_ok-word_call_checked.was) (bytes_of_lem bytes (λ i. (c.shared_slice_known-1.given i).fits)));
    }

pub returns-in_err-word_call_checked : goal.returns-in_err-word_call_checked
returns-in_err-word_call_checked c =
    let counter = c.args.counter.now in
    let gs = generators_of (group_lent c.args.group.now) in
    let e =
    sector_refused (group_lent c.args.group.now) c.args.n c.args.word.now c.args.modes.now (length counter) c.in_err-word_call_checked.field-0.0
    (sym c.word_call_checked.ensures ∙ ap outcome_of c.in_err-word_call_checked.was)
    in record {
      answer = ap outcome_of (handed_on c.from_residual.result c.from_residual.ensures.1)
          ∙ sym (ap (on_answer sector_of) e);
      counter = sym (ap (or_else (row_counter gs counter) counter) e);
    }

pub returns : goal.returns
returns c =
    let g = (group_lent c.args.group.now) in
    let n = c.args.n in
    let bytes = c.args.word.now in
    let ks = c.args.modes.now in
    let counter = c.args.counter.now in
    let e =
    ap (λ (full : List ℕ). sector_outcome g c.args.group.now.sites full ks (length counter)) c.in_full-full.ensures
    ∙ ap (λ (k : ℕ). sector_outcome g k (in_full bytes) ks (length counter)) (sym (call-sites g n bytes (told-passes (word_call_checks (group_lent c.args.group.now) c.args.n c.args.word.now) _ c.word_call_checked.ensures c.in_ok-word_call_checked.was)))
    ∙ sector_full g n bytes (call_fits g n bytes (told-passes (word_call_checks (group_lent c.args.group.now) c.args.n c.args.word.now) _ c.word_call_checked.ensures c.in_ok-word_call_checked.was)) ks (length counter)
    in record {
      answer = c.sector_of.ensures.answer ∙ ap (on_answer sector_of) e;
      counter = c.sector_of.ensures.counter ∙ ap (or_else (row_counter (generators_of g) counter) counter) e;
    }
