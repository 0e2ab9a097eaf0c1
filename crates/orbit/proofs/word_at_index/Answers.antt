-- `word_at_index` meets its contract: the checks pass or refuse, and `calls::word_of` answers of the word in full (`word-at-full`).
use Prim.Native.Nat.{ℕ}
use mathlib.Core.Path.{sym, ap, ◌∙◌}
use mathlib.Core.List.{List}
use Rattle.outcome.specs.Outcome.{on_answer, outcome_of}
use Rattle.outcome.proofs.Outcomes.{told-passes, handed_on}
use Rattle.pauli_word.specs.Bytes.{bytes_of, in_full}
use Rattle.pauli_word.proofs.Planes.{bytes_of_lem}
use Rattle.group.specs.Value.{group_in}
use Rattle.orbit.specs.Calls.{word_call_checks, word_at_outcome}
use Rattle.orbit.proofs.WordCalls.{call-sites, call_long, call_fits, full-passes, full-word}
use Rattle.orbit.proofs.Outcomes.{at-refused, word-at-full}
use Rattle.orbit.proofs.word_at_index.Goals as goal

pub in_full-full-requires : goal.in_full-full-requires
in_full-full-requires c = call_long (group_in c.args.group.now.sites c.args.group.now.generators c.args.group.now.orders.now c.args.group.now.targets.now) c.args.n c.args.word.now (told-passes (word_call_checks (group_in c.args.group.now.sites c.args.group.now.generators c.args.group.now.orders.now c.args.group.now.targets.now) c.args.n c.args.word.now) _ c.word_call_checked.ensures c.in_ok-word_call_checked.was)

pub word_of-requires : goal.word_of-requires
word_of-requires c =
    let bytes = c.args.word.now in record {
      word_value = rw c.in_full-full.ensures (full-passes (group_in c.args.group.now.sites c.args.group.now.generators c.args.group.now.orders.now c.args.group.now.targets.now) c.args.n bytes (told-passes (word_call_checks (group_in c.args.group.now.sites c.args.group.now.generators c.args.group.now.orders.now c.args.group.now.targets.now) c.args.n c.args.word.now) _ c.word_call_checked.ensures c.in_ok-word_call_checked.was));
      accepted_word = rw c.in_full-full.ensures
          (full-word (group_in c.args.group.now.sites c.args.group.now.generators c.args.group.now.orders.now c.args.group.now.targets.now) c.args.n bytes (told-passes (word_call_checks (group_in c.args.group.now.sites c.args.group.now.generators c.args.group.now.orders.now c.args.group.now.targets.now) c.args.n c.args.word.now) _ c.word_call_checked.ensures c.in_ok-word_call_checked.was) (bytes_of_lem bytes (λ i. (c.shared_slice_known-1.given i).fits)));
    }

pub returns-in_err-word_call_checked : goal.returns-in_err-word_call_checked
returns-in_err-word_call_checked c =
    ap outcome_of (handed_on c.from_residual.result c.from_residual.ensures.1)
    ∙ sym
    (ap (on_answer bytes_of)
    (at-refused (group_in c.args.group.now.sites c.args.group.now.generators c.args.group.now.orders.now c.args.group.now.targets.now) c.args.n c.args.word.now c.args.index c.word_call_checked.ensures c.in_err-word_call_checked.was))

pub returns : goal.returns
returns c =
    let g = group_in c.args.group.now.sites c.args.group.now.generators c.args.group.now.orders.now c.args.group.now.targets.now in
    let n = c.args.n in
    let bytes = c.args.word.now in
    let index = c.args.index in
    let e =
    ap (λ (full : List ℕ). word_at_outcome g c.args.group.now.sites full index) c.in_full-full.ensures
    ∙ ap (λ (k : ℕ). word_at_outcome g k (in_full bytes) index) (sym (call-sites g n bytes (told-passes (word_call_checks (group_in c.args.group.now.sites c.args.group.now.generators c.args.group.now.orders.now c.args.group.now.targets.now) c.args.n c.args.word.now) _ c.word_call_checked.ensures c.in_ok-word_call_checked.was)))
    ∙ word-at-full g n bytes (call_fits g n bytes (told-passes (word_call_checks (group_in c.args.group.now.sites c.args.group.now.generators c.args.group.now.orders.now c.args.group.now.targets.now) c.args.n c.args.word.now) _ c.word_call_checked.ensures c.in_ok-word_call_checked.was)) index
    in c.word_of.ensures ∙ ap (on_answer bytes_of) e
