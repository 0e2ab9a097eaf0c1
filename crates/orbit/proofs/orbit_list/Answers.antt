-- `orbit_list` meets its contract: the checks pass or refuse, and `calls::orbit_of` answers of the word in full (`orbit-list-full`).
use Prim.Native.Nat.{ℕ}
use mathlib.Core.Path.{sym, ap, ◌∙◌}
use mathlib.Core.List.{List}
use lib.ListN.{length}
use Rattle.outcome.specs.Outcome.{answer, on_answer, or_else, done, outcome_of}
use Rattle.outcome.proofs.Outcomes.{told-passes, handed_on}
use Rattle.pauli_word.specs.Bytes.{in_full}
use Rattle.pauli_word.proofs.Planes.{bytes_of_lem}
use Rattle.group.specs.Value.{group_in}
use Rattle.elements.specs.HeldGroup.{encode_all}
use Rattle.orbit.specs.Calls.{word_call_checks, orbit_list_outcome}
use Rattle.orbit.proofs.WordCalls.{call-sites, call_long, call_fits, full-passes, full-word}
use Rattle.orbit.proofs.Outcomes.{list-refused, orbit-list-full}
use Rattle.orbit.proofs.orbit_list.Goals as goal

pub in_full-full-requires : goal.in_full-full-requires
in_full-full-requires c = call_long (group_in c.args.group.now.sites c.args.group.now.generators c.args.group.now.orders.now c.args.group.now.targets.now) c.args.n c.args.word.now (told-passes (word_call_checks (group_in c.args.group.now.sites c.args.group.now.generators c.args.group.now.orders.now c.args.group.now.targets.now) c.args.n c.args.word.now) _ c.word_call_checked.ensures c.in_ok-word_call_checked.was)

pub orbit_of-requires : goal.orbit_of-requires
orbit_of-requires c =
    let bytes = c.args.word.now in record {
      word_value = rw c.in_full-full.ensures (full-passes (group_in c.args.group.now.sites c.args.group.now.generators c.args.group.now.orders.now c.args.group.now.targets.now) c.args.n bytes (told-passes (word_call_checks (group_in c.args.group.now.sites c.args.group.now.generators c.args.group.now.orders.now c.args.group.now.targets.now) c.args.n c.args.word.now) _ c.word_call_checked.ensures c.in_ok-word_call_checked.was));
      accepted_word = rw c.in_full-full.ensures
          (full-word (group_in c.args.group.now.sites c.args.group.now.generators c.args.group.now.orders.now c.args.group.now.targets.now) c.args.n bytes (told-passes (word_call_checks (group_in c.args.group.now.sites c.args.group.now.generators c.args.group.now.orders.now c.args.group.now.targets.now) c.args.n c.args.word.now) _ c.word_call_checked.ensures c.in_ok-word_call_checked.was) (bytes_of_lem bytes (λ i. (c.shared_slice_known-1.given i).fits)));
    }

pub returns-in_err-word_call_checked : goal.returns-in_err-word_call_checked
returns-in_err-word_call_checked c =
    let list = c.args.list.now in
    let e = list-refused (group_in c.args.group.now.sites c.args.group.now.generators c.args.group.now.orders.now c.args.group.now.targets.now) c.args.n c.args.word.now (length list) c.word_call_checked.ensures c.in_err-word_call_checked.was in record {
      answer = ap outcome_of (handed_on c.from_residual.result c.from_residual.ensures.1)
          ∙ sym (ap (on_answer done) e);
      list = sym (ap (or_else encode_all list) e);
    }

pub returns : goal.returns
returns c =
    let g = group_in c.args.group.now.sites c.args.group.now.generators c.args.group.now.orders.now c.args.group.now.targets.now in
    let n = c.args.n in
    let bytes = c.args.word.now in
    let list = c.args.list.now in
    let e =
    ap (λ (full : List ℕ). orbit_list_outcome g c.args.group.now.sites full (length list)) c.in_full-full.ensures
    ∙ ap (λ (k : ℕ). orbit_list_outcome g k (in_full bytes) (length list)) (sym (call-sites g n bytes (told-passes (word_call_checks (group_in c.args.group.now.sites c.args.group.now.generators c.args.group.now.orders.now c.args.group.now.targets.now) c.args.n c.args.word.now) _ c.word_call_checked.ensures c.in_ok-word_call_checked.was)))
    ∙ orbit-list-full g n bytes (call_fits g n bytes (told-passes (word_call_checks (group_in c.args.group.now.sites c.args.group.now.generators c.args.group.now.orders.now c.args.group.now.targets.now) c.args.n c.args.word.now) _ c.word_call_checked.ensures c.in_ok-word_call_checked.was)) (length list)
    in record {
      answer = c.orbit_of.ensures.answer ∙ ap (on_answer done) e;
      list = c.orbit_of.ensures.list ∙ ap (or_else encode_all list) e;
    }
