-- `lent::orbit` meets its contract: the checks pass or refuse, and a walk of an accepted word begins at that word in full.
use Prim.Native.Nat.{ℕ}
use mathlib.Core.Path.{sym, ap, ◌∙◌}
use mathlib.Core.List.{List}
use Rattle.outcome.specs.Outcome.{Outcome, answer, on_answer, outcome_of}
use Rattle.outcome.proofs.Outcomes.{told-passes, told-refused, call-answers, handed_on}
use Rattle.pauli_word.specs.Bytes.{in_full}
use Rattle.group.specs.Value.{group_in}
use Rattle.orbit.specs.Calls.{word_call_checks, begin_outcome, beginning, walk_in}
use Rattle.orbit.specs.declared.lent.Beginning.{Beginning}
use Rattle.orbit.proofs.WordCalls.{call_long}
use Rattle.orbit.proofs.lent.orbit.Goals as goal

-- a beginning at a word
abbrev begun_at : List ℕ → Outcome Beginning
begun_at word = answer (record { at = word; index = 0 })

pub in_full-requires : goal.in_full-requires
in_full-requires c = call_long (group_in c.args.group.now.sites c.args.group.now.generators c.args.group.now.orders.now c.args.group.now.targets.now) c.args.n c.args.word.now (told-passes (word_call_checks (group_in c.args.group.now.sites c.args.group.now.generators c.args.group.now.orders.now c.args.group.now.targets.now) c.args.n c.args.word.now) _ c.word_call_checked.ensures c.in_ok-word_call_checked.was)

pub returns-in_err-word_call_checked : goal.returns-in_err-word_call_checked
unfolding begin_outcome
returns-in_err-word_call_checked c =
    let g = group_in c.args.group.now.sites c.args.group.now.generators c.args.group.now.orders.now c.args.group.now.targets.now in
    let bytes = c.args.word.now in
    let e = told-refused (word_call_checks g c.args.n bytes) _ c.word_call_checked.ensures (answer (walk_in g (in_full bytes) 0)) c.in_err-word_call_checked.was in
    ap outcome_of (handed_on c.from_residual.result c.from_residual.ensures.1)
    ∙ sym (ap (on_answer beginning) e)

pub returns : goal.returns
unfolding begin_outcome
returns c =
    let g = group_in c.args.group.now.sites c.args.group.now.generators c.args.group.now.orders.now c.args.group.now.targets.now in
    let bytes = c.args.word.now in
    let e = call-answers (word_call_checks g c.args.n bytes) (answer (walk_in g (in_full bytes) 0)) (told-passes (word_call_checks (group_in c.args.group.now.sites c.args.group.now.generators c.args.group.now.orders.now c.args.group.now.targets.now) c.args.n c.args.word.now) _ c.word_call_checked.ensures c.in_ok-word_call_checked.was) in
    ap begun_at c.in_full.ensures ∙ sym (ap (on_answer beginning) e)
