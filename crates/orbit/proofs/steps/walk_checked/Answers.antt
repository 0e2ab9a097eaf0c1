-- `steps::walk_checked` meets its contract: each return is reached by the tests that decide it.
use mathlib.Core.Path.{sym, ap, ◌∙◌}
use mathlib.Core.Logic.{inl}
use native.Mathlib.Omega.{arith}
use borrow.Author.Tests.{not-true, not-false}
use Rattle.outcome.specs.Outcome.{outcome_of}
use Rattle.outcome.proofs.Outcomes.{told-passes, handed_on}
use Rattle.pauli_word.specs.Calls.{clear_above}
use Rattle.pauli_word.proofs.Forms.{full_same}
use Rattle.group.specs.Value.{group_in, generators_of}
use Rattle.group.specs.Calls.{value_checks}
use Rattle.group.proofs.Accepted.{value-accepted, accepted_tables}
use Rattle.orbit.specs.Calls.{walk_in}
use Rattle.orbit.proofs.Walking.{walk_refused, other_word, past-order, walk-passes}
use borrow.Author.Rules.{rules}
use Rattle.orbit.proofs.steps.walk_checked.Goals as goal

pub clear_above-requires : goal.clear_above-requires
clear_above-requires c = inl c.requires

pub returns-then-not-clear_above : goal.returns-then-not-clear_above
returns-then-not-clear_above c =
    sym
    (other_word (walk_in (group_in c.args.group.now.sites c.args.group.now.generators c.args.group.now.orders.now c.args.group.now.targets.now) c.args.at.now c.args.index) (told-passes (value_checks (group_in c.args.group.now.sites c.args.group.now.generators c.args.group.now.orders.now c.args.group.now.targets.now)) _ c.value_checked.ensures c.in_ok-value_checked.was)
    (ap (clear_above c.args.group.now.sites) (sym (full_same c.args.at.now c.requires)) ∙ sym c.clear_above.ensures ∙ not-true _ c.if-not-clear_above.true-raw))

pub order-requires : goal.order-requires
order-requires c =
    accepted_tables (group_in c.args.group.now.sites c.args.group.now.generators c.args.group.now.orders.now c.args.group.now.targets.now) (value-accepted (group_in c.args.group.now.sites c.args.group.now.generators c.args.group.now.orders.now c.args.group.now.targets.now) (search rules) (search rules) (told-passes (value_checks (group_in c.args.group.now.sites c.args.group.now.generators c.args.group.now.orders.now c.args.group.now.targets.now)) _ c.value_checked.ensures c.in_ok-value_checked.was))

pub returns-in_err-value_checked : goal.returns-in_err-value_checked
returns-in_err-value_checked c =
    ap outcome_of (handed_on c.from_residual.result c.from_residual.ensures.1)
    ∙ (sym (walk_refused (walk_in (group_in c.args.group.now.sites c.args.group.now.generators c.args.group.now.orders.now c.args.group.now.targets.now) c.args.at.now c.args.index) c.in_err-value_checked.field-0.0 (sym c.value_checked.ensures ∙ ap outcome_of c.in_err-value_checked.was)))

pub returns-then-order-index : goal.returns-then-order-index
unfolding generators_of
returns-then-order-index c =
    sym (past-order (walk_in (group_in c.args.group.now.sites c.args.group.now.generators c.args.group.now.orders.now c.args.group.now.targets.now) c.args.at.now c.args.index) (told-passes (value_checks (group_in c.args.group.now.sites c.args.group.now.generators c.args.group.now.orders.now c.args.group.now.targets.now)) _ c.value_checked.ensures c.in_ok-value_checked.was) (ap (clear_above c.args.group.now.sites) (sym (full_same c.args.at.now c.requires)) ∙ sym c.clear_above.ensures ∙ not-false _ c.if-not-clear_above.false-raw) (omega (arith, c.if-order-index.true, c.order.ensures)))

pub returns-else-order-index : goal.returns-else-order-index
unfolding generators_of
returns-else-order-index c =
    sym (walk-passes (walk_in (group_in c.args.group.now.sites c.args.group.now.generators c.args.group.now.orders.now c.args.group.now.targets.now) c.args.at.now c.args.index) (told-passes (value_checks (group_in c.args.group.now.sites c.args.group.now.generators c.args.group.now.orders.now c.args.group.now.targets.now)) _ c.value_checked.ensures c.in_ok-value_checked.was) (ap (clear_above c.args.group.now.sites) (sym (full_same c.args.at.now c.requires)) ∙ sym c.clear_above.ensures ∙ not-false _ c.if-not-clear_above.false-raw) (omega (arith, c.if-order-index.false, c.order.ensures)))
