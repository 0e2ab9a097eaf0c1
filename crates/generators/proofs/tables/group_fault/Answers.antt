-- `tables::group_fault` meets its contract: each return is reached by what the functions that look for a fault found.
use mathlib.Core.Path.{◌≡◌, sym, ap, ◌∙◌}
use mathlib.Core.Bool.{false}
use mathlib.Core.List.{[], ◌∷◌}
use native.Mathlib.Omega.{arith}
use lib.ListN.{take}
use Rattle.permutation.specs.Generators.{orders_check, pairs_check, order_overflow, order_limit, rows_of}
use Rattle.outcome.specs.Outcome.{outcome_of}
use Rattle.outcome.proofs.Outcomes.{refused-broken, answered-fine, first-refuses, handed_on}
use Rattle.generators.proofs.Faults.{group-pair, group-beyond, group-large, group-fine}
use Rattle.generators.proofs.Rows.{row_inside, orders-positive}
use Rattle.generators.proofs.tables.group_fault.Goals as goal
use Rattle.generators.proofs.tables.group_fault.Lts as lts
use Rattle.generators.proofs.tables.group_fault.Tie as tie
use Rattle.generators.proofs.tables.group_fault.Reads as reads

abbrev ctx-After-known_told : Type 0
ctx-After-known_told = lts.Past-After-known_told tie.the-claims reads.Pre reads.Post tie.handed_clauses

abbrev ctx-After-known_told3 : Type 0
ctx-After-known_told3 = lts.Past-After-known_told3 tie.the-claims reads.Pre reads.Post tie.handed_clauses

-- the orders break no rule
ordered :
    (c : ctx-After-known_told)
    → let a = c.args in
    ((orders_check 0 (rows_of a.group.now.generators a.group.now.sites a.group.now.targets.now) (take a.group.now.generators a.group.now.orders.now)).broken ≡ false)
ordered c =
    let a = c.args in
    answered-fine (orders_check 0 (rows_of a.group.now.generators a.group.now.sites a.group.now.targets.now) (take a.group.now.generators a.group.now.orders.now))
    (sym (ap outcome_of c.in_ok-orders_fault.was) ∙ c.orders_fault.ensures)

-- every two generators commute
commuting :
    (c : ctx-After-known_told3)
    → let a = c.args in
    ((pairs_check a.group.now.sites 0 (rows_of a.group.now.generators a.group.now.sites a.group.now.targets.now)).broken ≡ false)
commuting c =
    let a = c.args in
    answered-fine (pairs_check a.group.now.sites 0 (rows_of a.group.now.generators a.group.now.sites a.group.now.targets.now))
    (sym (ap outcome_of c.in_ok-first_pair.was) ∙ c.first_pair.ensures)

pub returns-in_err-orders_fault : goal.returns-in_err-orders_fault
returns-in_err-orders_fault c =
    ap outcome_of (handed_on c.from_residual.result c.from_residual.ensures.1)
    ∙ (let a = c.args in
    let why = c.in_err-orders_fault.field-0.0 in
    let e = sym (ap outcome_of c.in_err-orders_fault.was) ∙ c.orders_fault.ensures in
    let perms = rows_of a.group.now.generators a.group.now.sites a.group.now.targets.now in
    let orders = take a.group.now.generators a.group.now.orders.now in
    let check = orders_check 0 perms orders in
    e ∙ sym (first-refuses check (pairs_check a.group.now.sites 0 perms ∷ order_overflow orders ∷ order_limit orders ∷ []) (refused-broken check why e)))

pub first_pair-requires : goal.first_pair-requires
first_pair-requires c = record {
  targets_len = (c.requires.targets_len.0, c.requires.targets_len.2, c.requires.targets_len.3);
  by_index = λ g q h k. row_inside c.args.group.now.sites c.args.group.now.targets.now g (c.requires.by_index g h) q k;
}

pub returns-in_err-first_pair : goal.returns-in_err-first_pair
returns-in_err-first_pair c =
    ap outcome_of (handed_on c.from_residual-in_err-first_pair.result c.from_residual-in_err-first_pair.ensures.1)
    ∙ (let a = c.args in
    let e = sym (ap outcome_of c.in_err-first_pair.was) ∙ c.first_pair.ensures in
    e
    ∙ sym
    (group-pair (take a.group.now.generators a.group.now.orders.now) a.group.now.sites (rows_of a.group.now.generators a.group.now.sites a.group.now.targets.now) (ordered c.before.before.before.before) c.in_err-first_pair.field-0.0 e))

pub group_order-requires : goal.group_order-requires
group_order-requires c =
    let a = c.args in record {
      generators_in_bounds = omega arith;
      by_index = orders-positive a.group.now.generators a.group.now.sites a.group.now.targets.now a.group.now.orders.now (omega arith) (ordered c.before.before.before.before);
    }

pub returns-in_default : goal.returns-in_default
returns-in_default c =
    let a = c.args in
    let perms = rows_of a.group.now.generators a.group.now.sites a.group.now.targets.now in
    let orders = take a.group.now.generators a.group.now.orders.now in
    sym
    (group-beyond orders a.group.now.sites perms (ordered c.before.before.before.before.before.before) (commuting c.before.before.before) c.in_default.field-0
    (sym c.group_order.ensures ∙ ap outcome_of c.in_default.is))

pub returns-then-order-gt-MAX_ORDER : goal.returns-then-order-gt-MAX_ORDER
returns-then-order-gt-MAX_ORDER c =
    let a = c.args in
    let perms = rows_of a.group.now.generators a.group.now.sites a.group.now.targets.now in
    let orders = take a.group.now.generators a.group.now.orders.now in
    sym
    (group-large orders a.group.now.sites perms (ordered c.before.before.before.before.before.before.before) (commuting c.before.before.before.before) c.in-Ok.order
    (sym c.group_order.ensures ∙ ap outcome_of c.in-Ok.is) c.if-order-gt-MAX_ORDER.true)

pub returns : goal.returns
returns c =
    let a = c.args in
    let perms = rows_of a.group.now.generators a.group.now.sites a.group.now.targets.now in
    let orders = take a.group.now.generators a.group.now.orders.now in
    sym
    (group-fine orders a.group.now.sites perms (ordered c.before.before.before.before.before.before.before) (commuting c.before.before.before.before) c.in-Ok.order
    (sym c.group_order.ensures ∙ ap outcome_of c.in-Ok.is) c.if-order-gt-MAX_ORDER.false)
