-- `rules::rules_kept` meets its contract: each rule decides, where those before it hold.
use mathlib.Core.Path.{◌≡◌, refl}
use mathlib.Core.Bool.{true}
use borrow.Author.Rules.{rules}
use Rattle.phases.specs.declared.PhaseTable.{PhaseTable}
use Rattle.phases.specs.Rules.{turn, quarter, table_of, each_below, first_right, turned_right, order_right, product_right, rules_test}
use Rattle.phases.proofs.Steps.{passed, failed}
use Rattle.phases.proofs.rules.rules_kept.Goals as goal
use Rattle.phases.proofs.rules.rules_kept.Lts as lts
use Rattle.phases.proofs.rules.rules_kept.Tie as tie
use Rattle.phases.proofs.rules.rules_kept.Reads as reads

abbrev ctx-Start : Type 0
ctx-Start = lts.Start tie.the-claims reads.Pre reads.Post tie.handed_clauses

abbrev ctx-Else1 : Type 0
ctx-Else1 = lts.Else1 tie.the-claims reads.Pre reads.Post tie.handed_clauses

abbrev ctx-Else2 : Type 0
ctx-Else2 = lts.Else2 tie.the-claims reads.Pre reads.Post tie.handed_clauses

abbrev ctx-Else3 : Type 0
ctx-Else3 = lts.Else3 tie.the-claims reads.Pre reads.Post tie.handed_clauses

abbrev ctx-Else4 : Type 0
ctx-Else4 = lts.Else4 tie.the-claims reads.Pre reads.Post tie.handed_clauses

abbrev table : ctx-Start → PhaseTable
table s = table_of s.args.cosines.now s.args.sines.now

-- the rules that hold

first_holds : (c : ctx-Else1) → first_right (table c.before.before) ≡ true
first_holds c = passed c.first_right.ensures c.if-not-first_right.false-raw

turned-holds : (c : ctx-Else2) → each_below (turned_right (table c.before.before.before.before)) turn ≡ true
turned-holds c = passed c.turned_kept.ensures c.if-not-turned_kept.false-raw

order-holds : (c : ctx-Else3) → each_below (order_right (table c.before.before.before.before.before.before)) quarter ≡ true
order-holds c = passed c.order_kept.ensures c.if-not-order_kept.false-raw

product-holds : (c : ctx-Else4) → each_below (product_right (table c.before.before.before.before.before.before.before.before)) turn ≡ true
product-holds c = passed c.product_kept.ensures c.if-not-product_kept.false-raw

pub returns-then-not-first_right : goal.returns-then-not-first_right
unfolding rules_test
returns-then-not-first_right c = rw (failed c.first_right.ensures c.if-not-first_right.true-raw) refl

pub returns-then-not-turned_kept : goal.returns-then-not-turned_kept
unfolding rules_test
returns-then-not-turned_kept c = rw (first_holds c.before.before, failed c.turned_kept.ensures c.if-not-turned_kept.true-raw) refl

pub returns-then-not-order_kept : goal.returns-then-not-order_kept
unfolding rules_test
returns-then-not-order_kept c =
    rw (first_holds c.before.before.before.before, turned-holds c.before.before, failed c.order_kept.ensures c.if-not-order_kept.true-raw) refl

pub returns-then-not-product_kept : goal.returns-then-not-product_kept
unfolding rules_test
returns-then-not-product_kept c =
    rw (first_holds c.before.before.before.before.before.before, turned-holds c.before.before.before.before, order-holds c.before.before, failed c.product_kept.ensures c.if-not-product_kept.true-raw) refl

pub returns : goal.returns
unfolding rules_test
returns c =
    rw (first_holds c.before.before.before.before.before.before.before, turned-holds c.before.before.before.before.before, order-holds c.before.before.before, product-holds c.before) c.norm_kept.ensures
