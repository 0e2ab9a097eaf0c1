-- `try_from_generators` meets its contract: each refusal is reached by the tests that decide it, and what is left is what `make::made` does.
use Prim.Native.Nat.{ℕ}
use mathlib.Core.Path.{sym, ap, ◌∙◌}
use native.Mathlib.Omega.{arith}
use lib.ListN.{length}
use Rattle.outcome.specs.Outcome.{refusal_of, outcome_of}
use Rattle.outcome.specs.declared.Refusal.TheVariants as Refusal
use Rattle.group.proofs.Making.{scan-inside, scan-whole, refused-made, many-sites, ends-early, many-generators, other-count}
use Rattle.group.proofs.try_from_generators.Goals as goal

pub returns-then-sites-gt-MAX_SITES : goal.returns-then-sites-gt-MAX_SITES
returns-then-sites-gt-MAX_SITES c =
    let a = c.args in
    refused-made a.sites a.list.now a.orders.now Refusal.TooManySites (many-sites a.sites a.list.now a.orders.now c.if-sites-gt-MAX_SITES.true)

pub returns-in_default : goal.returns-in_default
returns-in_default c =
    let a = c.args in
    refused-made a.sites a.list.now a.orders.now Refusal.ListEndsInside
    (ends-early a.sites a.list.now a.orders.now c.if-sites-gt-MAX_SITES.false
    (scan-inside a.list.now c.in_default.field-0 (sym c.count_generators.ensures ∙ ap outcome_of c.in_default.is)))

pub returns-then-count-gt-MAX_GENERATORS : goal.returns-then-count-gt-MAX_GENERATORS
returns-then-count-gt-MAX_GENERATORS c =
    let a = c.args in
    let (whole, count) = scan-whole a.list.now c.in-Ok.count (sym c.count_generators.ensures ∙ ap outcome_of c.in-Ok.is) in
    refused-made a.sites a.list.now a.orders.now Refusal.TooManyGenerators
    (many-generators a.sites a.list.now a.orders.now c.if-sites-gt-MAX_SITES.false whole
    (omega (arith, count, c.if-count-gt-MAX_GENERATORS.true)))

pub returns-then-count-orders : goal.returns-then-count-orders
returns-then-count-orders c =
    let a = c.args in
    let k = c.in-Ok.count in
    let (whole, count) = scan-whole a.list.now k (sym c.count_generators.ensures ∙ ap outcome_of c.in-Ok.is) in
    refused-made a.sites a.list.now a.orders.now (Refusal.LengthMismatch k (length a.orders.now))
    (other-count a.sites a.list.now a.orders.now c.if-sites-gt-MAX_SITES.false whole
    (omega (arith, count, c.if-count-gt-MAX_GENERATORS.false))
    (λ e. c.if-count-orders.true (count ∙ e))
    ∙ ap (λ (j : ℕ). refusal_of (Refusal.LengthMismatch j (length a.orders.now))) (sym count))

pub made-requires : goal.made-requires
made-requires c =
    let (whole, count) = scan-whole c.args.list.now c.in-Ok.count (sym c.count_generators.ensures ∙ ap outcome_of c.in-Ok.is) in
    (c.if-sites-gt-MAX_SITES.false, whole, count, c.if-count-gt-MAX_GENERATORS.false, c.if-count-orders.false)
