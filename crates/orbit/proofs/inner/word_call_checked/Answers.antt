-- `inner::word_call_checked` meets its contract: each return is reached by the tests that decide it.
use mathlib.Core.Path.{sym, ◌∙◌}
use borrow.Author.Tests.{not-true, not-false}
use Rattle.pauli_word.proofs.Checks.{either-told}
use Rattle.group.specs.Value.{group_in}
use Rattle.orbit.proofs.WordCalls.{group-many, word-many, group-other, other_length, past-old, other-sites, bit-above, word-passes}
use Rattle.orbit.proofs.inner.word_call_checked.Goals as goal

pub returns-then-sites-gt-MAX_SITES : goal.returns-then-sites-gt-MAX_SITES
returns-then-sites-gt-MAX_SITES c = sym (group-many (group_in c.args.group.now.sites c.args.group.now.generators c.args.group.now.orders.now c.args.group.now.targets.now) c.args.n c.args.word.now c.if-sites-gt-MAX_SITES.true)

pub returns-then-n-gt-MAX_SITES : goal.returns-then-n-gt-MAX_SITES
returns-then-n-gt-MAX_SITES c = sym (word-many (group_in c.args.group.now.sites c.args.group.now.generators c.args.group.now.orders.now c.args.group.now.targets.now) c.args.n c.args.word.now c.if-sites-gt-MAX_SITES.false c.if-n-gt-MAX_SITES.true)

pub returns-then-not-is_group : goal.returns-then-not-is_group
returns-then-not-is_group c =
    sym
    (group-other (group_in c.args.group.now.sites c.args.group.now.generators c.args.group.now.orders.now c.args.group.now.targets.now) c.args.n c.args.word.now c.if-sites-gt-MAX_SITES.false c.if-n-gt-MAX_SITES.false
    (sym c.is_group.ensures ∙ not-true _ c.if-not-is_group.true-raw))

pub returns-then-not-either_length : goal.returns-then-not-either_length
returns-then-not-either_length c =
    sym
    (other_length (group_in c.args.group.now.sites c.args.group.now.generators c.args.group.now.orders.now c.args.group.now.targets.now) c.args.n c.args.word.now c.if-sites-gt-MAX_SITES.false c.if-n-gt-MAX_SITES.false (sym c.is_group.ensures ∙ not-false _ c.if-not-is_group.false-raw)
    (sym c.either_length.ensures ∙ not-true _ c.if-not-either_length.true-raw))

pub returns-then-past_old : goal.returns-then-past_old
returns-then-past_old c =
    sym
    (past-old (group_in c.args.group.now.sites c.args.group.now.generators c.args.group.now.orders.now c.args.group.now.targets.now) c.args.n c.args.word.now c.if-sites-gt-MAX_SITES.false c.if-n-gt-MAX_SITES.false (sym c.is_group.ensures ∙ not-false _ c.if-not-is_group.false-raw) (sym c.either_length.ensures ∙ not-false _ c.if-not-either_length.false-raw)
    (sym c.past_old.ensures ∙ c.if-past_old.true))

pub returns-then-n-sites : goal.returns-then-n-sites
returns-then-n-sites c =
    sym
    (other-sites (group_in c.args.group.now.sites c.args.group.now.generators c.args.group.now.orders.now c.args.group.now.targets.now) c.args.n c.args.word.now c.if-sites-gt-MAX_SITES.false c.if-n-gt-MAX_SITES.false (sym c.is_group.ensures ∙ not-false _ c.if-not-is_group.false-raw) (sym c.either_length.ensures ∙ not-false _ c.if-not-either_length.false-raw)
    (sym c.past_old.ensures ∙ c.if-past_old.false) c.if-n-sites.true)

pub clear_above-requires : goal.clear_above-requires
clear_above-requires c = either-told _ (sym c.either_length.ensures ∙ not-false _ c.if-not-either_length.false-raw)

pub returns-then-clear_above : goal.returns-then-clear_above
returns-then-clear_above c =
    sym
    (word-passes (group_in c.args.group.now.sites c.args.group.now.generators c.args.group.now.orders.now c.args.group.now.targets.now) c.args.n c.args.word.now c.if-sites-gt-MAX_SITES.false c.if-n-gt-MAX_SITES.false (sym c.is_group.ensures ∙ not-false _ c.if-not-is_group.false-raw) (sym c.either_length.ensures ∙ not-false _ c.if-not-either_length.false-raw)
    (sym c.past_old.ensures ∙ c.if-past_old.false) c.if-n-sites.false (sym c.clear_above.ensures ∙ c.if-clear_above.true))

pub returns-else-clear_above : goal.returns-else-clear_above
returns-else-clear_above c =
    sym
    (bit-above (group_in c.args.group.now.sites c.args.group.now.generators c.args.group.now.orders.now c.args.group.now.targets.now) c.args.n c.args.word.now c.if-sites-gt-MAX_SITES.false c.if-n-gt-MAX_SITES.false (sym c.is_group.ensures ∙ not-false _ c.if-not-is_group.false-raw) (sym c.either_length.ensures ∙ not-false _ c.if-not-either_length.false-raw)
    (sym c.past_old.ensures ∙ c.if-past_old.false) c.if-n-sites.false (sym c.clear_above.ensures ∙ c.if-clear_above.false))
