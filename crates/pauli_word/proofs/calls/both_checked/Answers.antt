-- `calls::both_checked` meets its contract: each return is reached by the tests that decide it.
use mathlib.Core.Path.{◌≡◌, sym, ◌∙◌}
use mathlib.Core.Bool.{true}
use lib.ListN.{length}
use borrow.Author.Tests.{not-true, not-false}
use Rattle.pauli_word.specs.Calls.{either_length}
use Rattle.pauli_word.proofs.Checks.{either-told, compare-many, compare-first, compare-second, compare-old, compare-old-second, compare-left}
use Rattle.pauli_word.proofs.calls.both_checked.Goals as goal
use Rattle.pauli_word.proofs.calls.both_checked.Lts as lts
use Rattle.pauli_word.proofs.calls.both_checked.Tie as tie
use Rattle.pauli_word.proofs.calls.both_checked.Reads as reads

abbrev ctx-Else2 : Type 0
ctx-Else2 = lts.Else2 tie.the-claims reads.Pre reads.Post

abbrev ctx-Else3 : Type 0
ctx-Else3 = lts.Else3 tie.the-claims reads.Pre reads.Post

pub returns-then-n-gt-MAX_SITES : goal.returns-then-n-gt-MAX_SITES
returns-then-n-gt-MAX_SITES c = let a = c.args in sym (compare-many a.n a.a.now a.b.now c.if-n-gt-MAX_SITES.true)

pub returns-then-not-either_length : goal.returns-then-not-either_length
returns-then-not-either_length c =
    let a = c.args in
    sym
    (compare-first a.n a.a.now a.b.now c.if-n-gt-MAX_SITES.false
    (sym c.either_length.ensures ∙ not-true _ c.if-not-either_length.true-raw))

-- the length of the first word is one of the two, and then that of the second
first : (c : ctx-Else2) → let a = c.args in (either_length (length a.a.now) ≡ true)
first c = sym c.either_length.ensures ∙ not-false _ c.if-not-either_length.false-raw

pub returns-then-not-either_length-2 : goal.returns-then-not-either_length-2
returns-then-not-either_length-2 c =
    let a = c.args in
    sym
    (compare-second a.n a.a.now a.b.now c.if-n-gt-MAX_SITES.false (first c.before.before.before)
    (sym c.either_length-2.ensures ∙ not-true _ c.if-not-either_length-2.true-raw))

second : (c : ctx-Else3) → let a = c.args in (either_length (length a.b.now) ≡ true)
second c = sym c.either_length-2.ensures ∙ not-false _ c.if-not-either_length-2.false-raw

pub returns-then-past_old : goal.returns-then-past_old
returns-then-past_old c =
    let a = c.args in
    sym
    (compare-old a.n a.a.now a.b.now c.if-n-gt-MAX_SITES.false (first c.before.before.before.before.before) (second c.before.before.before)
    (sym c.past_old.ensures ∙ c.if-past_old.true))

pub returns-then-past_old-2 : goal.returns-then-past_old-2
returns-then-past_old-2 c =
    let a = c.args in
    sym
    (compare-old-second a.n a.a.now a.b.now c.if-n-gt-MAX_SITES.false (first c.before.before.before.before.before.before.before) (second c.before.before.before.before.before)
    (sym c.past_old.ensures ∙ c.if-past_old.false) (sym c.past_old-2.ensures ∙ c.if-past_old-2.true))

pub both_clear-requires : goal.both_clear-requires
both_clear-requires c =
    (either-told _ (first c.before.before.before.before.before.before.before), either-told _ (second c.before.before.before.before.before))

pub returns : goal.returns
returns c =
    let a = c.args in
    c.both_clear.ensures
    ∙ sym
    (compare-left a.n a.a.now a.b.now c.if-n-gt-MAX_SITES.false (first c.before.before.before.before.before.before.before.before) (second c.before.before.before.before.before.before)
    (sym c.past_old.ensures ∙ c.if-past_old.false) (sym c.past_old-2.ensures ∙ c.if-past_old-2.false))
