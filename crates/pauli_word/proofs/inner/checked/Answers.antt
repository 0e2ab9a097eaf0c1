-- `inner::checked` meets its contract: each return is reached by the tests that decide it.
use mathlib.Core.Path.{◌≡◌, sym, ◌∙◌}
use mathlib.Core.Bool.{true}
use borrow.Author.Tests.{not-true, not-false}
use lib.ListN.{length}
use Rattle.pauli_word.specs.Calls.{either_length}
use Rattle.pauli_word.proofs.Checks.{either-told, too-many-sites, other_length, past-old, bit-above, passes}
use Rattle.pauli_word.proofs.inner.checked.Goals as goal
use Rattle.pauli_word.proofs.inner.checked.Lts as lts
use Rattle.pauli_word.proofs.inner.checked.Tie as tie
use Rattle.pauli_word.proofs.inner.checked.Reads as reads

abbrev ctx-Else2 : Type 0
ctx-Else2 = lts.Else2 tie.the-claims reads.Pre reads.Post

pub returns-then-n-gt-MAX_SITES : goal.returns-then-n-gt-MAX_SITES
returns-then-n-gt-MAX_SITES c = let a = c.args in sym (too-many-sites a.n a.word.now c.if-n-gt-MAX_SITES.true)

pub returns-then-not-either_length : goal.returns-then-not-either_length
returns-then-not-either_length c =
    let a = c.args in
    sym (other_length a.n a.word.now c.if-n-gt-MAX_SITES.false (sym c.either_length.ensures ∙ not-true _ c.if-not-either_length.true-raw))

-- the length is one of the two
either : (c : ctx-Else2) → let a = c.args in (either_length (length a.word.now) ≡ true)
either c = sym c.either_length.ensures ∙ not-false _ c.if-not-either_length.false-raw

pub returns-then-past_old : goal.returns-then-past_old
returns-then-past_old c =
    let a = c.args in
    sym (past-old a.n a.word.now c.if-n-gt-MAX_SITES.false (either c.before.before.before) (sym c.past_old.ensures ∙ c.if-past_old.true))

pub clear_above-requires : goal.clear_above-requires
clear_above-requires c = either-told _ (either c.before.before.before)

pub returns-then-clear_above : goal.returns-then-clear_above
returns-then-clear_above c =
    let a = c.args in
    sym
    (passes a.n a.word.now c.if-n-gt-MAX_SITES.false (either c.before.before.before.before.before) (sym c.past_old.ensures ∙ c.if-past_old.false)
    (sym c.clear_above.ensures ∙ c.if-clear_above.true))

pub returns-else-clear_above : goal.returns-else-clear_above
returns-else-clear_above c =
    let a = c.args in
    sym
    (bit-above a.n a.word.now c.if-n-gt-MAX_SITES.false (either c.before.before.before.before.before) (sym c.past_old.ensures ∙ c.if-past_old.false)
    (sym c.clear_above.ensures ∙ c.if-clear_above.false))
