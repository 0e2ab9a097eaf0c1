-- `shift::shl_word` meets its contract: at the words below the shift, at the one where it ends, and above.
use native.Mathlib.Omega.{arith}
use Rattle.packed.proofs.Shifts.{up_none, up_first, up-whole}
use Rattle.packed.proofs.shift.shl_word.Goals as goal

pub returns-then-i-words : goal.returns-then-i-words
returns-then-i-words c =
    let a = c.args in
    λ k h. up_none a.plane.now a.i a.s k h c.if-i-words.true

pub returns-then-i-words-2 : goal.returns-then-i-words-2
returns-then-i-words-2 c =
    let a = c.args in
    λ k h. up_first a.plane.now a.i a.s c.word_or_zero-lo.result k c.word_or_zero-lo.ensures h c.if-i-words-2.true

pub returns : goal.returns
returns c =
    let a = c.args in
    λ k h. up-whole a.plane.now a.i a.s c.word_or_zero-lo.result c.word_or_zero-hi.result k c.word_or_zero-lo.ensures c.word_or_zero-hi.ensures c.word_or_zero-hi.type_inv h (omega arith)
