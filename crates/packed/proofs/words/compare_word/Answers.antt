-- `words::compare_word` meets its contract: the lowest bit of the exclusive or is the first difference.
use Prim.Native.Nat.{◌<◌, ◌^◌}
use native.Mathlib.Omega.{arith}
use lib.Bits.{bit_xor, xor_lt}
use Rattle.packed.specs.Packed.{word_bits}
use Rattle.packed.proofs.Comparing.{words_same, first_below, words-less, words-greater}
use Rattle.packed.proofs.words.compare_word.Goals as goal

pub returns-then-d-eq0 : goal.returns-then-d-eq0
returns-then-d-eq0 c = let a = c.args in words_same a.x a.y c.if-d-eq0.true

pub overflow_cast-d : goal.overflow_cast-d
overflow_cast-d c =
    let a = c.args in
    let small : bit_xor a.x a.y < 2 ^ word_bits = xor_lt word_bits a.x a.y (omega arith) (omega arith) in
    omega (arith, first_below a.x a.y c.if-d-eq0.false small)

pub overflow_shr-x : goal.overflow_shr-x
overflow_shr-x c =
    let a = c.args in
    first_below a.x a.y c.if-d-eq0.false (xor_lt word_bits a.x a.y (omega arith) (omega arith))

pub returns-then-x-d-eq0 : goal.returns-then-x-d-eq0
returns-then-x-d-eq0 c =
    let a = c.args in
    words-less a.x a.y c.if-d-eq0.false (xor_lt word_bits a.x a.y (omega arith) (omega arith)) c.if-x-d-eq0.true

pub returns : goal.returns
returns c =
    let a = c.args in
    words-greater a.x a.y c.if-d-eq0.false (xor_lt word_bits a.x a.y (omega arith) (omega arith)) c.if-x-d-eq0.false
