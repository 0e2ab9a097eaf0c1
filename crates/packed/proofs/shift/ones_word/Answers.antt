-- `shift::ones_word` meets its contract: below the last word, above it, and at it.
use Prim.Native.Nat.{◌*◌, ◌%◌, ◌^◌}
use native.Mathlib.Omega.{arith}
use lib.Pow.{pow_pos}
use Rattle.packed.specs.Packed.{word_bits}
use Rattle.packed.proofs.Masks.{ones_full, ones_none, one_shifted, ones_last}
use Rattle.packed.proofs.shift.ones_word.Goals as goal

pub returns-then-i-last : goal.returns-then-i-last
returns-then-i-last c = ones_full c.args.n c.args.i c.if-i-last.true

pub returns-then-last-i : goal.returns-then-last-i
returns-then-last-i c = ones_none c.args.n c.args.i c.if-last-i.true

pub overflow_sub-result : goal.overflow_sub-result
overflow_sub-result c = let b = c.args.n % word_bits in omega (arith, one_shifted b (omega arith), pow_pos b)

pub returns : goal.returns
returns c =
    let a = c.args in
    let b = a.n % word_bits in
    ones_last a.n a.i (1 * 2 ^ b % 2 ^ word_bits) (one_shifted b (omega arith)) (omega arith)
