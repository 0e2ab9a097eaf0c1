use mathlib.Core.Path.{refl, sym, ◌∙◌}
use native.Mathlib.Omega.{arith}
use Rattle.packed.specs.Packed.{bit_of}
use Rattle.packed.proofs.Packing.{bit_of_past, bit_of_byte}
use Rattle.packed.proofs.words.unpack.Goals as goal

pub loop-i-init : goal.loop-i-init
loop-i-init c = (omega arith, refl, λ q h. absurd (omega arith))

pub offset_bounds-words-i : goal.offset_bounds-words-i
offset_bounds-words-i c = omega arith

pub bounds-words-i : goal.bounds-words-i
bounds-words-i c = omega arith

pub overflow_mul-i : goal.overflow_mul-i
overflow_mul-i c = omega arith

pub put_word-requires : goal.put_word-requires
put_word-requires c = omega arith

pub loop-i-preserved : goal.loop-i-preserved
loop-i-preserved c =
    let words = c.args.words.now in
    let l = c.loop-i in (
      omega arith,
      c.put_word.auto.plane ∙ l.invariant.1,
      λ q h. c.put_word.ensures (bit_of words) (λ k g. sym (bit_of_byte words l.i k g)) l.invariant.2 q (omega arith),
    )

pub overflow_mul-words : goal.overflow_mul-words
overflow_mul-words c = omega arith

pub returns : goal.returns
returns c =
    let words = c.args.words.now in
    let l = c.loop-i in
    c.clear_rest.ensures (bit_of words) (λ q h. bit_of_past words q (omega arith)) (λ q h. l.invariant.2 q (omega arith))
