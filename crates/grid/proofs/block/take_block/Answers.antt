use mathlib.Core.Path.{refl, ◌∙◌}
use native.Mathlib.Omega.{arith}
use lib.ListN.{length-set}
use lib.Bits.{bit_and}
use Rattle.packed.specs.Packed.{bit_of}
use Rattle.packed.proofs.Packing.{between_next}
use Rattle.grid.proofs.Blocks.{block_bits, block_word, block-bits, block-clear}
use Rattle.grid.proofs.block.take_block.Goals as goal

pub loop-i-init : goal.loop-i-init
loop-i-init c = (omega arith, refl, λ q l h. absurd (omega arith))

pub overflow_mul-i : goal.overflow_mul-i
overflow_mul-i c = omega arith

pub overflow_add-base : goal.overflow_add-base
overflow_add-base c = omega arith

pub window-requires : goal.window-requires
window-requires c = omega arith

pub offset_bounds-at-i : goal.offset_bounds-at-i
offset_bounds-at-i c = omega arith

pub bounds-at-i : goal.bounds-at-i
bounds-at-i c = omega arith

pub loop-i-preserved : goal.loop-i-preserved
loop-i-preserved c =
    let a = c.args in
    let l = c.loop-i in
    let v = bit_and c.window.result c.ones_word.result in
    let f = block_bits (bit_of a.plane.now) a.base a.order in
    let long = length-set l.at l.i v in (
      omega (arith, long),
      long ∙ l.invariant.1,
      between_next f l.at l.i v (omega arith) (block_word (bit_of a.plane.now) a.base a.order l.i c.window.result c.ones_word.result c.window.ensures c.ones_word.ensures) l.invariant.2,
    )

pub returns : goal.returns
returns c =
    let a = c.args in
    let l = c.loop-i in
    let room = rw (← l.invariant.1) at c.requires.1 in record {
      bits = block-bits (bit_of a.plane.now) a.base a.order l.at l.i room (omega (arith, c.loop-i.auto.at)) l.invariant.2;
      clear = block-clear (bit_of a.plane.now) a.base a.order l.at l.i room (omega (arith, c.loop-i.auto.at)) l.invariant.2;
    }
