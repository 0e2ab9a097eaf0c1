use mathlib.Core.Path.{refl, ◌∙◌}
use native.Mathlib.Omega.{arith}
use lib.ListN.{length-set}
use lib.Bits.{bit_xor}
use Rattle.packed.proofs.Packing.{between_next}
use Rattle.packed.proofs.Masks.{run_bits, run_word, run_bits_lem}
use Rattle.packed.proofs.shift.fill_run.Goals as goal

pub loop-i-init : goal.loop-i-init
loop-i-init c = (omega arith, refl, λ j h l. absurd (omega arith))

pub offset_bounds-mask-i : goal.offset_bounds-mask-i
offset_bounds-mask-i c = omega arith

pub bounds-mask-i : goal.bounds-mask-i
bounds-mask-i c = omega arith

pub loop-i-preserved : goal.loop-i-preserved
loop-i-preserved c =
    let l = c.loop-i in
    let v = bit_xor c.ones_word.result c.ones_word-in-loop-i.result in
    let long = length-set l.mask l.i v in
    let f = run_bits c.args.low c.args.high in (
      omega (arith, long),
      long ∙ l.invariant.1,
      between_next f l.mask l.i v (omega arith) (run_word c.args.low c.args.high l.i c.ones_word.result c.ones_word-in-loop-i.result c.requires.0 c.ones_word.ensures c.ones_word-in-loop-i.ensures) l.invariant.2,
    )

pub returns : goal.returns
returns c =
    let l = c.loop-i in
    run_bits_lem c.args.low c.args.high l.mask l.i (omega (arith, c.requires.1, l.invariant.1)) (omega (arith, c.loop-i.auto.mask)) l.invariant.2
