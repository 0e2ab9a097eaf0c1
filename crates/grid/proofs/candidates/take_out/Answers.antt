use Prim.Native.Nat.{◌*◌}
use mathlib.Core.Path.{refl, sym, ◌∙◌}
use native.Mathlib.Omega.{arith}
use mathlib.Core.Bool.{not}
use lib.ListN.{length, get_or, length-set}
use lib.Seq.{get_or-set_other}
use lib.Bits.{bit_and, bit_xor}
use Rattle.packed.specs.Packed.{word_bits, bit_of}
use Rattle.packed.proofs.Packing.{between_next, bit_of_past}
use Rattle.cyclic.proofs.BitOrder.{by_order}
use Rattle.grid.proofs.Sets.{in_first, first_word, part_past}
use Rattle.grid.proofs.candidates.take_out.Goals as goal

pub loop-i-init : goal.loop-i-init
loop-i-init c = (omega arith, refl, λ j h. refl, λ q h l. absurd (omega arith))

pub offset_bounds-left-i : goal.offset_bounds-left-i
offset_bounds-left-i c = omega arith

pub bounds-left-i : goal.bounds-left-i
bounds-left-i c = omega arith

pub offset_bounds-at-i : goal.offset_bounds-at-i
offset_bounds-at-i c = omega arith

pub bounds-at-i : goal.bounds-at-i
bounds-at-i c = omega arith

pub offset_bounds-left-i-in-loop-i : goal.offset_bounds-left-i-in-loop-i
offset_bounds-left-i-in-loop-i c = omega arith

pub bounds-left-i-in-loop-i : goal.bounds-left-i-in-loop-i
bounds-left-i-in-loop-i c = omega arith

pub loop-i-preserved : goal.loop-i-preserved
loop-i-preserved c =
    let a = c.args in
    let l = c.loop-i in
    let old = a.left.now in
    let at = a.at.now in
    let x = get_or l.left l.i 0 in
    let v = bit_xor x (bit_and x (get_or at l.i 0)) in
    let long = length-set l.left l.i v in (
      omega (arith, long),
      long ∙ l.invariant.1,
      λ j h. get_or-set_other l.left l.i j v 0 (omega arith) ∙ l.invariant.2 j (omega arith),
      between_next (in_first old at) l.left l.i v (omega arith) (first_word old at l.i x (l.invariant.2 l.i (omega arith))) l.invariant.3,
    )

pub returns : goal.returns
returns c = λ q.
    let a = c.args in
    let l = c.loop-i in
    by_order (word_bits * length l.left) q
    (λ h. bit_of_past l.left q h ∙ sym (part_past a.left.now (not (bit_of a.at.now q)) q (omega (arith, l.invariant.1))))
    (λ h. l.invariant.3 q (omega arith) (omega arith))
