use Prim.Native.Nat.{◌-◌}
use mathlib.Core.Path.{refl, ◌∙◌}
use native.Mathlib.Omega.{arith}
use lib.ListN.{length, get_or, length-set}
use lib.Seq.{get_or-set_other}
use lib.Bits.{bit_or}
use Rattle.packed.proofs.Shifts.{moved-next}
use Rattle.packed.proofs.shift.or_moved_up.Goals as goal

pub loop-i-init : goal.loop-i-init
loop-i-init c = (omega arith, refl, λ j h. refl, λ j h l. absurd (omega arith))

pub offset_bounds-mask-i : goal.offset_bounds-mask-i
offset_bounds-mask-i c = omega arith

pub bounds-mask-i : goal.bounds-mask-i
bounds-mask-i c = omega arith

pub offset_bounds-mask-i-in-loop-i : goal.offset_bounds-mask-i-in-loop-i
offset_bounds-mask-i-in-loop-i c = omega arith

pub bounds-mask-i-in-loop-i : goal.bounds-mask-i-in-loop-i
bounds-mask-i-in-loop-i c = omega arith

pub loop-i-preserved : goal.loop-i-preserved
loop-i-preserved c =
    let l = c.loop-i in
    let old = c.args.mask.now in
    let v = bit_or (get_or l.mask (l.i - 1) 0) c.shl_word-moved.result in
    let long = length-set l.mask (l.i - 1) v in
    let more = c.loop-i-test.true in (
      omega (arith, long),
      long ∙ l.invariant.1,
      λ j h. get_or-set_other l.mask (l.i - 1) j v 0 (omega arith) ∙ l.invariant.2 j (omega arith),
      moved-next c.args.s old l.mask l.i (length old) c.shl_word-moved.result more l.invariant.0 l.invariant.2 c.shl_word-moved.ensures l.invariant.3,
    )

pub returns : goal.returns
returns c = λ q h. c.loop-i.invariant.3 q (omega arith) h
