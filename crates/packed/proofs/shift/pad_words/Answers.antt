use Prim.Native.Nat.{◌+◌}
use mathlib.Core.Path.{refl, ◌∙◌}
use native.Mathlib.Omega.{arith}
use lib.ListN.{get_or, length-set}
use Rattle.packed.proofs.Shifts.{padded_next, padded_all}
use Rattle.packed.proofs.shift.pad_words.Goals as goal

pub loop-i-init : goal.loop-i-init
loop-i-init c = (omega arith, refl, (λ k h. c.requires.1 k, λ k h. absurd (omega arith), λ k h. c.requires.1 (c.args.before + k)))

pub offset_bounds-plane-i : goal.offset_bounds-plane-i
offset_bounds-plane-i c = omega arith

pub bounds-plane-i : goal.bounds-plane-i
bounds-plane-i c = omega arith

pub overflow_add-pad : goal.overflow_add-pad
overflow_add-pad c = omega arith

pub offset_bounds-pad-before : goal.offset_bounds-pad-before
offset_bounds-pad-before c = omega arith

pub bounds-pad-before : goal.bounds-pad-before
bounds-pad-before c = omega arith

pub loop-i-preserved : goal.loop-i-preserved
loop-i-preserved c =
    let l = c.loop-i in
    let plane = c.args.plane.now in (
      omega arith,
      length-set l.pad (c.args.before + l.i) (get_or plane l.i 0) ∙ l.invariant.1,
      padded_next c.args.before plane l.pad l.i (omega (arith, c.requires.0, l.invariant.1)) l.invariant.2,
    )

pub returns : goal.returns
returns c =
    let l = c.loop-i in record {
      before = l.invariant.2.0;
      words = padded_all c.args.before c.args.plane.now l.pad l.i c.loop-i-test.false l.invariant.2;
    }
