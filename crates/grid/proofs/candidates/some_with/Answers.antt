use native.Mathlib.Omega.{arith}
use borrow.Author.Tests.{eqb-true, not-false}
use lib.Dec.{eqb}
use lib.ListN.{get_or}
use lib.Bits.{bit_and}
use Rattle.packed.specs.Packed.{bit_of}
use Rattle.grid.proofs.Sets.{in_both, both_word, part_past, gathered_start, gathered_next, gathered_none}
use Rattle.grid.proofs.candidates.some_with.Goals as goal

pub loop-i-init : goal.loop-i-init
loop-i-init c = (omega arith, gathered_start (in_both c.args.left.now c.args.at.now))

pub offset_bounds-left-i : goal.offset_bounds-left-i
offset_bounds-left-i c = omega arith

pub bounds-left-i : goal.bounds-left-i
bounds-left-i c = omega arith

pub offset_bounds-at-i : goal.offset_bounds-at-i
offset_bounds-at-i c = omega arith

pub bounds-at-i : goal.bounds-at-i
bounds-at-i c = omega arith

pub loop-i-preserved : goal.loop-i-preserved
loop-i-preserved c =
    let a = c.args in
    let l = c.loop-i in
    let left = a.left.now in
    let at = a.at.now in
    (omega arith, gathered_next (in_both left at) l.i l.met (bit_and (get_or left l.i 0) (get_or at l.i 0)) (both_word left at l.i) l.invariant.1)

pub returns : goal.returns
returns c = λ e.
    let a = c.args in
    let l = c.loop-i in
    let left = a.left.now in
    let at = a.at.now in
    gathered_none (in_both left at) l.i l.met (λ q h. part_past left (bit_of at q) q (omega arith)) l.invariant.1 (eqb-true l.met 0 (not-false (eqb l.met 0) e))
