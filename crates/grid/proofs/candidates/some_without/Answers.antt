use mathlib.Core.Path.{refl}
use native.Mathlib.Omega.{arith}
use borrow.Author.Tests.{eqb-true, eqb-false, not-true, not-false}
use mathlib.Core.Bool.{not}
use lib.Dec.{eqb}
use lib.ListN.{get_or}
use lib.Bits.{bit_and, bit_xor, and_lt, or_lt, xor_lt}
use Rattle.packed.specs.Packed.{word_bits, bit_of}
use Rattle.grid.proofs.Sets.{in_first, first_word, part_past, gathered_start, gathered_next, gathered_none, gathered_some}
use Rattle.grid.proofs.candidates.some_without.Goals as goal

pub loop-i-init : goal.loop-i-init
loop-i-init c = (omega arith, omega arith, gathered_start (in_first c.args.left.now c.args.at.now))

pub offset_bounds-left-i : goal.offset_bounds-left-i
offset_bounds-left-i c = omega arith

pub bounds-left-i : goal.bounds-left-i
bounds-left-i c = omega arith

pub offset_bounds-at-i : goal.offset_bounds-at-i
offset_bounds-at-i c = omega arith

pub bounds-at-i : goal.bounds-at-i
bounds-at-i c = omega arith

pub loop-i-preserved : goal.loop-i-preserved
loop-i-preserved c =
    let a = c.args in
    let l = c.loop-i in
    let left = a.left.now in
    let at = a.at.now in
    let x = get_or left l.i 0 in
    let y = get_or at l.i 0 in
    let w = bit_xor x (bit_and x y) in
    let fits = (c.shared_slice_known-1.given l.i).fits in (
      omega arith,
      or_lt word_bits l.met w l.invariant.1 (xor_lt word_bits x (bit_and x y) fits (and_lt word_bits x y fits (c.shared_slice_known-in-loop-i-1.given l.i).fits)),
      gathered_next (in_first left at) l.i l.met w (first_word left at l.i x refl) l.invariant.2,
    )

pub returns : goal.returns
returns c =
    let a = c.args in
    let l = c.loop-i in
    let left = a.left.now in
    let at = a.at.now in
    let f = in_first left at in record {
      yes = λ e. gathered_some f l.i l.met l.invariant.1 l.invariant.2 (eqb-false l.met 0 (not-true (eqb l.met 0) e));
      no = λ e. gathered_none f l.i l.met (λ q h. part_past left (not (bit_of at q)) q (omega arith)) l.invariant.2 (eqb-true l.met 0 (not-false (eqb l.met 0) e));
    }
