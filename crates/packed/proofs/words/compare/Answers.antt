use native.Mathlib.Omega.{arith}
use lib.ListN.{length}
use Rattle.packed.proofs.Comparing.{compared-next, compared_word}
use Rattle.packed.proofs.words.compare.Goals as goal

pub loop-i-init : goal.loop-i-init
loop-i-init c = (omega arith, λ q h. absurd (omega arith))

pub offset_bounds-a-i : goal.offset_bounds-a-i
offset_bounds-a-i c = omega arith

pub bounds-a-i : goal.bounds-a-i
bounds-a-i c = omega arith

pub offset_bounds-b-i : goal.offset_bounds-b-i
offset_bounds-b-i c = omega arith

pub bounds-b-i : goal.bounds-b-i
bounds-b-i c = omega arith

pub returns-then-x-y : goal.returns-then-x-y
returns-then-x-y c =
    let a = c.args in
    let l = c.loop-i in
    compared_word
    c.compare_word.result
    a.a.now
    a.b.now
    l.i
    (length a.a.now)
    l.invariant.1
    (omega arith)
    c.if-x-y.true
    (c.shared_slice_known-in-loop-i-1.given l.i).fits
    (c.shared_slice_known-in-loop-i-2-1.given l.i).fits
    c.compare_word.ensures

pub loop-i-preserved : goal.loop-i-preserved
loop-i-preserved c =
    let a = c.args in
    let l = c.loop-i in
    (omega arith, compared-next a.a.now a.b.now l.i l.invariant.1 c.if-x-y.false)

pub returns : goal.returns
returns c = let l = c.loop-i in λ q h. l.invariant.1 q (omega arith)
