use mathlib.Core.Path.{refl}
use mathlib.Core.Bool.{false, false≢true}
use native.Mathlib.Omega.{arith}
use Rattle.grid.proofs.Blocks.{read_next, read_all, zero_word}
use Rattle.grid.proofs.block.no_bit.Goals as goal

pub loop-i-init : goal.loop-i-init
loop-i-init c = λ q l h. absurd (omega arith)

pub offset_bounds-at-i : goal.offset_bounds-at-i
offset_bounds-at-i c = omega arith

pub bounds-at-i : goal.bounds-at-i
bounds-at-i c = omega arith

pub returns-then-at-i-ne0 : goal.returns-then-at-i-ne0
returns-then-at-i-ne0 c = λ e. absurd (false≢true e)

pub loop-i-preserved : goal.loop-i-preserved
loop-i-preserved c =
    let l = c.loop-i in
    read_next (λ q. false) c.args.at.now l.i (zero_word l.i _ c.if-at-i-ne0.false) l.invariant

pub returns : goal.returns
returns c =
    let l = c.loop-i in
    λ e. read_all (λ q. false) c.args.at.now l.i c.loop-i-test.false (λ q h. refl) l.invariant
