use mathlib.Core.Bool.{false≢true}
use native.Mathlib.Omega.{arith}
use lib.ListN.{get_or}
use Rattle.packed.proofs.Masks.{below_bits}
use Rattle.grid.proofs.Blocks.{read_next, same_word, every_set}
use Rattle.grid.proofs.block.every_bit.Goals as goal

pub loop-i-init : goal.loop-i-init
loop-i-init c = λ q l h. absurd (omega arith)

pub offset_bounds-at-i : goal.offset_bounds-at-i
offset_bounds-at-i c = omega arith

pub bounds-at-i : goal.bounds-at-i
bounds-at-i c = omega arith

pub returns-then-at-i : goal.returns-then-at-i
returns-then-at-i c = λ e. absurd (false≢true e)

pub loop-i-preserved : goal.loop-i-preserved
loop-i-preserved c =
    let l = c.loop-i in
    read_next (below_bits c.args.order) c.args.at.now l.i
    (same_word (below_bits c.args.order) l.i (get_or c.args.at.now l.i 0) c.ones_word.result c.if-at-i.false c.ones_word.ensures)
    l.invariant

pub returns : goal.returns
returns c =
    let l = c.loop-i in
    λ e. every_set c.args.order c.args.at.now l.i c.requires c.loop-i-test.false l.invariant
