use Rattle.renumbered.proofs.Gathered.{gathered_end}
use Rattle.packed.specs.Packed.{bit_of}
use Rattle.renumbered.specs.Renumbered.{at}
use Rattle.renumbered.proofs.Gathered.{gathered_start, gathered_next}
use Prim.Native.Nat.{◌+◌}
use native.Mathlib.Omega.{arith}
use Rattle.renumbered.proofs.gather.gather_word.Goals as goal

pub loop-k-init : goal.loop-k-init
loop-k-init c = let a = c.args in (omega arith, gathered_start (λ i. bit_of a.plane.now (at a.table.now (a.start + i))) a.count)

pub overflow_add-start : goal.overflow_add-start
overflow_add-start c = omega arith

pub offset_bounds-table-start : goal.offset_bounds-table-start
offset_bounds-table-start c = omega arith

pub bounds-table-start : goal.bounds-table-start
bounds-table-start c = omega arith

pub loop-k-preserved : goal.loop-k-preserved
loop-k-preserved c =
    let a = c.args in
    let l = c.loop-k in
    (omega arith, gathered_next (λ i. bit_of a.plane.now (at a.table.now (a.start + i))) a.count l.k l.word c.bit_of.result (omega arith) l.invariant.0 c.bit_of.ensures.small c.bit_of.ensures.bit l.invariant.1)

pub returns : goal.returns
returns c =
    let a = c.args in
    let l = c.loop-k in
    gathered_end (λ i. bit_of a.plane.now (at a.table.now (a.start + i))) a.count l.k l.word (omega arith) l.invariant.1
