use native.Mathlib.Omega.{arith}
use Rattle.row_lists.proofs.Arranging.{owning_start, owning_next, owning_end}
use Rattle.row_lists.proofs.places.own.Goals as goal

pub loop-k-init : goal.loop-k-init
loop-k-init c = (omega arith, owning_start c.requires.owners_len c.requires.by_index)

pub offset_bounds-positions-k : goal.offset_bounds-positions-k
offset_bounds-positions-k c = omega arith

pub bounds-positions-k : goal.bounds-positions-k
bounds-positions-k c = omega arith

pub overflow_cast-owners : goal.overflow_cast-owners
overflow_cast-owners c = omega arith

pub offset_bounds-owners-at : goal.offset_bounds-owners-at
offset_bounds-owners-at c =
    let p = c.requires.positions in
    omega (arith, p.inside c.loop-k.k c.loop-k-test.true)

pub bounds-owners-at : goal.bounds-owners-at
bounds-owners-at c =
    let p = c.requires.positions in
    omega (arith, p.inside c.loop-k.k c.loop-k-test.true)

pub loop-k-preserved : goal.loop-k-preserved
loop-k-preserved c =
    let l = c.loop-k in
    (omega arith, owning_next c.requires.positions c.loop-k-test.true l.invariant.1)

pub returns : goal.returns
returns c = owning_end c.loop-k-test.false c.loop-k.invariant.1
