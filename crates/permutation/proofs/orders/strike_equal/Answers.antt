use Prim.Native.Nat.{◌<◌}
use mathlib.Core.Path.{refl, ap, ◌∙◌}
use native.Mathlib.Omega.{arith}
use lib.ListN.{length, length-set}
use Rattle.permutation.proofs.Striking.{struck_none, struck-past, struck-room, struck-next, struck-all}
use Rattle.permutation.proofs.orders.strike_equal.Goals as goal
use Rattle.permutation.proofs.orders.strike_equal.Goals.{then-marks-length-eq1, else-marks-length-eq1}
use Rattle.permutation.proofs.orders.strike_equal.Lts as lts
use Rattle.permutation.proofs.orders.strike_equal.Tie as tie
use Rattle.permutation.proofs.orders.strike_equal.Reads as reads

abbrev ctx-Then1 : Type 0
ctx-Then1 = lts.Then1 reads.Pre reads.Post goal.the-invariant-loop-length goal.the-decreases-loop-length tie.handed_clauses

pub loop-length-init : goal.loop-length-init
loop-length-init c = let a = c.args in (refl, c.requires.shortest_nonzero.0, struck_none a.span.shortest a.span.longest a.marks.now a.left.now)

pub overflow_sub-length : goal.overflow_sub-length
overflow_sub-length c = c.loop-length.invariant.1

pub bounds-marks-length : goal.bounds-marks-length
bounds-marks-length c = omega (arith, c.loop-length.invariant.1, c.requires.shortest_nonzero.1)

-- a marked place finds room
room :
    (c : ctx-Then1)
    → let l = c.loop-length in
    l.count < length l.left
room c =
    let l = c.loop-length in
    struck-room l.invariant.2 (omega arith) c.if-marks-length-eq1.true (omega (arith, c.requires.marks_in_bounds, l.invariant.0))

pub offset_bounds-left-count : goal.offset_bounds-left-count
offset_bounds-left-count c = omega (arith, room c.before, c.well_formed, c.loop-length.invariant.0)

pub bounds-left-count : goal.bounds-left-count
bounds-left-count c = room c.before

pub overflow_add-count : goal.overflow_add-count
overflow_add-count c = omega (arith, room c.before)

pub loop-length-preserved : goal.loop-length-preserved
loop-length-preserved c =
    let l = c.loop-length in
    elim c.if-marks-length-eq1.branch [
      | then-marks-length-eq1 w ↦ (
        ap length w.left-is ∙ length-set l.left l.count l.length ∙ l.invariant.0,
        omega arith,
        rw (w.left-is, w.count-is) (struck-next l.invariant.2 (omega arith) w.if-marks-length-eq1.true (omega (arith, c.requires.marks_in_bounds, l.invariant.0))),
      )
      | else-marks-length-eq1 w ↦ (
        ap length w.left-is ∙ l.invariant.0,
        omega arith,
        rw (w.left-is, w.count-is) (struck-past l.invariant.2 (omega arith) w.if-marks-length-eq1.false),
      )
    ]

pub returns : goal.returns
returns c =
    let it = struck-all c.loop-length.invariant.2 (omega arith) in record {
      count = it.0;
      left = it.1;
    }
