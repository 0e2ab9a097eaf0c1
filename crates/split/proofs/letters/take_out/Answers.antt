use native.Mathlib.Nat.{not-suc-le-zero}
use lib.ListN.{length-set, get_or}
use Rattle.split.proofs.Placing.{taken_next, taken_all}
use mathlib.Core.Path.{refl}
use native.Mathlib.Omega.{arith}
use Rattle.split.proofs.letters.take_out.Goals as goal

pub loop-a-init : goal.loop-a-init
loop-a-init c = (omega arith, refl, λ b h. absurd (not-suc-le-zero h))

pub offset_bounds-table-a : goal.offset_bounds-table-a
offset_bounds-table-a c = omega arith

pub bounds-table-a : goal.bounds-table-a
bounds-table-a c = omega arith

pub bounds-codes-q : goal.bounds-codes-q
bounds-codes-q c = c.requires.by_index c.loop-a.a (omega arith)

pub bounds-out-a : goal.bounds-out-a
bounds-out-a c = omega arith

pub loop-a-preserved : goal.loop-a-preserved
loop-a-preserved c = (simp length-set (omega arith), simp length-set c.loop-a.invariant.1, taken_next (λ b. get_or c.args.codes.now (get_or c.args.table.now b 0) 0) c.loop-a.a c.loop-a.out (omega arith) c.loop-a.invariant.2)

pub returns : goal.returns
returns c = λ w e. taken_all c.args.codes.now (λ b. get_or c.args.table.now b 0) _ c.loop-a.a _ c.loop-a.invariant.1 (omega arith) c.loop-a.invariant.2 w e
