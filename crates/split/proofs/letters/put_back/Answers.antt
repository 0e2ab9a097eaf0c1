use lib.ListN.{length-set, get_or}
use Rattle.split.proofs.Placing.{put-none, put_next, put_all}
use mathlib.Core.Path.{refl}
use native.Mathlib.Omega.{arith}
use Rattle.split.proofs.letters.put_back.Goals as goal

pub loop-a-init : goal.loop-a-init
loop-a-init c = (omega arith, refl, put-none _ _ _)

pub offset_bounds-table-a : goal.offset_bounds-table-a
offset_bounds-table-a c = omega arith

pub bounds-table-a : goal.bounds-table-a
bounds-table-a c = omega arith

pub bounds-part-a : goal.bounds-part-a
bounds-part-a c = omega arith

pub bounds-codes-q : goal.bounds-codes-q
bounds-codes-q c = omega (arith, c.requires.by_index c.loop-a.a (omega arith))

pub loop-a-preserved : goal.loop-a-preserved
loop-a-preserved c =
    let l = c.loop-a in (
      omega arith,
      simp length-set l.invariant.1,
      put_next _ (λ b. get_or c.args.table.now b 0) _ l.a _ (λ b h e. let s = c.requires.by_index_2 b l.a (omega arith) (omega arith) e in omega arith) (omega (arith, c.requires.by_index l.a (omega arith))) l.invariant.2,
    )

pub returns : goal.returns
returns c = λ u v w eu ev lw own others. put_all _ (λ b. get_or c.args.table.now b 0) _ c.loop-a.a _ c.loop-a.invariant.2 (omega arith) c.loop-a.invariant.1 u v w eu ev lw own others
