use borrow.Author.Tests.{leb-false, eqb-true, not-false}
use borrow.Author.Count.{below_more}
use mathlib.Core.Bool.{false≢true}
use Rattle.renumbered.specs.Renumbered.{at}
use Prim.Native.Nat.{◌<◌}
use native.Mathlib.Omega.{arith}
use Rattle.renumbered.proofs.table.undo_each_other.Goals as goal

pub loop-a-init : goal.loop-a-init
loop-a-init c = (omega arith, λ b h. absurd (omega arith))

pub offset_bounds-site-a : goal.offset_bounds-site-a
offset_bounds-site-a c = omega arith

pub bounds-site-a : goal.bounds-site-a
bounds-site-a c = omega arith

pub offset_bounds-place-a : goal.offset_bounds-place-a
offset_bounds-place-a c = omega arith

pub bounds-place-a : goal.bounds-place-a
bounds-place-a c = omega arith

pub returns-then-sites-q : goal.returns-then-sites-q
returns-then-sites-q c t = absurd (false≢true t)

pub offset_bounds-place-q : goal.offset_bounds-place-q
offset_bounds-place-q c = omega arith

pub bounds-place-q : goal.bounds-place-q
bounds-place-q c = omega arith

pub offset_bounds-site-b : goal.offset_bounds-site-b
offset_bounds-site-b c = let h : at c.args.place.now c.loop-a.a < c.args.sites = leb-false _ _ c.if-sites-b.false-raw in omega arith

pub bounds-site-b : goal.bounds-site-b
bounds-site-b c = let h : at c.args.place.now c.loop-a.a < c.args.sites = leb-false _ _ c.if-sites-b.false-raw in omega arith

pub returns-then-place-q : goal.returns-then-place-q
returns-then-place-q c t = absurd (false≢true t)

pub loop-a-preserved : goal.loop-a-preserved
loop-a-preserved c = let l = c.loop-a in (omega arith, below_more _ _ l.invariant.1 (omega arith, leb-false _ _ c.if-sites-b.false-raw, omega arith, eqb-true _ _ (not-false _ c.if-site-b.false-raw)))

pub returns : goal.returns
returns c t = let l = c.loop-a in λ a h. l.invariant.1 a (omega (arith, c.loop-a-test.false))
