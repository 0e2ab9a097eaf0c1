use mathlib.Core.Path.{refl, sym, ◌∙◌}
use native.Mathlib.Omega.{arith}
use lib.ListN.{get_or, length-set}
use lib.Seq.{ext_get_or}
use Rattle.generators.proofs.Stores.{holds-next}
use Rattle.generators.proofs.list.store.Goals as goal

pub loop-i-init : goal.loop-i-init
loop-i-init c = (omega arith, refl, λ k h. absurd (omega arith))

pub offset_bounds-src-i : goal.offset_bounds-src-i
offset_bounds-src-i c = omega arith

pub bounds-src-i : goal.bounds-src-i
bounds-src-i c = omega arith

pub overflow_cast-dst : goal.overflow_cast-dst
overflow_cast-dst c = omega (arith, c.requires.by_index c.loop-i.i c.loop-i-test.true)

pub offset_bounds-dst-i : goal.offset_bounds-dst-i
offset_bounds-dst-i c = omega arith

pub bounds-dst-i : goal.bounds-dst-i
bounds-dst-i c = omega arith

pub loop-i-preserved : goal.loop-i-preserved
loop-i-preserved c =
    let l = c.loop-i in
    let src = c.args.src.now in
    let v = get_or src l.i 0 in
    (omega arith, length-set l.dst l.i v ∙ l.invariant.1, holds-next (λ k. get_or src k 0) l.dst l.i v (omega arith) refl l.invariant.2)

pub returns : goal.returns
returns c =
    let l = c.loop-i in
    ext_get_or 0 l.dst c.args.src.now (l.invariant.1 ∙ sym c.requires.src_len) (λ k h. l.invariant.2 k (omega (arith, l.invariant.1, c.requires.src_len)))
