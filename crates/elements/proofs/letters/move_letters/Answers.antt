use mathlib.Core.Path.{refl, ◌∙◌}
use native.Mathlib.Nat.{not-suc-le-zero}
use native.Mathlib.Omega.{arith}
use lib.ListN.{length-set}
use Rattle.elements.proofs.Codes.{moved-next, moved_all}
use Rattle.elements.proofs.letters.move_letters.Goals as goal

pub loop-q-init : goal.loop-q-init
loop-q-init c = (omega arith, refl, λ j h. absurd (not-suc-le-zero h))

pub offset_bounds-perm-q : goal.offset_bounds-perm-q
offset_bounds-perm-q c = omega (arith, c.requires.permutes.long)

pub bounds-perm-q : goal.bounds-perm-q
bounds-perm-q c = omega (arith, c.requires.permutes.long)

pub bounds-from-q : goal.bounds-from-q
bounds-from-q c = omega arith

pub bounds-to-target : goal.bounds-to-target
bounds-to-target c =
    let l = c.loop-q in
    omega (arith, c.requires.permutes.inside l.q c.loop-q-test.true)

pub loop-q-preserved : goal.loop-q-preserved
loop-q-preserved c =
    let l = c.loop-q in
    let more = c.loop-q-test.true in (
      omega arith,
      simp length-set l.invariant.1,
      moved-next c.requires.permutes c.args.from.now l.to (l.invariant.1 ∙ c.requires.to_len) l.q more l.invariant.2,
    )

pub returns : goal.returns
returns c =
    let l = c.loop-q in
    moved_all c.requires.permutes c.args.from.now l.to (l.invariant.1 ∙ c.requires.to_len) l.q c.loop-q-test.false l.invariant.2 refl
