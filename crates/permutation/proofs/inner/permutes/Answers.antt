use mathlib.Core.Path.{refl, sym, ap, ◌∙◌}
use mathlib.Core.List.{[], ◌∷◌}
use native.Mathlib.Numerals.{add-one}
use native.Mathlib.Omega.{arith}
use lib.ListN.{get_or, length-set}
use Rattle.pauli_word.specs.Limits.{max_sites}
use Rattle.permutation.proofs.Faults.{unbroken, fault-none, fault-outside, fault-again, fault-next, marks_none, marks_next, marked-among, unmarked-among}
use Rattle.permutation.proofs.inner.permutes.Goals as goal

pub loop-target-init : goal.loop-target-init
loop-target-init c = (omega arith, refl, ([], λ generator. refl, marks_none c.args.sites max_sites c.requires))

pub returns-then-sites-t : goal.returns-then-sites-t
returns-then-sites-t c generator =
    let a = c.args in
    let l = c.loop-target in
    let p = l.invariant.2 in
    sym (ap unbroken (p.1 generator ∙ fault-outside a.sites generator p.0 a.perm.now l.target-index c.loop-target-test.true c.if-sites-t.true))

pub bounds-seen-t : goal.bounds-seen-t
bounds-seen-t c = omega arith

pub returns-then-seen-t-eq1 : goal.returns-then-seen-t-eq1
returns-then-seen-t-eq1 c generator =
    let a = c.args in
    let l = c.loop-target in
    let p = l.invariant.2 in
    let below = c.if-sites-t.false in
    sym
    (ap unbroken
    (p.1 generator
    ∙ fault-again a.sites generator p.0 a.perm.now l.target-index c.loop-target-test.true below
    (marked-among a.sites l.seen p.0 p.2 (get_or a.perm.now l.target-index 0) below c.if-seen-t-eq1.true)))

pub bounds-seen-t-in-loop-target : goal.bounds-seen-t-in-loop-target
bounds-seen-t-in-loop-target c = omega arith

pub loop-target-preserved : goal.loop-target-preserved
loop-target-preserved c =
    let a = c.args in
    let l = c.loop-target in
    let p = l.invariant.2 in
    let t = get_or a.perm.now l.target-index 0 in
    let below = c.if-sites-t.false in
    let fresh = unmarked-among a.sites l.seen p.0 p.2 t below c.if-seen-t-eq1.false in (
      omega arith,
      simp length-set l.invariant.1,
      (
        t ∷ p.0,
        λ generator. rw add-one (p.1 generator ∙ fault-next a.sites generator p.0 a.perm.now l.target-index c.loop-target-test.true below fresh),
        marks_next a.sites l.seen p.0 t (omega arith) p.2,
      ),
    )

pub returns : goal.returns
returns c generator =
    let a = c.args in
    let l = c.loop-target in
    let p = l.invariant.2 in
    sym (ap unbroken (p.1 generator ∙ fault-none a.sites generator p.0 a.perm.now l.target-index c.loop-target-test.false))
