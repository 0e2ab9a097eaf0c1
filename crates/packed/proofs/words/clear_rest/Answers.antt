use mathlib.Core.Path.{refl}
use native.Mathlib.Omega.{arith}
use lib.ListN.{length-set}
use Rattle.packed.proofs.Packing.{cleared-next, cleared-end}
use Rattle.packed.proofs.words.clear_rest.Goals as goal

pub loop-j-init : goal.loop-j-init
loop-j-init c = (omega arith, refl, λ f none old. old)

pub bounds-plane-j : goal.bounds-plane-j
bounds-plane-j c = omega arith

pub loop-j-preserved : goal.loop-j-preserved
loop-j-preserved c =
    let l = c.loop-j in (
      omega arith,
      simp length-set l.invariant.1,
      λ f none old. cleared-next f c.args.at none l.plane l.j l.invariant.0 (l.invariant.2 f none old) (omega arith),
    )

pub returns : goal.returns
returns c =
    let l = c.loop-j in
    λ f none old. cleared-end f c.args.at none l.plane l.j l.invariant.0 (l.invariant.2 f none old) (omega arith)
