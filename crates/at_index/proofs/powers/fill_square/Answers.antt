use Prim.Native.Nat.{ℕ, ◌+◌}
use mathlib.Core.Path.{refl, sym, ap, ◌∙◌}
use native.Mathlib.Omega.{arith}
use lib.ListN.{set, take, length-set}
use Rattle.pauli_word.proofs.Copies.{copy_next, copy_end}
use Rattle.at_index.specs.Powers.{squared}
use Rattle.at_index.proofs.Squares.{squared-length, squared-at}
use Rattle.at_index.proofs.powers.fill_square.Goals as goal

pub loop-q-init : goal.loop-q-init
loop-q-init c = (omega arith, refl, refl)

pub offset_bounds-perm-q : goal.offset_bounds-perm-q
offset_bounds-perm-q c = omega arith

pub bounds-perm-q : goal.bounds-perm-q
bounds-perm-q c = omega arith

pub offset_bounds-perm-next : goal.offset_bounds-perm-next
offset_bounds-perm-next c = omega (arith, c.requires.permutes.inside c.loop-q.q c.loop-q-test.true)

pub bounds-perm-next : goal.bounds-perm-next
bounds-perm-next c = c.requires.permutes.inside c.loop-q.q c.loop-q-test.true

pub offset_bounds-out-q : goal.offset_bounds-out-q
offset_bounds-out-q c = omega arith

pub bounds-out-q : goal.bounds-out-q
bounds-out-q c = omega arith

pub loop-q-preserved : goal.loop-q-preserved
loop-q-preserved c =
    let l = c.loop-q in
    let perm = c.args.perm.now in
    let more = c.loop-q-test.true in
    let long = squared-length perm in (
      omega arith,
      simp length-set l.invariant.1,
      ap (λ (v : ℕ). take (l.q + 1) (set l.out l.q v)) (sym (squared-at perm l.q more))
          ∙ copy_next (squared perm) l.out l.q (omega arith) (omega arith) l.invariant.2,
    )

pub returns : goal.returns
returns c =
    let perm = c.args.perm.now in
    let l = c.loop-q in
    let long = squared-length perm in
    copy_end (squared perm) l.out l.q (omega arith) (omega arith) l.invariant.2
