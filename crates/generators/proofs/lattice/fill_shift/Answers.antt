use mathlib.Core.Path.{refl, ◌∙◌}
use native.Mathlib.Omega.{arith}
use lib.ListN.{length, length-set}
use Rattle.action.specs.Lattice.{shifted}
use Rattle.generators.proofs.Stores.{holds-next}
use Rattle.generators.proofs.Shifts.{shifted-small, shift-stored}
use Rattle.pauli_word.specs.Limits.{max_sites}
use Rattle.generators.proofs.lattice.fill_shift.Goals as goal

pub loop-q-init : goal.loop-q-init
loop-q-init c = (omega arith, refl, λ k h. absurd (omega arith))

pub shifted-requires : goal.shifted-requires
shifted-requires c =
    let p = c.requires in
    let l = c.loop-q in
    (p.0, p.1, p.2, omega (arith, p.3, l.invariant.1))

pub overflow_cast-row : goal.overflow_cast-row
overflow_cast-row c =
    let p = c.requires in
    let l = c.loop-q in
    omega (arith, c.shifted.ensures, shifted-small c.args.stride c.args.side l.q p.0 p.1 max_sites p.2 (omega (arith, p.3, l.invariant.1)))

pub offset_bounds-row-q : goal.offset_bounds-row-q
offset_bounds-row-q c = omega arith

pub bounds-row-q : goal.bounds-row-q
bounds-row-q c = omega arith

pub loop-q-preserved : goal.loop-q-preserved
loop-q-preserved c =
    let a = c.args in
    let l = c.loop-q in
    let long = length-set l.row l.q c.shifted.result in (
      omega (arith, long),
      long ∙ l.invariant.1,
      holds-next (shifted a.stride a.side) l.row l.q c.shifted.result (omega arith) c.shifted.ensures l.invariant.2,
    )

pub returns : goal.returns
returns c =
    let a = c.args in
    let l = c.loop-q in
    shift-stored a.stride a.side l.row (length a.row.now) l.q l.invariant.1 (omega arith) l.invariant.2
