use Prim.Native.Nat.{◌-◌}
use mathlib.Core.Path.{refl, ◌∙◌}
use native.Mathlib.Omega.{arith}
use lib.ListN.{drop, length-take}
use Rattle.pauli_word.specs.Bytes.{number, plane_of}
use Rattle.elements.proofs.Codes.{planes-next, planes_end}
use Rattle.elements.proofs.letters.pack.Goals as goal

pub loop-start-init : goal.loop-start-init
unfolding plane_of number
loop-start-init c = (omega arith, λ h. refl, refl)

pub byte_end-end-requires : goal.byte_end-end-requires
byte_end-end-requires c = c.loop-start.invariant.0

pub slice_bounds-pack_byte-count : goal.slice_bounds-pack_byte-count
slice_bounds-pack_byte-count c = omega arith

pub slice_bounds-pack_byte-start : goal.slice_bounds-pack_byte-start
slice_bounds-pack_byte-start c = omega arith

pub slice_bounds-pack_byte-end : goal.slice_bounds-pack_byte-end
slice_bounds-pack_byte-end c = omega arith

pub pack_byte-b-requires : goal.pack_byte-b-requires
pack_byte-b-requires c =
    let l = c.loop-start in
    omega (arith, c.byte_end-end.ensures, length-take (c.byte_end-end.result - l.start) (drop l.start c.args.letters.now))

pub bounds-out-j : goal.bounds-out-j
bounds-out-j c = omega (arith, c.loop-start.invariant.1 c.loop-start-test.true)

pub overflow_add-out : goal.overflow_add-out
overflow_add-out c = omega (arith, c.loop-start.invariant.1 c.loop-start-test.true)

pub bounds-out-j-in-loop-start : goal.bounds-out-j-in-loop-start
bounds-out-j-in-loop-start c = omega (arith, c.loop-start.invariant.1 c.loop-start-test.true)

pub overflow_add-j : goal.overflow_add-j
overflow_add-j c = omega (arith, c.loop-start.invariant.1 c.loop-start-test.true)

pub loop-start-smaller : goal.loop-start-smaller
loop-start-smaller c = omega arith

pub loop-start-preserved : goal.loop-start-preserved
loop-start-preserved c =
    let a = c.args.letters.now in
    let l = c.loop-start in
    let whole = l.invariant.1 c.loop-start-test.true in (
      omega arith,
      λ h. omega arith,
      cc (
        l.invariant.2,
        c.pack_byte-b.ensures.x,
        c.pack_byte-b.ensures.z,
        planes-next a l.j l.start c.byte_end-end.result whole (omega arith) (omega arith) (omega arith) (omega arith),
      ),
    )

pub returns : goal.returns
returns c = λ w e.
    let a = c.args.letters.now in
    let l = c.loop-start in
    l.invariant.2 ∙ planes_end a l.start c.loop-start-test.false w e
