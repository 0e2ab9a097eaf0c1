use Prim.Native.Nat.{ℕ, ◌/◌}
use mathlib.Core.Path.{◌≡◌, ap, ◌∙◌}
use mathlib.Core.List.{map}
use native.Mathlib.Omega.{arith}
use lib.ListN.{drop}
use lib.Seq.{drop-length}
use Rattle.pauli_word.specs.Bytes.{number}
use Rattle.elements.proofs.Codes.{x_of, z_of, digit-before, digit-fits}
use Rattle.elements.proofs.letters.pack_byte.Goals as goal

pub loop-k-init : goal.loop-k-init
unfolding number
loop-k-init c =
    let a = c.args.letters.now in
    (omega arith, rw (drop-length a), rw (drop-length a))

pub bounds-letters-k : goal.bounds-letters-k
bounds-letters-k c = omega arith

pub overflow_mul-x : goal.overflow_mul-x
overflow_mul-x c =
    let a = c.args.letters.now in
    let l = c.loop-k in
    omega (arith, digit-fits (λ b. b) a l.k l.x l.invariant.1 c.loop-k-test.true c.requires)

pub overflow_add-x : goal.overflow_add-x
overflow_add-x c =
    let a = c.args.letters.now in
    let l = c.loop-k in
    omega (arith, digit-fits (λ b. b) a l.k l.x l.invariant.1 c.loop-k-test.true c.requires)

pub overflow_mul-z : goal.overflow_mul-z
overflow_mul-z c =
    let a = c.args.letters.now in
    let l = c.loop-k in
    omega (arith, digit-fits (λ b. b / 2) a l.k l.z l.invariant.2 c.loop-k-test.true c.requires)

pub overflow_add-z : goal.overflow_add-z
overflow_add-z c =
    let a = c.args.letters.now in
    let l = c.loop-k in
    omega (arith, digit-fits (λ b. b / 2) a l.k l.z l.invariant.2 c.loop-k-test.true c.requires)

pub loop-k-preserved : goal.loop-k-preserved
loop-k-preserved c =
    let a = c.args.letters.now in
    let l = c.loop-k in
    let more = c.loop-k-test.true in (
      omega arith,
      digit-before (λ b. b) a l.k l.x l.invariant.1 more l.invariant.0,
      digit-before (λ b. b / 2) a l.k l.z l.invariant.2 more l.invariant.0,
    )

pub returns : goal.returns
returns c =
    let a = c.args.letters.now in
    let l = c.loop-k in
    let e : l.k ≡ 0 = omega arith in record {
      x = l.invariant.1 ∙ ap (λ (k : ℕ). number (map x_of (drop k a))) e;
      z = l.invariant.2 ∙ ap (λ (k : ℕ). number (map z_of (drop k a))) e;
    }
