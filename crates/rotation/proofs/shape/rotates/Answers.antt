use mathlib.Core.Bool.{false≢true}
use native.Mathlib.Omega.{arith}
use borrow.Author.Tests.{not-false}
use Rattle.rotation.proofs.Shaping.{seen_start, block_inside, seen_next, seen_end}
use Rattle.rotation.proofs.shape.rotates.Goals as goal

pub loop-base-init : goal.loop-base-init
loop-base-init c = seen_start c.args.perm.now c.args.stride c.args.block

pub block_rotates-requires : goal.block_rotates-requires
block_rotates-requires c = let p = c.requires in (p.0, block_inside p.0 p.1 c.loop-base-test.true c.loop-base.invariant, p.2)

pub returns-then-not-block_rotates : goal.returns-then-not-block_rotates
returns-then-not-block_rotates c = (λ e. absurd (false≢true e))

pub overflow_add-base : goal.overflow_add-base
overflow_add-base c =
    let p = c.requires in
    omega (arith, block_inside p.0 p.1 c.loop-base-test.true c.loop-base.invariant, p.2)

pub loop-base-smaller : goal.loop-base-smaller
loop-base-smaller c = omega (arith, c.loop-base-test.true, c.requires.0)

pub loop-base-preserved : goal.loop-base-preserved
loop-base-preserved c =
    let p = c.requires in
    seen_next p.0 p.1 c.loop-base-test.true c.loop-base.invariant (c.block_rotates.ensures (not-false c.block_rotates.result c.if-not-block_rotates.false-raw))

pub returns : goal.returns
returns c = λ e. seen_end c.loop-base.invariant c.loop-base-test.false
