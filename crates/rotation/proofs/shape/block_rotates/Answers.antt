use Prim.Native.Nat.{ℕ, ◌+◌, ◌%◌, ◌<◌}
use mathlib.Core.Path.{◌≡◌, ap, ◌∙◌}
use mathlib.Core.Bool.{false≢true}
use native.Mathlib.Nat.{mod-lt}
use native.Mathlib.Omega.{arith}
use lib.ListN.{get_or}
use borrow.Author.Count.{below_more}
use Rattle.rotation.proofs.shape.block_rotates.Goals as goal

pub loop-place-init : goal.loop-place-init
loop-place-init c = (omega arith, λ p h. absurd (omega arith))

pub overflow_add-target : goal.overflow_add-target
overflow_add-target c = omega (arith, c.requires, c.loop-place-test.true)

pub offset_bounds-perm-base : goal.offset_bounds-perm-base
offset_bounds-perm-base c = omega (arith, c.requires, c.loop-place-test.true)

pub bounds-perm-base : goal.bounds-perm-base
bounds-perm-base c = omega (arith, c.requires, c.loop-place-test.true)

pub overflow_add-place : goal.overflow_add-place
overflow_add-place c = omega (arith, c.requires, c.loop-place-test.true)

pub round-requires : goal.round-requires
round-requires c = omega (arith, c.requires, c.loop-place-test.true)

pub overflow_add-base : goal.overflow_add-base
overflow_add-base c =
    let p = c.requires in
    let some : 0 < c.args.block = omega (arith, p.0) in
    omega (arith, c.round.ensures, mod-lt (c.loop-place.place + c.args.stride) some, p)

pub returns-then-target-base : goal.returns-then-target-base
returns-then-target-base c = (λ e. absurd (false≢true e))

pub loop-place-preserved : goal.loop-place-preserved
loop-place-preserved c =
    let l = c.loop-place in (
      omega (arith, c.loop-place-test.true),
      below_more (λ p. get_or c.args.perm.now (c.args.base + p) 0 ≡ c.args.base + (p + c.args.stride) % c.args.block) l.place l.invariant.1
          (c.if-target-base.false ∙ ap (λ (t : ℕ). c.args.base + t) c.round.ensures),
    )

pub returns : goal.returns
returns c = λ e p h. c.loop-place.invariant.1 p (omega (arith, c.loop-place-test.false))
