use Prim.Native.Nat.{ℕ}
use mathlib.Core.Path.{ap, ◌∙◌}
use native.Mathlib.Omega.{arith}
use mathlib.Core.Bool.{false≢true}
use lib.Dec.{eqb}
use Rattle.packed.specs.Packed.{bit_at}
use Rattle.grid.proofs.Sets.{between_more, alone-whole}
use Rattle.grid.proofs.candidates.is_alone.Goals as goal

pub loop-i-init : goal.loop-i-init
loop-i-init c = (omega arith, λ q h l. absurd (omega arith))

pub offset_bounds-left-i : goal.offset_bounds-left-i
offset_bounds-left-i c = omega arith

pub bounds-left-i : goal.bounds-left-i
bounds-left-i c = omega arith

pub returns-then-left-i : goal.returns-then-left-i
returns-then-left-i c = λ e. absurd (false≢true e)

pub loop-i-preserved : goal.loop-i-preserved
loop-i-preserved c =
    let a = c.args in
    let l = c.loop-i in
    let left = a.left.now in (
      omega arith,
      between_more (λ q. eqb q a.k) left l.i (λ j h. ap (λ (x : ℕ). bit_at x j) c.if-left-i.false ∙ c.alone_word.ensures j h) l.invariant.1,
    )

pub returns : goal.returns
returns c =
    let l = c.loop-i in
    λ e. alone-whole c.args.left.now c.args.k l.i c.requires (omega arith) l.invariant.1
