use Prim.Native.Nat.{ℕ}
use mathlib.Core.Path.{◌≡◌, ◌∙◌, subst}
use native.Mathlib.Nat.{zero-mod, add-mod_right}
use native.Mathlib.Omega.{arith}
use Rattle.packed.specs.Packed.{bit_of}
use Rattle.cyclic.specs.Narrowing.{Narrowed}
use Rattle.cyclic.proofs.Symbols.{whole_symbols, block_more}
use Rattle.cyclic.proofs.Refinement.{narrowed_none, narrowed_more, narrowed_alone}
use Rattle.cyclic.proofs.refine.refine.Goals as goal

pub loop-base-init : goal.loop-base-init
loop-base-init c =
    let a = c.args in
    (zero-mod a.block, omega arith, narrowed_none a.block (bit_of a.ws.now) a.turn.start a.turn.step c.requires.start_lt_step.0 c.requires.start_lt_step.1)

pub returns-then-step-block : goal.returns-then-step-block
returns-then-step-block c =
    let a = c.args in
    let l = c.loop-base in
    narrowed_alone l.base a.sites a.block (bit_of a.ws.now) a.turn.start a.turn.step l.left.start l.left.step l.invariant.1 c.if-step-block.true l.invariant.2

pub nonzero_div-block : goal.nonzero_div-block
nonzero_div-block c = let l = c.loop-base in let h = l.invariant.2.inside in omega arith

pub narrow-left-requires : goal.narrow-left-requires
narrow-left-requires c =
    let a = c.args in
    let l = c.loop-base in
    let w = whole_symbols a.block l.left.step c.requires.block_nonzero.0 l.invariant.2.divides in
    let m = block_more a.block a.sites l.base c.requires.block_nonzero.0 c.requires.block_nonzero.1 l.invariant.0 c.loop-base-test.true in record {
      block_bound = omega arith;
      start_lt_step = (l.invariant.2.inside, w.0, w.1);
    }

pub overflow_add-base : goal.overflow_add-base
overflow_add-base c =
    let a = c.args in
    let l = c.loop-base in
    let m = block_more a.block a.sites l.base c.requires.block_nonzero.0 c.requires.block_nonzero.1 l.invariant.0 c.loop-base-test.true in
    omega arith

pub loop-base-smaller : goal.loop-base-smaller
loop-base-smaller c =
    let a = c.args in
    let l = c.loop-base in
    let m = block_more a.block a.sites l.base c.requires.block_nonzero.0 c.requires.block_nonzero.1 l.invariant.0 c.loop-base-test.true in
    omega arith

pub loop-base-preserved : goal.loop-base-preserved
loop-base-preserved c =
    let a = c.args in
    let l = c.loop-base in
    let m = block_more a.block a.sites l.base c.requires.block_nonzero.0 c.requires.block_nonzero.1 l.invariant.0 c.loop-base-test.true in (
      add-mod_right l.base a.block ∙ l.invariant.0,
      m,
      narrowed_more l.base a.block (bit_of a.ws.now) a.turn.start a.turn.step l.left.start l.left.step c.narrow-left.result.start c.narrow-left.result.step
          c.requires.block_nonzero.0 l.invariant.0 l.invariant.2 c.narrow-left.ensures,
    )

pub returns : goal.returns
returns c =
    let a = c.args in
    let l = c.loop-base in
    let e : l.base ≡ a.sites = omega arith in
    subst (λ (n : ℕ). Narrowed n a.block (bit_of a.ws.now) a.turn.start a.turn.step l.left.start l.left.step) e l.invariant.2
