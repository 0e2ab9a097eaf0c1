use Prim.Native.Nat.{ℕ, ◌+◌}
use mathlib.Core.Path.{◌≡◌, sym, ◌∙◌, ap}
use mathlib.Core.Bool.{Bool, not}
use native.Mathlib.Omega.{arith}
use Rattle.cyclic.specs.Narrowing.{round_at}
use Rattle.cyclic.proofs.BitOrder.{bit-same, bit-apart, same_more}
use Rattle.cyclic.proofs.scan.cmp.Goals as goal

pub loop-y-init : goal.loop-y-init
loop-y-init c = (omega arith, λ x h. absurd (omega arith))

pub overflow_add-p : goal.overflow_add-p
overflow_add-p c = omega arith

pub bit-a-requires : goal.bit-a-requires
bit-a-requires c = record {
  block_bound = omega arith;
  p_bound = omega arith;
}

pub overflow_add-q : goal.overflow_add-q
overflow_add-q c = omega arith

pub bit-b-requires : goal.bit-b-requires
bit-b-requires c = record {
  block_bound = omega arith;
  p_bound = omega arith;
}

pub returns-then-a : goal.returns-then-a
returns-then-a c =
    let l = c.loop-y in
    (l.y, omega arith, (λ x h. sym (l.invariant.1 x h)), sym c.bit-b.ensures ∙ bit-apart c.bit-a.result c.bit-b.result c.if-a-b.true ∙ ap not c.if-a.true, sym c.bit-a.ensures ∙ c.if-a.true)

pub returns-then-a-b : goal.returns-then-a-b
returns-then-a-b c =
    let l = c.loop-y in
    (l.y, omega arith, l.invariant.1, sym c.bit-a.ensures ∙ c.if-a.false, sym c.bit-b.ensures ∙ bit-apart c.bit-a.result c.bit-b.result c.if-a-b.true ∙ ap not c.if-a.false)

pub loop-y-preserved : goal.loop-y-preserved
loop-y-preserved c =
    let l = c.loop-y in
    let a = c.args in
    let f : ℕ → Bool = λ x. round_at a.ws.now a.base a.block (a.p + x) in
    let g : ℕ → Bool = λ x. round_at a.ws.now a.base a.block (a.q + x) in
    let e : f l.y ≡ g l.y = sym c.bit-a.ensures ∙ bit-same c.bit-a.result c.bit-b.result c.if-a-b.false ∙ c.bit-b.ensures in
    (omega arith, λ x h. same_more f g l.y l.invariant.1 e x (omega arith))

pub returns : goal.returns
returns c = λ x h. c.loop-y.invariant.1 x (omega arith)
