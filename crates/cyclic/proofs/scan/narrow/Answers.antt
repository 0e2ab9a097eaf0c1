use Prim.Native.Nat.{ℕ, ◌+◌, ◌*◌, ◌-◌, ◌<◌}
use mathlib.Core.Path.{sym, subst, subst₂}
use mathlib.Core.Bool.{Bool}
use native.Mathlib.Omega.{arith}
use borrow.Author.Tests.{ltb-true}
use Rattle.packed.specs.Packed.{bit_of}
use Rattle.packed.proofs.Masks.{block_fits}
use Rattle.cyclic.specs.Narrowing.{Narrowed}
use Rattle.cyclic.specs.declared.scan.Scan.{Scan}
use Rattle.cyclic.proofs.Scans.{Scanning, scan-start}
use Rattle.cyclic.proofs.Symbols.{SameSymbol, LessSymbol, symbols-ring, scan-next, scan-narrowed, scan_grows, symbols_fit}
use Rattle.cyclic.proofs.scan.narrow.Goals as goal
use Rattle.cyclic.proofs.scan.narrow.Goals.{After-period_of-period, then-loop-s-test+then-s-m+else-s-m-2, then-loop-s-test+else-s-m, else-loop-s-test}

pub loop-s-init : goal.loop-s-init
loop-s-init c =
    let a = c.args in
    let h : ℕ → Bool = λ y. bit_of a.ws.now (a.base + y) in
    scan-start a.m (SameSymbol h a.block a.turn.start a.turn.step) (LessSymbol h a.block a.turn.start a.turn.step) (symbols-ring h a.block a.turn.start a.turn.step a.m c.requires.start_lt_step.1)

pub compare-order-requires : goal.compare-order-requires
compare-order-requires c = record {
  block_bound = omega (arith, ltb-true);
  start_lt_step = omega (arith, ltb-true);
  i_lt_m = omega (arith, ltb-true);
}

pub next-s-requires : goal.next-s-requires
next-s-requires c =
    let a = c.args in
    let f = symbols_fit a.turn.start a.turn.step a.m a.block c.requires.start_lt_step.0 c.requires.start_lt_step.1 in
    omega (arith, ltb-true)

pub loop-s-smaller : goal.loop-s-smaller
loop-s-smaller c =
    let a = c.args in
    let l = c.loop-s in
    let g = scan_grows c.compare-order.result l.s in
    subst (λ (x : Scan). a.m + a.m + a.m - (x.i + x.j + x.k) < a.m + a.m + a.m - (l.s.i + l.s.j + l.s.k)) (sym c.next-s.ensures) (omega (arith, ltb-true))

pub loop-s-preserved : goal.loop-s-preserved
loop-s-preserved c =
    let a = c.args in
    let h : ℕ → Bool = λ y. bit_of a.ws.now (a.base + y) in
    let l = c.loop-s in
    let e : ℕ → ℕ → Type 0 = SameSymbol h a.block a.turn.start a.turn.step in
    let f : ℕ → ℕ → Type 0 = LessSymbol h a.block a.turn.start a.turn.step in
    subst (λ (x : Scan). Scanning a.m e f x.i x.j x.k) (sym c.next-s.ensures)
    (scan-next h a.block a.turn.start a.turn.step a.m c.requires.start_lt_step.1 c.requires.start_lt_step.0 c.compare-order.result l.s l.invariant (omega (arith, ltb-true)) c.compare-order.ensures)

pub first_of-first-requires : goal.first_of-first-requires
first_of-first-requires c = omega arith

pub period_of-period-requires : goal.period_of-period-requires
period_of-period-requires c = omega arith

pub returns : goal.returns
returns c =
    let a = c.args in
    let l = c.loop-s in
    let h : ℕ → Bool = λ y. bit_of a.ws.now (a.base + y) in
    let over : l.s.k < a.m → l.s.i < a.m → l.s.j < a.m → ⊥ = elim c.loop-s-test.branch [
      | then-loop-s-test+then-s-m+else-s-m-2 w ↦ λ x y z. omega arith
      | then-loop-s-test+else-s-m w ↦ λ x y z. omega arith
      | else-loop-s-test w ↦ λ x y z. omega arith
    ] in
    subst₂ (λ (x y : ℕ). Narrowed a.block a.block h a.turn.start a.turn.step (a.turn.start + x * a.turn.step) (a.turn.step * y))
    (sym c.first_of-first.ensures) (sym c.period_of-period.ensures)
    (scan-narrowed h a.block a.turn.start a.turn.step a.m c.requires.start_lt_step.1 c.requires.start_lt_step.0 l.s c.requires.start_lt_step.2 l.invariant over)

-- the turns that are left begin and go on inside the block
pub overflow_mul-result : goal.overflow_mul-result
overflow_mul-result c =
    let a = c.args in
    let n = returns (goal.at.overflow_mul-result c).After-period_of-period in
    let m = symbols_fit a.turn.start a.turn.step a.m a.block c.requires.start_lt_step.0 c.requires.start_lt_step.1 in
    let f = block_fits (a.turn.step * c.period_of-period.result) a.block n.divides (omega arith) in
    let g = n.inside in
    omega arith

pub overflow_add-result : goal.overflow_add-result
overflow_add-result c =
    let a = c.args in
    let n = returns (goal.at.overflow_add-result c).After-period_of-period in
    let m = symbols_fit a.turn.start a.turn.step a.m a.block c.requires.start_lt_step.0 c.requires.start_lt_step.1 in
    let f = block_fits (a.turn.step * c.period_of-period.result) a.block n.divides (omega arith) in
    let g = n.inside in
    omega arith

pub overflow_mul-result-2 : goal.overflow_mul-result-2
overflow_mul-result-2 c =
    let a = c.args in
    let n = returns (goal.at.overflow_mul-result-2 c).After-period_of-period in
    let m = symbols_fit a.turn.start a.turn.step a.m a.block c.requires.start_lt_step.0 c.requires.start_lt_step.1 in
    let f = block_fits (a.turn.step * c.period_of-period.result) a.block n.divides (omega arith) in
    let g = n.inside in
    omega arith
