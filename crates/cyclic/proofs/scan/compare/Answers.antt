-- `scan::compare` meets its contract: symbols are the same once round, and all of their bits are inside the block.
use Prim.Native.Nat.{ℕ, ◌+◌}
use mathlib.Core.Path.{subst₂}
use mathlib.Core.Bool.{Bool}
use native.Mathlib.Omega.{arith}
use Rattle.packed.specs.Packed.{bit_of, Compared}
use Rattle.cyclic.proofs.Symbols.{symbols_fit, symbol_fits, symbol-round}
use Rattle.cyclic.proofs.scan.compare.Goals as goal

pub overflow_add-s : goal.overflow_add-s
overflow_add-s c =
    let a = c.args in
    let f = symbols_fit a.turn.start a.turn.step a.m a.block c.requires.start_lt_step.0 c.requires.start_lt_step.1 in
    omega arith

pub overflow_add-s-2 : goal.overflow_add-s-2
overflow_add-s-2 c =
    let a = c.args in
    let f = symbols_fit a.turn.start a.turn.step a.m a.block c.requires.start_lt_step.0 c.requires.start_lt_step.1 in
    omega arith

pub overflow_mul-a : goal.overflow_mul-a
overflow_mul-a c =
    let a = c.args in
    let f = symbol_fits a.turn.step a.m a.block c.round-a.result (a.s.i + a.s.k) c.requires.start_lt_step.1 (omega arith) c.round-a.ensures in
    omega arith

pub overflow_add-start : goal.overflow_add-start
overflow_add-start c =
    let a = c.args in
    let f = symbol_fits a.turn.step a.m a.block c.round-a.result (a.s.i + a.s.k) c.requires.start_lt_step.1 (omega arith) c.round-a.ensures in
    omega arith

pub overflow_mul-b : goal.overflow_mul-b
overflow_mul-b c =
    let a = c.args in
    let g = symbol_fits a.turn.step a.m a.block c.round-b.result (a.s.j + a.s.k) c.requires.start_lt_step.1 (omega arith) c.round-b.ensures in
    omega arith

pub overflow_add-start-2 : goal.overflow_add-start-2
overflow_add-start-2 c =
    let a = c.args in
    let g = symbol_fits a.turn.step a.m a.block c.round-b.result (a.s.j + a.s.k) c.requires.start_lt_step.1 (omega arith) c.round-b.ensures in
    omega arith

pub cmp-requires : goal.cmp-requires
cmp-requires c =
    let a = c.args in
    let f = symbol_fits a.turn.step a.m a.block c.round-a.result (a.s.i + a.s.k) c.requires.start_lt_step.1 (omega arith) c.round-a.ensures in
    let g = symbol_fits a.turn.step a.m a.block c.round-b.result (a.s.j + a.s.k) c.requires.start_lt_step.1 (omega arith) c.round-b.ensures in record {
      block_bound = omega arith;
      step_bound = omega arith;
      step_bound_2 = omega arith;
    }

pub returns : goal.returns
returns c =
    let a = c.args in
    let h : ℕ → Bool = λ y. bit_of a.ws.now (a.base + y) in
    let e = symbol-round h a.block a.turn.start a.turn.step a.m c.requires.start_lt_step.1 in
    subst₂ (λ (f g : ℕ → Bool). Compared c.cmp.result a.turn.step f g)
    (e c.round-a.result (a.s.i + a.s.k) c.round-a.ensures)
    (e c.round-b.result (a.s.j + a.s.k) c.round-b.ensures)
    c.cmp.ensures
