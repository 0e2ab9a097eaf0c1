use mathlib.Core.Path.{sym, ◌∙◌}
use native.Mathlib.Omega.{arith}
use Rattle.pauli_word.proofs.Planes.{bytes_of_lem, clear_from_past, clear_from-start, clear-more, clear-end}
use Rattle.pauli_word.proofs.plane.clear_from.Goals as goal

pub returns-then-plane-first : goal.returns-then-plane-first
returns-then-plane-first c = let a = c.args in sym (clear_from_past a.plane.now a.n c.if-plane-first.true)

pub bounds-plane-first : goal.bounds-plane-first
bounds-plane-first c = omega arith

pub overflow_cast-any : goal.overflow_cast-any
overflow_cast-any c = omega arith

pub overflow_shr-any : goal.overflow_shr-any
overflow_shr-any c = omega arith

pub loop-j-init : goal.loop-j-init
loop-j-init c =
    let a = c.args in
    (omega arith, clear_from-start a.plane.now a.n (bytes_of_lem a.plane.now (λ i. (c.shared_slice_known-1.given i).fits)) c.if-plane-first.false)

pub bounds-plane-j : goal.bounds-plane-j
bounds-plane-j c = omega arith

pub loop-j-preserved : goal.loop-j-preserved
loop-j-preserved c =
    let a = c.args in
    let l = c.loop-j in
    (omega arith, l.invariant.1 ∙ clear-more a.plane.now l.j l.any c.loop-j-test.true (c.shared_slice_known-in-loop-j-1.given l.j).fits)

pub returns : goal.returns
returns c = let l = c.loop-j in sym (l.invariant.1 ∙ clear-end _ l.j l.any c.loop-j-test.false)
