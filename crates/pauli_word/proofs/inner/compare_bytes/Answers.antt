use mathlib.Core.Path.{refl, sym, ◌∙◌}
use native.Mathlib.Omega.{arith}
use Rattle.pauli_word.proofs.WordOrder.{byte-apart, byte-same, bytes_end}
use Rattle.pauli_word.proofs.inner.compare_bytes.Goals as goal

pub loop-i-init : goal.loop-i-init
loop-i-init c = (c.shorter-n.ensures, omega arith, refl)

pub bounds-a-i : goal.bounds-a-i
bounds-a-i c = omega arith

pub bounds-b-i : goal.bounds-b-i
bounds-b-i c = omega arith

pub returns-then-x-y : goal.returns-then-x-y
returns-then-x-y c =
    let a = c.args in
    let l = c.loop-i in
    let xs = c.shared_slice_known-in-loop-i-1.given l.i in
    let ys = c.shared_slice_known-in-loop-i-2-1.given l.i in record {
      order = c.compare_byte.ensures
          ∙ sym (l.invariant.2 ∙ byte-apart a.a.now a.b.now l.i (omega arith) (omega arith) xs.fits ys.fits c.if-x-y.true);
    }

pub loop-i-preserved : goal.loop-i-preserved
loop-i-preserved c =
    let a = c.args in
    let l = c.loop-i in
    (l.invariant.0, omega arith, l.invariant.2 ∙ byte-same a.a.now a.b.now l.i (omega arith) (omega arith) c.if-x-y.false)

pub returns : goal.returns
returns c =
    let a = c.args in
    let l = c.loop-i in record {
      order = sym (l.invariant.2 ∙ bytes_end a.a.now a.b.now l.i (omega arith));
    }
