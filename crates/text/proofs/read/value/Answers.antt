use Prim.Native.Nat.{◌-◌, ◌≤◌, min}
use mathlib.Core.Path.{◌≡◌, refl, sym, ◌∙◌}
use native.Mathlib.Omega.{arith}
use lib.ListN.{length, drop}
use Rattle.text.specs.Text.{read_on, number_of}
use Rattle.text.specs.Parts.{cap}
use Rattle.text.proofs.Numbers.{value_next, value_end}
use Rattle.text.proofs.read.value.Goals as goal

pub loop-byte-init : goal.loop-byte-init
unfolding number_of
loop-byte-init c = (omega arith, omega arith, refl)

pub overflow_mul-v : goal.overflow_mul-v
overflow_mul-v c = omega arith

pub overflow_add-v : goal.overflow_add-v
overflow_add-v c = omega (arith, c.shared_slice_known-1.given c.loop-byte.byte-index)

pub loop-byte-preserved : goal.loop-byte-preserved
loop-byte-preserved c =
    let t = c.args.text.now in
    let l = c.loop-byte in
    let more = c.loop-byte-test.true in
    let next = value_next cap l.v c.digit.result c.capped-v.result t l.byte-index more c.digit.ensures c.capped-v.ensures in
    (omega arith, omega (arith, c.capped-v.ensures), l.invariant.2 ∙ next)

pub returns : goal.returns
returns c =
    let l = c.loop-byte in
    sym (l.invariant.2 ∙ value_end cap l.v c.args.text.now l.byte-index c.loop-byte-test.false l.invariant.1)
