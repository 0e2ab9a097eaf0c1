-- `inner::put_site` meets its contract: the two planes are stored one after the other.
use mathlib.Core.Path.{sym, ◌∙◌}
use native.Mathlib.Omega.{arith}
use lib.Seq.{length-take-le}
use Rattle.pauli_word.proofs.Words.{site-stored}
use Rattle.pauli_word.specs.Limits.{plane_length}
use Rattle.pauli_word.proofs.inner.put_site.Goals as goal

pub slice_bounds-or_bit-end-2 : goal.slice_bounds-or_bit-end-2
slice_bounds-or_bit-end-2 c = sym (length-take-le plane_length c.args.word.now (omega arith))

pub returns : goal.returns
returns c =
    let a = c.args in
    site-stored plane_length a.word.now c.or_bit.new.plane c.or_bit-2.new.plane c.requires
    (c.or_bit.auto.plane ∙ length-take-le plane_length a.word.now (omega arith))
    a.q a.x a.z c.or_bit-2.auto.plane c.or_bit.ensures c.or_bit-2.ensures
    (λ i. (c.slice_known-3-1.given i).fits)
