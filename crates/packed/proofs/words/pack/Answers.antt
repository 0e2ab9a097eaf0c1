use mathlib.Core.Path.{refl}
use native.Mathlib.Omega.{arith}
use lib.ListN.{length-set}
use Rattle.packed.proofs.Packing.{packed_next}
use Rattle.packed.proofs.words.pack.Goals as goal

pub loop-j-init : goal.loop-j-init
loop-j-init c = (omega arith, refl, λ q h. absurd (omega arith))

pub overflow_mul-j : goal.overflow_mul-j
overflow_mul-j c = omega arith

pub word_from-requires : goal.word_from-requires
word_from-requires c = omega arith

pub offset_bounds-words-j : goal.offset_bounds-words-j
offset_bounds-words-j c = omega arith

pub bounds-words-j : goal.bounds-words-j
bounds-words-j c = omega arith

pub loop-j-preserved : goal.loop-j-preserved
loop-j-preserved c =
    let a = c.args in
    let l = c.loop-j in (
      omega arith,
      simp length-set l.invariant.1,
      packed_next a.plane.now l.words l.j c.word_from.result (omega arith) c.word_from.ensures l.invariant.2,
    )

pub returns : goal.returns
returns c = let l = c.loop-j in λ q h. l.invariant.2 q (omega arith)
