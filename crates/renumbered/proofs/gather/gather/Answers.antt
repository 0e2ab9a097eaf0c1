use mathlib.Core.Bool.{Bool}
use lib.ListN.{length-set}
use Rattle.packed.specs.Packed.{bit_of}
use Rattle.packed.proofs.Packing.{between_next}
use Rattle.renumbered.specs.Renumbered.{at}
use Rattle.renumbered.proofs.Gathered.{first_bits, gathered-word, gathered-bits, gathered-clear}
use mathlib.Core.Path.{refl, ◌∙◌}
use Prim.Native.Nat.{ℕ}
use native.Mathlib.Omega.{arith}
use Rattle.renumbered.proofs.gather.gather.Goals as goal

pub loop-i-init : goal.loop-i-init
loop-i-init c = (omega arith, refl, λ q l h. absurd (omega arith))

pub overflow_mul-i : goal.overflow_mul-i
overflow_mul-i c = omega arith

pub overflow_sub-sites : goal.overflow_sub-sites
overflow_sub-sites c = omega arith

pub gather_word-requires : goal.gather_word-requires
gather_word-requires c = omega (arith, c.smaller-count.ensures, c.smaller-start.ensures)

pub offset_bounds-out-i : goal.offset_bounds-out-i
offset_bounds-out-i c = omega arith

pub bounds-out-i : goal.bounds-out-i
bounds-out-i c = omega arith

pub loop-i-preserved : goal.loop-i-preserved
loop-i-preserved c =
    let a = c.args in
    let l = c.loop-i in
    let f : ℕ → Bool = λ q. bit_of a.plane.now (at a.table.now q) in
    let long = length-set l.out l.i c.gather_word.result in (
      omega (arith, long),
      long ∙ l.invariant.1,
      between_next (first_bits f a.sites) l.out l.i c.gather_word.result (omega arith)
          (gathered-word f a.sites l.i c.smaller-start.result c.smaller-count.result c.gather_word.result c.smaller-start.ensures c.smaller-count.ensures c.gather_word.ensures) l.invariant.2,
    )

pub returns : goal.returns
returns c =
    let a = c.args in
    let l = c.loop-i in
    let f : ℕ → Bool = λ q. bit_of a.plane.now (at a.table.now q) in
    let room = rw (← l.invariant.1) at c.requires.sites_bound.0 in record {
      bits = gathered-bits f a.sites l.out l.i room (omega (arith, c.loop-i.auto.out)) l.invariant.2;
      clear = gathered-clear f a.sites l.out l.i room (omega (arith, c.loop-i.auto.out)) l.invariant.2;
    }
