use Prim.Native.Nat.{ℕ, ◌+◌, ◌-◌, ◌*◌}
use mathlib.Core.Path.{refl, ◌∙◌}
use mathlib.Core.Bool.{Bool, cond}
use mathlib.Core.List.{List}
use native.Mathlib.Omega.{arith}
use lib.ListN.{length-set}
use Rattle.packed.specs.Packed.{word_bits, bit_of}
use Rattle.packed.proofs.Packing.{between_next}
use Rattle.packed.proofs.Masks.{turned_word}
use Rattle.packed.proofs.shift.turn_padded.Goals as goal

-- the bits of a padded plane, turned
abbrev turned_in : List ℕ → ℕ → List ℕ → ℕ → ℕ → ℕ → Bool
turned_in pad before keep s t q = cond (bit_of keep q) (bit_of pad (word_bits * before + q - s)) (bit_of pad (word_bits * before + q + t))

pub loop-i-init : goal.loop-i-init
loop-i-init c = (omega arith, refl, λ j h l. absurd (omega arith))

pub overflow_add-at : goal.overflow_add-at
overflow_add-at c = omega arith

pub overflow_mul-at : goal.overflow_mul-at
overflow_mul-at c = omega arith

pub offset_bounds-keep-i : goal.offset_bounds-keep-i
offset_bounds-keep-i c = omega arith

pub bounds-keep-i : goal.bounds-keep-i
bounds-keep-i c = omega arith

pub overflow_sub-at : goal.overflow_sub-at
overflow_sub-at c = omega arith

pub window-requires : goal.window-requires
window-requires c = omega arith

pub overflow_add-at-in-loop-i : goal.overflow_add-at-in-loop-i
overflow_add-at-in-loop-i c = omega arith

pub window-requires-in-loop-i : goal.window-requires-in-loop-i
window-requires-in-loop-i c = omega arith

pub offset_bounds-plane-i : goal.offset_bounds-plane-i
offset_bounds-plane-i c = omega arith

pub bounds-plane-i : goal.bounds-plane-i
bounds-plane-i c = omega arith

pub loop-i-preserved : goal.loop-i-preserved
loop-i-preserved c =
    let a = c.args in
    let l = c.loop-i in
    let long = length-set l.plane l.i c.pick.result in
    let pad = a.pad.now in
    let keep = a.keep.now in
    let word = turned_word a.s a.t l.i a.before pad keep c.window.result c.window-in-loop-i.result c.pick.result c.requires.s_bound.0 c.pick.ensures c.window.ensures c.window-in-loop-i.ensures in (
      omega (arith, long),
      long ∙ l.invariant.1,
      between_next (turned_in pad a.before keep a.s a.t) l.plane l.i c.pick.result (omega arith) word l.invariant.2,
    )

pub returns : goal.returns
returns c = let l = c.loop-i in λ q h. l.invariant.2 q (omega arith) (omega (arith, l.invariant.1, c.loop-i-test.false))
