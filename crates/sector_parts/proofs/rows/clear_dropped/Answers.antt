use Rattle.sector_parts.proofs.Passing.{rows_none, rows_next}
use Rattle.row_lists.proofs.Rows.{part-row}
use Rattle.row_lists.specs.Rows.{row_at, no_word}
use Rattle.elements.proofs.Orbits.{part_length}
use Rattle.packed.specs.Packed.{word_bits}
use Rattle.pauli_word.specs.Limits.{word_length}
use lib.Dec.{eqb}
use lib.ListN.{length, get_or, take, drop}
use mathlib.Core.Bool.{cond}
use mathlib.Core.List.{List}
use mathlib.Core.Path.{◌≡◌, ap, ◌∙◌}
use Prim.Native.Nat.{ℕ, ◌+◌, ◌-◌, ◌*◌, ◌^◌, ◌≤◌, ◌<◌}
use native.Mathlib.Omega.{arith}
use Rattle.sector_parts.proofs.rows.clear_dropped.Goals as goal
use Rattle.sector_parts.proofs.rows.clear_dropped.Lts as lts
use Rattle.sector_parts.proofs.rows.clear_dropped.Tie as tie
use Rattle.sector_parts.proofs.rows.clear_dropped.Reads as reads

abbrev ctx-Start : Type 0
ctx-Start = lts.Start tie.the-claims reads.Pre reads.Post goal.the-invariant-loop-i goal.the-decreases-loop-i

abbrev ctx-In-loop : Type 0
ctx-In-loop = lts.In-loop tie.the-claims reads.Pre reads.Post goal.the-invariant-loop-i goal.the-decreases-loop-i

-- in the loop: row i is one of the rows, and as it was
module _ (c : ctx-In-loop) where
  abbrev start : ctx-Start
  start = c.before.before.before.before

  room : word_length * c.loop-i.i + word_length ≤ length c.loop-i.representatives
  room = omega (arith, c.loop-i-test.true, c.loop-i.invariant.1.wide, start.requires)

  small : word_length * c.loop-i.i + word_length < 2 ^ word_bits
  small = omega (arith, room, c.loop-i.invariant.1.wide, start.well_formed.0)

  same_row : take (word_length * c.loop-i.i + word_length - word_length * c.loop-i.i) (drop (word_length * c.loop-i.i) c.loop-i.representatives) ≡ row_at start.args.representatives.now c.loop-i.i
  same_row = part-row c.loop-i.representatives c.loop-i.i ∙ c.loop-i.invariant.1.row c.loop-i.i (omega arith)

-- what row j becomes
abbrev Clear : List ℕ → List ℕ → ℕ → List ℕ → Type 0
Clear representatives sizes j row = row ≡ cond (eqb (get_or sizes j 0) 0) no_word (row_at representatives j)

pub loop-i-init : goal.loop-i-init
loop-i-init c = (omega arith, rows_none _ _)

pub overflow_mul-at : goal.overflow_mul-at
overflow_mul-at c = omega (arith, small c.before)

pub overflow_add-end : goal.overflow_add-end
overflow_add-end c = omega (arith, small c.before)

pub offset_bounds-sizes-i : goal.offset_bounds-sizes-i
offset_bounds-sizes-i c = omega (arith, small c.before)

pub bounds-sizes-i : goal.bounds-sizes-i
bounds-sizes-i c = omega (arith, c.loop-i-test.true)

pub slice_bounds-clear_row-count : goal.slice_bounds-clear_row-count
slice_bounds-clear_row-count c = omega arith

pub slice_bounds-clear_row-start : goal.slice_bounds-clear_row-start
slice_bounds-clear_row-start c = omega arith

pub slice_bounds-clear_row-end : goal.slice_bounds-clear_row-end
slice_bounds-clear_row-end c = omega (arith, room c.before.before)

pub clear_row-requires : goal.clear_row-requires
clear_row-requires c = part_length word_length c.loop-i.i c.loop-i.representatives (room c.before.before.before)

pub loop-i-preserved : goal.loop-i-preserved
loop-i-preserved c =
    let l = c.loop-i in
    let a = (start c.before.before.before.before.before.before).args in (
      omega (arith, c.loop-i-test.true),
      rows_next (Clear a.representatives.now a.sizes.now) l.invariant.1 (room c.before.before.before.before.before.before) c.clear_row.new.row (c.clear_row.auto.row ∙ part_length word_length l.i l.representatives (room c.before.before.before.before.before.before))
          (c.clear_row.ensures ∙ ap (cond (eqb (get_or a.sizes.now l.i 0) 0) no_word) (same_row c.before.before.before.before.before.before)),
    )

pub returns : goal.returns
returns c i h = c.loop-i.invariant.1.done i (omega (arith, c.loop-i-test.false, h))
