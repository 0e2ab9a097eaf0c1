use Prim.Native.Nat.{ℕ, ◌+◌, ◌-◌, ◌*◌, ◌^◌, ◌≤◌, ◌<◌}
use mathlib.Core.Path.{◌≡◌, sym, ap, subst, ◌∙◌}
use mathlib.Core.List.{List}
use native.Mathlib.Omega.{arith}
use lib.IntN.{ℤ, pos, ◌+ℤ◌}
use lib.ListN.{length, get_or, set}
use mir.Syntax.{w64}
use mir.Val.{hbits}
use Rattle.keyed.specs.Keyed.{placed, place_values}
use Rattle.keyed.proofs.Places.{values-start, values_length, value-at}
use Rattle.row_lists.specs.Rows.{max_rows}
use Rattle.phases.specs.Rules.{InRange}
use Rattle.phases.proofs.Ranges.{sum-held, sum-stays}
use Rattle.project.specs.Rows.{max_part, whole_sums}
use Rattle.project.proofs.AddedParts.{place-range, parts_next}
use Rattle.project.proofs.folds.add_parts.Goals as goal
use Rattle.project.proofs.folds.add_parts.Lts as lts
use Rattle.project.proofs.folds.add_parts.Tie as tie
use Rattle.project.proofs.folds.add_parts.Reads as reads

abbrev ctx-Start : Type 0
ctx-Start = lts.Start reads.Pre reads.Post goal.the-invariant-loop-i goal.the-decreases-loop-i tie.handed_clauses

abbrev ctx-In-loop : Type 0
ctx-In-loop = lts.In-loop reads.Pre reads.Post goal.the-invariant-loop-i goal.the-decreases-loop-i tie.handed_clauses

-- row i: its place, the sum there, and its part
module _ (c : ctx-In-loop) where
  abbrev start : ctx-Start
  start = c.before.before

  abbrev i : ℕ
  i = c.loop-i.i

  abbrev at : ℕ
  at = get_or start.args.places.now i 0

  small : i < max_rows
  small = omega (arith, c.loop-i-test.true, start.requires.rows_le_max_rows)

  inside : at < length start.args.sums.now
  inside = start.requires.by_index i c.loop-i-test.true

  long : length c.loop-i.sums ≡ length start.args.sums.now
  long = ap length c.loop-i.invariant.1 ∙ values_length whole_sums (length start.args.sums.now) _

  at_small : at < max_rows
  at_small = omega (arith, inside, start.requires.sums_len_bound)

  part-range : InRange max_part (get_or start.args.parts.now i (pos 0))
  part-range = start.requires.by_index_2 i c.loop-i-test.true

  sum_range : InRange (i * max_part) (get_or c.loop-i.sums at (pos 0))
  sum_range =
      subst (λ (z : ℤ). InRange (i * max_part) z)
      (sym
      (ap (λ (l : List ℤ). get_or l at (pos 0)) c.loop-i.invariant.1
      ∙ value-at whole_sums (length start.args.sums.now) (placed (pos 0) start.args.places.now start.args.parts.now i) (pos 0) at inside))
      (place-range start.args.places.now start.args.parts.now i max_part (λ j h. start.requires.by_index_2 j (omega (arith, c.loop-i-test.true))) at)

  room : i * max_part + max_part < 2 ^ hbits w64
  room = omega (arith, small)

pub loop-i-init : goal.loop-i-init
unfolding placed
loop-i-init c = (omega arith, c.requires.sums_value ∙ sym (values-start whole_sums (length c.args.sums.now)))

pub offset_bounds-places-i : goal.offset_bounds-places-i
offset_bounds-places-i c = record { fits = omega (arith, small c.before) }

pub bounds-places-i : goal.bounds-places-i
bounds-places-i c = omega (arith, small c.before.before, c.requires.places_len)

pub offset_bounds-sums-at : goal.offset_bounds-sums-at
offset_bounds-sums-at c = record { fits = omega (arith, at_small c.before.before) }

pub slice_copy_out-sums : goal.slice_copy_out-sums
slice_copy_out-sums c = omega (arith, inside c.before.before, long c.before.before)

pub offset_bounds-parts-i : goal.offset_bounds-parts-i
offset_bounds-parts-i c = record { fits = omega (arith, small c.before.before.before) }

pub bounds-parts-i : goal.bounds-parts-i
bounds-parts-i c = omega (arith, small c.before.before.before, c.requires.parts_len)

pub overflow_add-sums : goal.overflow_add-sums
overflow_add-sums c =
    let l = c.loop-i in
    sum-held w64 (i c.before.before.before.before * max_part) max_part (get_or l.sums (at c.before.before.before.before) (pos 0)) (get_or (start c.before.before.before.before).args.parts.now (i c.before.before.before.before) (pos 0)) record { sfits = c.sums-1.given }
    record { sfits = c.sums-in-loop-i-1.given } (sum_range c.before.before.before.before) (part-range c.before.before.before.before) (room c.before.before.before.before)

pub offset_bounds-sums-at-in-loop-i : goal.offset_bounds-sums-at-in-loop-i
offset_bounds-sums-at-in-loop-i c = record { fits = omega (arith, at_small c.before.before.before.before) }

pub bounds-sums-at : goal.bounds-sums-at
bounds-sums-at c = omega (arith, inside c.before.before.before.before, long c.before.before.before.before)

pub loop-i-preserved : goal.loop-i-preserved
loop-i-preserved c =
    let l = c.loop-i in
    let a = (start c.before.before.before.before).args in
    let n = length a.sums.now in
    let sum = get_or l.sums (at c.before.before.before.before) (pos 0) in
    let added =
    sum-stays w64 (i c.before.before.before.before * max_part) max_part sum (get_or a.parts.now (i c.before.before.before.before) (pos 0)) record { sfits = c.sums-1.given } record { sfits = c.sums-in-loop-i-1.given }
    (sum_range c.before.before.before.before) (part-range c.before.before.before.before) (room c.before.before.before.before) in (
      omega (arith, c.loop-i-test.true),
      ap (set l.sums (at c.before.before.before.before)) added
          ∙ ap (λ (sums : List ℤ). set sums (at c.before.before.before.before) (get_or sums (at c.before.before.before.before) (pos 0) +ℤ get_or a.parts.now (i c.before.before.before.before) (pos 0))) l.invariant.1
          ∙ parts_next n a.places.now a.parts.now (i c.before.before.before.before) (inside c.before.before.before.before),
    )

pub returns : goal.returns
returns c =
    let l = c.loop-i in
    let a = c.args in
    let all : l.i ≡ a.rows = omega (arith, c.loop-i-test.false, l.invariant.0) in
    l.invariant.1 ∙ ap (λ (k : ℕ). place_values whole_sums (length a.sums.now) (placed (pos 0) a.places.now a.parts.now k)) all
