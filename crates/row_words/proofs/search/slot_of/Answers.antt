use Prim.Native.Nat.{ℕ, ◌+◌, ◌-◌, ◌/◌, ◌≤◌, ◌<◌}
use mathlib.Core.Path.{sym, ◌∙◌}
use native.Mathlib.Omega.{arith}
use lib.ListN.{length}
use Rattle.row_lists.specs.Rows.{max_rows}
use Rattle.row_words.proofs.Searching.{below-used, search-start, search-up, search-down, search-found, search-free}
use Rattle.row_words.proofs.search.slot_of.Goals as goal
use Rattle.row_words.proofs.search.slot_of.Lts as lts
use Rattle.row_words.proofs.search.slot_of.Tie as tie
use Rattle.row_words.proofs.search.slot_of.Reads as reads

abbrev ctx-In-loop : Type 0
ctx-In-loop = lts.In-loop tie.the-claims reads.Pre reads.Post goal.the-invariant-loop-low goal.the-decreases-loop-low tie.handed_clauses

-- the place in the middle, and that it is among the positions
abbrev middle : ℕ → ℕ → ℕ
middle low high = low + (high - low) / 2

module _ (c : ctx-In-loop) where
  not-before : c.loop-low.low ≤ middle c.loop-low.low c.loop-low.high
  not-before = omega arith

  not_after : middle c.loop-low.low c.loop-low.high < c.loop-low.high
  not_after = omega (arith, c.loop-low-test.true)

  used-above : middle c.loop-low.low c.loop-low.high < c.args.used
  used-above = below-used c.requires c.loop-low.invariant not-before not_after

  inside : middle c.loop-low.low c.loop-low.high < length c.args.positions.now
  inside = omega (arith, used-above, c.requires.enough)

  small : middle c.loop-low.low c.loop-low.high < max_rows
  small = omega (arith, inside, c.requires.few)

pub loop-low-init : goal.loop-low-init
loop-low-init c = search-start c.requires

pub overflow_sub-middle : goal.overflow_sub-middle
overflow_sub-middle c = omega (arith, c.loop-low-test.true)

pub overflow_add-middle : goal.overflow_add-middle
overflow_add-middle c = record { fits = omega (arith, small c.before) }

pub offset_bounds-positions-middle : goal.offset_bounds-positions-middle
offset_bounds-positions-middle c = record { fits = omega (arith, small c.before) }

pub bounds-positions-middle : goal.bounds-positions-middle
bounds-positions-middle c = inside c.before.before

pub compare_rows-requires : goal.compare_rows-requires
compare_rows-requires c = record {
  word_length_in_bounds = c.requires.all (middle c.loop-low.low c.loop-low.high) (used-above c.before.before);
  word_length_in_bounds_2 = c.requires.inside;
}

pub overflow_add-low : goal.overflow_add-low
overflow_add-low c = record { fits = omega (arith, small c.before.before.before.before) }

pub loop-low-smaller-in-Less : goal.loop-low-smaller-in-Less
loop-low-smaller-in-Less c = omega (arith, c.loop-low-test.true)

pub loop-low-preserved-in-Less : goal.loop-low-preserved-in-Less
loop-low-preserved-in-Less c =
    search-up c.requires c.loop-low.invariant (not-before c.before.before.before.before) (not_after c.before.before.before.before)
    (sym c.compare_rows.ensures ∙ c.in-Less.is)

pub loop-low-smaller : goal.loop-low-smaller
loop-low-smaller c = omega (arith, c.loop-low-test.true)

pub loop-low-preserved : goal.loop-low-preserved
loop-low-preserved c =
    search-down c.requires c.loop-low.invariant (not-before c.before.before.before.before) (not_after c.before.before.before.before)
    (sym c.compare_rows.ensures ∙ c.in-Greater.is)

pub returns-in-Equal : goal.returns-in-Equal
returns-in-Equal c =
    sym (search-found c.requires c.loop-low.invariant (not-before c.before.before.before.before) (not_after c.before.before.before.before)
    (sym c.compare_rows.ensures ∙ c.in-Equal.is))

pub returns : goal.returns
returns c = sym (search-free c.requires c.loop-low.invariant c.loop-low-test.false)
