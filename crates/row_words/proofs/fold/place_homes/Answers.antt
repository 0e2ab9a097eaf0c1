use Prim.Native.Nat.{◌<◌}
use mathlib.Core.Path.{◌≡◌, ◌∙◌}
use native.Mathlib.Omega.{arith}
use lib.ListN.{length, get_or}
use Rattle.row_lists.specs.Rows.{max_rows}
use Rattle.row_words.proofs.Arranged.{homes_start, homes_next}
use Rattle.row_words.proofs.fold.place_homes.Goals as goal
use Rattle.row_words.proofs.fold.place_homes.Lts as lts
use Rattle.row_words.proofs.fold.place_homes.Tie as tie
use Rattle.row_words.proofs.fold.place_homes.Reads as reads

abbrev ctx-Start : Type 0
ctx-Start = lts.Start reads.Pre reads.Post goal.the-invariant-loop-i goal.the-decreases-loop-i tie.handed_clauses

abbrev ctx-In-loop : Type 0
ctx-In-loop = lts.In-loop reads.Pre reads.Post goal.the-invariant-loop-i goal.the-decreases-loop-i tie.handed_clauses

-- a row's home, and that it is a row
module _ (c : ctx-In-loop) where
  abbrev start : ctx-Start
  start = c.before.before

  long : length c.loop-i.homes ≡ max_rows
  long = c.loop-i.invariant.1.long ∙ start.requires.homes_len

  inside : c.loop-i.i < length c.loop-i.homes
  inside = omega (arith, c.loop-i-test.true, start.requires.rows_le_max_rows, long)

  small : get_or c.loop-i.homes c.loop-i.i 0 < max_rows
  small =
      let stands = c.loop-i.invariant.1.stands c.loop-i.i (omega arith) in
      omega (arith, stands, start.requires.by_index c.loop-i.i c.loop-i-test.true)

pub loop-i-init : goal.loop-i-init
loop-i-init c = (omega arith, homes_start c.args.owners.now c.args.homes.now)

pub offset_bounds-homes-i : goal.offset_bounds-homes-i
offset_bounds-homes-i c = record { fits = omega (arith, c.loop-i-test.true, c.requires.rows_le_max_rows) }

pub bounds-homes-i : goal.bounds-homes-i
bounds-homes-i c = inside c.before.before

pub offset_bounds-owners-home : goal.offset_bounds-owners-home
offset_bounds-owners-home c = record { fits = omega (arith, small c.before.before) }

pub bounds-owners-home : goal.bounds-owners-home
bounds-owners-home c = omega (arith, small c.before.before.before, c.requires.owners_len)

pub offset_bounds-homes-i-in-loop-i : goal.offset_bounds-homes-i-in-loop-i
offset_bounds-homes-i-in-loop-i c = record { fits = omega (arith, inside c.before.before.before, long c.before.before.before) }

pub bounds-homes-i-in-loop-i : goal.bounds-homes-i-in-loop-i
bounds-homes-i-in-loop-i c = inside c.before.before.before

pub loop-i-preserved : goal.loop-i-preserved
loop-i-preserved c =
    let l = c.loop-i in
    (omega (arith, c.loop-i-test.true), homes_next (omega (arith, inside c.before.before.before, l.invariant.1.long)) l.invariant.1)

pub returns : goal.returns
returns c =
    let l = c.loop-i in record {
      long = l.invariant.1.long ∙ c.requires.homes_len;
      owned = λ i h. l.invariant.1.placed i (omega (arith, c.loop-i-test.false));
    }
