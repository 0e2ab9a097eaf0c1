-- `merging::merge_row` meets its contract: the row's word is found (`held_found`), or its place is free (`held-free`).
use Prim.Native.Nat.{◌<◌}
use mathlib.Core.Path.{◌≡◌, sym, ap, ◌∙◌}
use mathlib.Core.List.{map}
use native.Mathlib.Omega.{arith}
use lib.ListN.{take}
use Rattle.keyed.specs.Keyed.{slot_of, found, free}
use Rattle.row_lists.specs.Rows.{max_rows, row_at}
use Rattle.row_words.specs.Words.{less_bytes}
use Rattle.row_words.specs.Held.{slot_found}
use Rattle.row_words.proofs.WordMerging.{held-places, row_small, found-place, held_found, free-place, free-room, held-free}
use Rattle.row_words.proofs.merging.merge_row.Goals as goal
use Rattle.row_words.proofs.merging.merge_row.Lts as lts
use Rattle.row_words.proofs.merging.merge_row.Tie as tie
use Rattle.row_words.proofs.merging.merge_row.Reads as reads

abbrev ctx-Start : Type 0
ctx-Start = lts.Start tie.the-claims reads.Pre reads.Post tie.handed_clauses

abbrev ctx-After-k : Type 0
ctx-After-k = lts.After-k tie.the-claims reads.Pre reads.Post tie.handed_clauses

abbrev ctx-After-known_told : Type 0
ctx-After-known_told = lts.Past-After-known_told tie.the-claims reads.Pre reads.Post tie.handed_clauses

abbrev ctx-After-k2 : Type 0
ctx-After-k2 = lts.After-k2 tie.the-claims reads.Pre reads.Post tie.handed_clauses

abbrev ctx-After-known_told2 : Type 0
ctx-After-known_told2 = lts.Past-After-known_told2 tie.the-claims reads.Pre reads.Post tie.handed_clauses

-- where the row's word stands
module _ (c : ctx-After-k) where
  abbrev start : ctx-Start
  start = c.before.before.before.before.before.before

  is_found :
      slot_of less_bytes (row_at start.args.words.now start.args.row) (map (row_at start.args.words.now) (take start.args.used start.args.positions.now))
      ≡ found c.k-1.given.0.0
  is_found = sym c.slot_of.ensures ∙ ap slot_found c.k-1.given.1

  place : c.k-1.given.0.0 < max_rows
  place = let h = start.requires.held in omega (arith, found-place h start.requires.word_length_in_bounds c.k-1.given.0.0 is_found, h.different, row_small h start.requires.word_length_in_bounds)

-- where it would be put in
module _ (c : ctx-After-k2) where
  abbrev start2 : ctx-Start
  start2 = c.before.before.before.before.before.before

  is_free :
      slot_of less_bytes (row_at start2.args.words.now start2.args.row) (map (row_at start2.args.words.now) (take start2.args.used start2.args.positions.now))
      ≡ free c.k-in-Err-1.given.0.0
  is_free = sym c.slot_of.ensures ∙ ap slot_found c.k-in-Err-1.given.1

pub slot_of-requires : goal.slot_of-requires
slot_of-requires c = held-places c.requires.held c.requires.word_length_in_bounds

pub offset_bounds-positions-k : goal.offset_bounds-positions-k
offset_bounds-positions-k c = record { fits = omega (arith, place (lts.walk_of-After-known_told tie.the-claims reads.Pre reads.Post tie.handed_clauses c.before).before) }

pub bounds-positions-k : goal.bounds-positions-k
bounds-positions-k c = omega (arith, place (lts.walk_of-After-known_told tie.the-claims reads.Pre reads.Post tie.handed_clauses c.before.before).before, (start (lts.walk_of-After-known_told tie.the-claims reads.Pre reads.Post tie.handed_clauses c.before.before).before).requires.held.places)

pub insert-requires : goal.insert-requires
insert-requires c =
    let s = start2 (lts.walk_of-After-known_told2 tie.the-claims reads.Pre reads.Post tie.handed_clauses c.before.before).before in record {
      k_le_used = free-place c.requires.held c.requires.word_length_in_bounds c.in-Err.k (is_free (lts.walk_of-After-known_told2 tie.the-claims reads.Pre reads.Post tie.handed_clauses c.before.before).before);
      used_in_bounds = free-room c.requires.held c.requires.word_length_in_bounds c.in-Err.k (is_free (lts.walk_of-After-known_told2 tie.the-claims reads.Pre reads.Post tie.handed_clauses c.before.before).before);
    }

pub returns-in-Ok : goal.returns-in-Ok
returns-in-Ok c =
    let s = start (lts.walk_of-After-known_told tie.the-claims reads.Pre reads.Post tie.handed_clauses c.before.before).before in
    held_found c.requires.held c.requires.word_length_in_bounds c.in-Ok.k (is_found (lts.walk_of-After-known_told tie.the-claims reads.Pre reads.Post tie.handed_clauses c.before.before).before)

pub returns-in-Err : goal.returns-in-Err
returns-in-Err c =
    let s = start2 (lts.walk_of-After-known_told2 tie.the-claims reads.Pre reads.Post tie.handed_clauses c.before.before.before.before.before).before in
    held-free c.requires.held c.requires.word_length_in_bounds c.in-Err.k (is_free (lts.walk_of-After-known_told2 tie.the-claims reads.Pre reads.Post tie.handed_clauses c.before.before.before.before.before).before) c.insert.new.positions c.insert.ensures.length c.insert.ensures.list
