use mathlib.Core.Path.{refl, sym}
use native.Mathlib.Omega.{arith}
use Rattle.row_lists.specs.Rows.{max_rows}
use Rattle.row_lists.proofs.Arranging.{positions_all, zeros_small}
use Rattle.row_lists.proofs.Placing.{placing-start, here-inside, from-inside, placing-next, placing-end}
use Rattle.row_lists.proofs.places.place_rows.Goals as goal

pub own-requires : goal.own-requires
own-requires c = record {
  positions = positions_all c.requires;
  owners_len = refl;
  by_index = zeros_small max_rows;
}

pub loop-k-init : goal.loop-k-init
loop-k-init c = (omega arith, placing-start c.requires c.own.ensures)

pub slice_bounds-place_row-end : goal.slice_bounds-place_row-end
slice_bounds-place_row-end c = sym c.loop-k.invariant.1.waiting.owned.places

pub place_row-requires : goal.place_row-requires
place_row-requires c =
    let l = c.loop-k in
    let p = l.invariant.1 in
    let w = p.waiting in
    let h = c.loop-k-test.true in record {
      positions_len = w.places;
      owners_len = w.owned.places;
      k_lt_max_rows = omega (arith, w.few, w.enough, h);
      k_bound = omega (arith, w.few, w.inside l.k (omega arith) h);
      k_bound_2 = w.owned.small l.k;
      word_length_in_bounds = here-inside h p;
      word_length_in_bounds_2 = from-inside h p;
    }

pub loop-k-preserved : goal.loop-k-preserved
loop-k-preserved c =
    let l = c.loop-k in
    (omega (arith, c.loop-k-test.true), placing-next c.loop-k-test.true l.invariant.1 (c.place_row.ensures.positions, (c.place_row.ensures.owners, c.place_row.ensures.words)))

pub returns : goal.returns
returns c =
    let p = c.requires in record {
      placed = placing-end c.loop-k-test.false (omega (arith, p.places, p.few, p.enough)) c.loop-k.invariant.1;
    }
