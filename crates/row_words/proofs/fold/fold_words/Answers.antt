-- `fold::fold_words` meets its contract: all rows are merged, each home is given its place, and the words are arranged (`Arranged`).
use mathlib.Core.Path.{refl, ◌∙◌}
use native.Mathlib.Omega.{arith}
use Rattle.row_lists.specs.Rows.{max_rows}
use Rattle.row_lists.proofs.Arranging.{positions_all, zeros_small}
use Rattle.row_words.proofs.Arranged.{different-used, held-positions, home-small, words-folded, places-folded}
use Rattle.row_words.proofs.fold.fold_words.Goals as goal

pub own-requires : goal.own-requires
own-requires c =
    let h = c.merge_rows-used.ensures in record {
      positions = positions_all (held-positions h);
      owners_len = refl;
      by_index = zeros_small max_rows;
    }

pub place_homes-requires : goal.place_homes-requires
place_homes-requires c =
    let h = c.merge_rows-used.ensures in record {
      owners_len = c.own.ensures.places;
      homes_len = h.home_places;
      rows_le_max_rows = omega (arith, h.few, h.merged);
      by_index = home-small h;
    }

pub arrange-requires : goal.arrange-requires
arrange-requires c = held-positions c.merge_rows-used.ensures

pub returns : goal.returns
returns c =
    let h = c.merge_rows-used.ensures in record {
      used = different-used h;
      words = c.arrange.ensures ∙ words-folded h;
      places = places-folded h c.own.ensures c.place_homes.ensures.long c.place_homes.ensures.owned;
    }
