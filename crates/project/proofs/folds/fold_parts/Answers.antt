-- `folds::fold_parts` meets its contract: words are folded, and parts are added at their places (`ProjectedLists`).
use Prim.Native.Nat.{ℕ, ◌≤◌, ◌<◌}
use mathlib.Core.Path.{ap, ◌∙◌}
use native.Mathlib.Omega.{arith}
use lib.IntN.{pos}
use lib.ListN.{length, get_or, length-replicate}
use borrow.Author.Rules.{rules}
use Rattle.keyed.specs.Keyed as Keyed
use Rattle.keyed.specs.Keyed.{place_values}
use Rattle.row_lists.specs.Rows.{max_rows}
use Rattle.row_words.specs.Words.{RowPlaces}
use Rattle.row_words.proofs.PlacedRows.{places-inside}
use Rattle.project.specs.Rows.{whole_sums}
use Rattle.project.proofs.AddedParts.{zeros-own}
use Rattle.project.proofs.ProjectedLists.{part-folded, words-folded}
use Rattle.project.proofs.folds.fold_parts.Goals as goal

pub add_parts-requires : goal.add_parts-requires
add_parts-requires c =
    let a = c.args in
    let placed : RowPlaces a.representatives.now a.kept c.fold_words.new.places = c.fold_words.ensures.places in
    let few : a.kept ≤ max_rows = omega (arith, c.requires.kept_in_bounds, c.requires.cosines_len_bound) in
    let e = c.clear.ensures in
    let n = length-replicate (length a.cosines.now) (pos 0) in record {
      rows_le_max_rows = few;
      parts_len = c.requires.xs_len.0;
      places_len = placed.long;
      sums_len_bound = omega (arith, ap length e, n, c.requires.cosines_len_bound);
      sums_value = zeros-own (length a.cosines.now) e;
      by_index = λ i h. omega (arith, places-inside a.representatives.now a.kept placed i h, ap length e, n, c.requires.kept_in_bounds);
      by_index_2 = c.requires.by_index;
    }

pub add_parts-requires-2 : goal.add_parts-requires-2
add_parts-requires-2 c =
    let a = c.args in
    let placed : RowPlaces a.representatives.now a.kept c.fold_words.new.places = c.fold_words.ensures.places in
    let few : a.kept ≤ max_rows = omega (arith, c.requires.kept_in_bounds, c.requires.cosines_len_bound) in
    let e = c.clear-2.ensures in
    let n = length-replicate (length a.sines.now) (pos 0) in record {
      rows_le_max_rows = few;
      parts_len = c.requires.xs_len.1;
      places_len = placed.long;
      sums_len_bound = omega (arith, ap length e, n, c.requires.cosines_len_bound, c.requires.sines_len);
      sums_value = zeros-own (length a.sines.now) e;
      by_index = λ i h.
          omega (arith, places-inside a.representatives.now a.kept placed i h, ap length e, n, c.requires.kept_in_bounds, c.requires.sines_len);
      by_index_2 = c.requires.by_index_2;
    }

pub returns : goal.returns
returns c =
    let a = c.args in
    let placed : RowPlaces a.representatives.now a.kept c.fold_words.new.places = c.fold_words.ensures.places in
    let few : a.kept ≤ max_rows = omega (arith, c.requires.kept_in_bounds, c.requires.cosines_len_bound) in
    let out = a.representatives.now in
    let k = length a.cosines.now in
    let xs-long : a.kept ≤ length a.xs.now = omega (arith, few, c.requires.xs_len.0) in
    let ys-long : a.kept ≤ length a.ys.now = omega (arith, few, c.requires.xs_len.1) in
    let cleared = c.clear.ensures in
    let cleared2 = c.clear-2.ensures in record {
      representatives = c.fold_words.ensures.words ∙ words-folded out a.xs.now a.kept k xs-long c.requires.representatives_len;
      cosines = c.add_parts.ensures
          ∙ ap (λ (n : ℕ). place_values whole_sums n (Keyed.placed (pos 0) c.fold_words.new.places a.xs.now a.kept)) (ap length cleared ∙ length-replicate k (pos 0))
          ∙ part-folded out a.xs.now a.kept k xs-long placed c.requires.kept_in_bounds;
      sines = c.add_parts-2.ensures
          ∙ ap (λ (n : ℕ). place_values whole_sums n (Keyed.placed (pos 0) c.fold_words.new.places a.ys.now a.kept))
          (ap length cleared2 ∙ length-replicate (length a.sines.now) (pos 0) ∙ c.requires.sines_len)
          ∙ part-folded out a.ys.now a.kept k ys-long placed c.requires.kept_in_bounds;
    }
