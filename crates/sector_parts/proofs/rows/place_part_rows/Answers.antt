use Rattle.sector_parts.proofs.Passing.{Passed, passed_none, passed-next}
use Rattle.sector_parts.proofs.Standing.{sector-stepped}
use Rattle.sector_parts.proofs.Joining.{placed_small}
use Rattle.parts.proofs.Labelled.{spread-below}
use Rattle.parted.specs.Steps.{site_of}
use Rattle.row_lists.proofs.Rows.{part-row}
use Rattle.row_lists.specs.Rows.{row_at}
use Rattle.elements.proofs.Orbits.{part_length}
use Rattle.elements.proofs.TableRows.{generators-length}
use Rattle.elements.specs.HeldGroup.{generators_held}
use Rattle.action.proofs.Index.{valid_positive}
use Rattle.pauli_word.specs.Bytes.{AcceptedWord}
use Rattle.pauli_word.specs.Limits.{word_length}
use lib.ListN.{length, get_or, take, drop, length-set}
use lib.Dec.{eqb}
use mathlib.Core.List.{List}
use mathlib.Core.Path.{◌≡◌, refl, sym, ◌∙◌, subst}
use Prim.Native.Nat.{ℕ, ◌+◌, ◌-◌, ◌*◌, ◌≤◌, ◌<◌}
use native.Mathlib.Omega.{arith}
use Rattle.sector_parts.proofs.rows.place_part_rows.Goals as goal

-- in the loop: row i is one of the rows
module _ {R : ℕ → List ℕ → ℕ → ℕ → Type 0} {rows₀ indices₀ sizes₀ rows indices sizes : List ℕ} {i : ℕ} (w : Passed R rows₀ indices₀ sizes₀ rows indices sizes i)
    (inside : i < length indices) (fit : (length rows₀ ≡ word_length * length indices₀) × (length sizes₀ ≡ length indices₀)) where
  row_below : i < length indices₀
  row_below = omega (arith, w.long)

  size_below : i < length sizes
  size_below = omega (arith, row_below, w.many, fit.1)

  room : word_length * i + word_length ≤ length rows
  room = omega (arith, row_below, w.wide, fit.0)

  -- it is as it was
  same_row : take (word_length * i + word_length - word_length * i) (drop (word_length * i) rows) ≡ row_at rows₀ i
  same_row = part-row rows i ∙ w.row i (omega arith)

  same_index : get_or indices i 0 ≡ get_or indices₀ i 0
  same_index = w.index i (omega arith)

  same_size : get_or sizes i 0 ≡ get_or sizes₀ i 0
  same_size = w.size i (omega arith)

pub loop-i-init : goal.loop-i-init
loop-i-init c = (omega arith, refl, passed_none _ c.args.representatives.now c.args.indices.now c.args.sizes.now)

pub overflow_mul-at : goal.overflow_mul-at
overflow_mul-at c = omega (arith, room c.loop-i.invariant.2 (omega (arith, c.loop-i.auto.indices)) c.requires.representatives_len)

pub overflow_add-end : goal.overflow_add-end
overflow_add-end c = omega (arith, room c.loop-i.invariant.2 (omega (arith, c.loop-i.auto.indices)) c.requires.representatives_len)

pub slice_bounds-row-count : goal.slice_bounds-row-count
slice_bounds-row-count c = omega arith

pub slice_bounds-row-start : goal.slice_bounds-row-start
slice_bounds-row-start c = omega arith

pub slice_bounds-row-end : goal.slice_bounds-row-end
slice_bounds-row-end c = omega (arith, room c.loop-i.invariant.2 (omega (arith, c.loop-i.auto.indices)) c.requires.representatives_len)

pub place_part-placed-requires : goal.place_part-placed-requires
place_part-placed-requires c =
    let w = c.loop-i.invariant.2 in
    let h : c.loop-i.i < length c.loop-i.indices = omega (arith, c.loop-i.auto.indices) in
    let e = c.requires.representatives_len in
    let q = c.requires.numbering in record {
      tables = c.requires.tables_2;
      found = c.requires.found;
      order_value = c.requires.order_value;
      modulus_value = c.requires.modulus_value;
      numbering = (q.0, q.1);
      accepted_word = (subst (AcceptedWord c.args.group.now.sites) (sym (same_row w h e)) (c.requires.by_index c.loop-i.i (row_below w h e)).0, c.loop-i.invariant.1 ∙ q.2);
    }

pub spread-whole-requires : goal.spread-whole-requires
spread-whole-requires c =
    let it = c.requires.tables in record {
      tables = it.0;
      labels_len = it.1;
    }

pub offset_bounds-indices-i : goal.offset_bounds-indices-i
offset_bounds-indices-i c = omega (arith, room c.loop-i.invariant.2 (omega (arith, c.loop-i.auto.indices)) c.requires.representatives_len)

pub bounds-indices-i : goal.bounds-indices-i
bounds-indices-i c = omega (arith, c.loop-i-test.true)

pub offset_bounds-sizes-i : goal.offset_bounds-sizes-i
offset_bounds-sizes-i c = omega (arith, room c.loop-i.invariant.2 (omega (arith, c.loop-i.auto.indices)) c.requires.representatives_len)

pub bounds-sizes-i : goal.bounds-sizes-i
bounds-sizes-i c = omega (arith, size_below c.loop-i.invariant.2 (omega (arith, c.loop-i.auto.indices)) c.requires.representatives_len)

pub joined_index-index-requires : goal.joined_index-index-requires
joined_index-index-requires c =
    let w = c.loop-i.invariant.2 in
    let h : c.loop-i.i < length c.loop-i.indices = omega (arith, c.loop-i.auto.indices) in
    let e = c.requires.representatives_len in
    let (t, few) = c.requires.tables in
    let gs = generators_held c.args.group.now in
    let own = spread-below (λ l. eqb l c.args.part) c.args.labels.now gs (few ∙ sym (generators-length t)) (valid_positive t.valid) c.index-back.result in (
      omega (arith, same_index w h e, (c.requires.by_index c.loop-i.i (row_below w h e)).1, t.small),
      omega (arith, c.spread-whole.ensures, own, t.small),
    )

pub offset_bounds-sizes-i-in-loop-i : goal.offset_bounds-sizes-i-in-loop-i
offset_bounds-sizes-i-in-loop-i c = omega (arith, room c.loop-i.invariant.2 (omega (arith, c.loop-i.auto.indices)) c.requires.representatives_len)

pub bounds-sizes-i-in-loop-i : goal.bounds-sizes-i-in-loop-i
bounds-sizes-i-in-loop-i c = omega (arith, size_below c.loop-i.invariant.2 (omega (arith, c.loop-i.auto.indices)) c.requires.representatives_len)

pub joined_size-size-requires : goal.joined_size-size-requires
joined_size-size-requires c =
    let w = c.loop-i.invariant.2 in
    let h : c.loop-i.i < length c.loop-i.indices = omega (arith, c.loop-i.auto.indices) in
    let e = c.requires.representatives_len in
    let own = placed_small (generators_held c.args.own_group.now) c.args.modes.now _ c.place_part-placed.ensures.answer c.size-orbit.ensures in (
      omega (arith, same_size w h e, (c.requires.by_index c.loop-i.i (row_below w h e)).2),
      omega (arith, own, c.requires.tables_2.small),
    )

pub offset_bounds-indices-i-in-loop-i : goal.offset_bounds-indices-i-in-loop-i
offset_bounds-indices-i-in-loop-i c = omega (arith, room c.loop-i.invariant.2 (omega (arith, c.loop-i.auto.indices)) c.requires.representatives_len)

pub bounds-indices-i-in-loop-i : goal.bounds-indices-i-in-loop-i
bounds-indices-i-in-loop-i c = omega (arith, c.loop-i-test.true)

pub offset_bounds-sizes-i-in-loop-i-2 : goal.offset_bounds-sizes-i-in-loop-i-2
offset_bounds-sizes-i-in-loop-i-2 c = omega (arith, room c.loop-i.invariant.2 (omega (arith, c.loop-i.auto.indices)) c.requires.representatives_len)

pub bounds-sizes-i-in-loop-i-2 : goal.bounds-sizes-i-in-loop-i-2
bounds-sizes-i-in-loop-i-2 c = omega (arith, size_below c.loop-i.invariant.2 (omega (arith, c.loop-i.auto.indices)) c.requires.representatives_len)

pub loop-i-preserved : goal.loop-i-preserved
loop-i-preserved c =
    let a = c.args in
    let l = c.loop-i in
    let w = c.loop-i.invariant.2 in
    let h : c.loop-i.i < length c.loop-i.indices = omega (arith, c.loop-i.auto.indices) in
    let e = c.requires.representatives_len in
    let gs = generators_held a.group.now in
    let hs = generators_held a.own_group.now in (
      simp length-set (omega (arith, c.loop-i-test.true)),
      c.place_part-placed.auto.left ∙ l.invariant.1,
      passed-next _ w h (size_below w h e) (room w h e) c.place_part-placed.new.row
          (c.place_part-placed.auto.row ∙ part_length word_length l.i l.representatives (room w h e)) _ _
          (sector-stepped a.group.now.sites a.own_group.now.sites (site_of a.table.now) hs gs a.labels.now a.modes.now a.part (same_row w h e) (same_index w h e) (same_size w h e)
          c.place_part-placed.ensures.answer c.index-back.ensures c.size-orbit.ensures c.spread-whole.ensures c.joined_index-index.ensures c.joined_size-size.ensures c.place_part-placed.ensures.word),
    )

pub returns : goal.returns
returns c i h = c.loop-i.invariant.2.done i (omega (arith, c.loop-i-test.false, c.loop-i.invariant.2.long, h))
