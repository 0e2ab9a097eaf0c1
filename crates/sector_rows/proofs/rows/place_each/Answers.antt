use Prim.Native.Nat.{ℕ, ◌*◌, ◌≤◌, ◌<◌}
use mathlib.Core.Path.{◌≡◌, refl, sym, ap, ◌∙◌}
use mathlib.Core.List.{List, map}
use native.Mathlib.Omega.{arith}
use lib.ListN.{length, length-set}
use lib.IntN.{ℤ}
use Rattle.pauli_word.specs.Limits.{word_length}
use Rattle.pauli_word.specs.Word.{Word}
use Rattle.pauli_word.specs.Bytes.{letters_in}
use Rattle.action.specs.Lists.{below}
use Rattle.action.specs.Permutation.{Generator}
use Rattle.elements.specs.HeldGroup.{generators_held}
use Rattle.elements.proofs.Orbits.{part_length, stored, stored-start, stored-length, stored_next, stored-end}
use Rattle.row_lists.specs.Rows.{in_full_by}
use Rattle.row_lists.proofs.InFull.{row_inside, full-row, row-accepted}
use Rattle.least_words.specs.Rows.{row_letters}
use Rattle.least_words.proofs.Filling.{filled-start, filled_next, filled-end}
use Rattle.decisions.specs.Decisions.{Decision, Row, decision, row_word, row_index, row_orbit}
use Rattle.decisions.specs.Placements.{placement_of, index_in, size_in}
use Rattle.decisions.proofs.Placing.{written_letters, row-bytes, placed-index, placed-orbit}
use Rattle.sector_rows.proofs.Written.{decided-words, decided-indices, decided-sizes}
use Rattle.sector_rows.proofs.rows.place_each.Goals as goal

-- the decision for row i, of words in full
abbrev decided_by : List Generator → List ℤ → ℕ → List ℕ → ℕ → Decision Row
decided_by gs ks n words i = decision gs ks (row_letters n words i)

-- the rows stay as long as they are
rows_length : (f : ℕ → Word) (first rows : List ℕ) (i k : ℕ) → length first ≡ word_length * k → i < k → rows ≡ stored f first i → length rows ≡ word_length * k
rows_length f first rows i k long h e = ap length e ∙ stored-length f first i k long (omega arith)

pub loop-i-init : goal.loop-i-init
loop-i-init c =
    let a = c.args in
    let gs = generators_held a.group.now in
    let decided : ℕ → Decision Row = decided_by gs a.modes.now a.group.now.sites (in_full_by a.size (length a.indices.now) a.words.now) in (
      omega arith,
      stored-start (λ j. written_letters (decided j)) a.representatives.now,
      filled-start (λ j. row_index (decided j)) a.indices.now,
      filled-start (λ j. row_orbit (decided j)) a.sizes.now,
      refl,
    )

pub overflow_mul-at : goal.overflow_mul-at
overflow_mul-at c = omega (arith, c.loop-i-test.true, c.loop-i.invariant.2.long, c.requires.accepted_rows.few)

pub overflow_add-end : goal.overflow_add-end
overflow_add-end c = omega (arith, c.loop-i-test.true, c.loop-i.invariant.2.long, c.requires.accepted_rows.few)

pub slice_bounds-row-count : goal.slice_bounds-row-count
slice_bounds-row-count c = omega arith

pub slice_bounds-row-start : goal.slice_bounds-row-start
slice_bounds-row-start c = omega arith

pub slice_bounds-row-end : goal.slice_bounds-row-end
slice_bounds-row-end c =
    let l = c.loop-i in
    let k = length c.args.indices.now in
    let h : l.i < k = omega (arith, c.loop-i-test.true, l.invariant.2.long) in
    omega (arith, h, rows_length _ c.args.representatives.now l.representatives l.i k c.requires.representatives_len h l.invariant.1)

pub place_row-placement-requires : goal.place_row-placement-requires
place_row-placement-requires c =
    let l = c.loop-i in
    let k = length c.args.indices.now in
    let h : l.i < k = omega (arith, c.loop-i-test.true, l.invariant.2.long) in
    let wide = rows_length _ c.args.representatives.now l.representatives l.i k c.requires.representatives_len h l.invariant.1 in
    let (either, long) = c.requires.either_length in record {
      tables = c.requires.tables;
      taken = c.requires.taken;
      order_value = c.requires.order_value;
      modulus_value = c.requires.modulus_value;
      modes_len = c.requires.modes_len;
      either_length = (either, row_inside c.args.size k c.args.words.now long l.i h);
      accepted_word = row-accepted c.args.size either c.args.words.now long c.requires.accepted_rows l.i h refl;
      left_len = (l.invariant.4 ∙ c.requires.left_len, part_length word_length l.i l.representatives (omega (arith, wide, h)));
    }

pub offset_bounds-indices-i : goal.offset_bounds-indices-i
offset_bounds-indices-i c = omega (arith, c.loop-i-test.true, c.loop-i.invariant.2.long, c.requires.accepted_rows.few)

pub bounds-indices-i : goal.bounds-indices-i
bounds-indices-i c = omega (arith, c.loop-i-test.true, c.loop-i.auto.indices)

pub offset_bounds-sizes-i : goal.offset_bounds-sizes-i
offset_bounds-sizes-i c = omega (arith, c.loop-i-test.true, c.loop-i.invariant.2.long, c.requires.accepted_rows.few)

pub bounds-sizes-i : goal.bounds-sizes-i
bounds-sizes-i c = omega (arith, c.loop-i-test.true, c.loop-i.invariant.2.long, c.loop-i.invariant.3.long, c.requires.sizes_len)

pub loop-i-preserved : goal.loop-i-preserved
loop-i-preserved c =
    let a = c.args in
    let l = c.loop-i in
    let k = length c.args.indices.now in
    let h : l.i < k = omega (arith, c.loop-i-test.true, l.invariant.2.long) in
    let gs = generators_held a.group.now in
    let decided : ℕ → Decision Row = decided_by gs a.modes.now a.group.now.sites (in_full_by a.size (length a.indices.now) a.words.now) in
    let (either, long) = c.requires.either_length in
    let row = full-row a.size either k a.words.now long l.i h in
    let same = ap (λ (bytes : List ℕ). decision gs a.modes.now (letters_in a.group.now.sites bytes)) (sym row) in
    let placed = c.place_row-placement.ensures.answer ∙ ap placement_of same in (
      simp length-set (omega (arith, c.loop-i-test.true)),
      stored_next (λ j. written_letters (decided j)) a.representatives.now l.representatives c.place_row-placement.new.row l.i l.invariant.1
          (c.place_row-placement.ensures.row ∙ ap row_word same ∙ row-bytes (decided l.i)),
      filled_next (λ j. row_index (decided j)) a.indices.now l.invariant.2 (omega (arith, c.loop-i-test.true, l.auto.indices))
          (c.index-index.ensures ∙ ap index_in placed ∙ placed-index (decided l.i)),
      filled_next (λ j. row_orbit (decided j)) a.sizes.now l.invariant.3 (omega (arith, h, l.invariant.3.long, c.requires.sizes_len))
          (c.size-orbit.ensures ∙ ap size_in placed ∙ placed-orbit (decided l.i)),
      c.place_row-placement.auto.left ∙ l.invariant.4,
    )

pub returns : goal.returns
returns c =
    let a = c.args in
    let l = c.loop-i in
    let ks = a.modes.now in
    let n = a.group.now.sites in
    let k = length a.indices.now in
    let gs = generators_held a.group.now in
    let decided : ℕ → Decision Row = decided_by gs a.modes.now a.group.now.sites (in_full_by a.size (length a.indices.now) a.words.now) in
    let full = in_full_by a.size k a.words.now in
    let past : k ≤ l.i = omega (arith, c.loop-i-test.false, l.invariant.2.long) in
    let inside : l.i ≤ k = omega (arith, l.invariant.0, l.invariant.2.long) in
    let sizes_past : length l.sizes ≤ l.i = omega (arith, past, l.invariant.3.long, c.requires.sizes_len) in
    let sizes_inside : l.i ≤ length l.sizes = omega (arith, inside, l.invariant.3.long, c.requires.sizes_len) in record {
      representatives = l.invariant.1 ∙ stored-end (λ j. written_letters (decided j)) a.representatives.now l.i k c.requires.representatives_len past inside ∙ decided-words gs ks n full k;
      indices = filled-end (λ j. row_index (decided j)) a.indices.now l.invariant.2 (omega (arith, past, l.auto.indices)) l.invariant.0 ∙ decided-indices gs ks n full k;
      sizes = filled-end (λ j. row_orbit (decided j)) a.sizes.now l.invariant.3 sizes_past sizes_inside
          ∙ ap (λ (j : ℕ). map (λ i. row_orbit (decided i)) (below j)) c.requires.sizes_len
          ∙ decided-sizes gs ks n full k;
    }
