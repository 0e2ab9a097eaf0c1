use Prim.Native.Nat.{ℕ, ◌*◌, ◌≤◌, ◌<◌}
use mathlib.Core.Path.{◌≡◌, refl, sym, ap, ◌∙◌}
use mathlib.Core.List.{List}
use native.Mathlib.Omega.{arith}
use lib.ListN.{length, length-set}
use Rattle.pauli_word.specs.Limits.{word_length}
use Rattle.pauli_word.specs.Word.{Word}
use Rattle.pauli_word.specs.Bytes.{letters_in, bytes_of}
use Rattle.action.specs.Permutation.{Generator}
use Rattle.action.specs.Orbit.{least, index_back}
use Rattle.elements.specs.HeldGroup.{generators_in}
use Rattle.elements.proofs.Orbits.{part_length, stored, stored-start, stored-length, stored_next, stored-end}
use Rattle.row_lists.specs.Rows.{in_full_by}
use Rattle.row_lists.proofs.InFull.{row_inside, full-row, row-accepted}
use Rattle.least_words.specs.Rows.{row_letters}
use Rattle.least_words.proofs.Filling.{Filled, filled-start, filled_next, filled-end}
use Rattle.least_words.proofs.Answers.{answered-words, answered-indices}
use Rattle.least_words.proofs.rows.least_rows_by.Goals as goal

-- the least word of row i's orbit, and the index that leads back, of words in full
abbrev least_by : List Generator → ℕ → List ℕ → ℕ → Word
least_by gs n words i = least gs (row_letters n words i)

abbrev back_by : List Generator → ℕ → List ℕ → ℕ → ℕ
back_by gs n words i = index_back gs (row_letters n words i)

-- in the loop: row i is one of the rows, and the lists stay as long as they are
row_below : {f : ℕ → ℕ} {was list : List ℕ} {i : ℕ} → Filled f was list i → i < length list → i < length was
row_below w inside = omega (arith, w.long, inside)

words-length : (f : ℕ → Word) (was list : List ℕ) (i rows : ℕ) → list ≡ stored f was i → length was ≡ word_length * rows → i < rows → length list ≡ word_length * rows
words-length f was list i rows e long h = ap length e ∙ stored-length f was i rows long (omega arith)

pub loop-i-init : goal.loop-i-init
loop-i-init c =
    let a = c.args in
    let gs = generators_in a.group.now.generators a.group.now.sites a.group.now.targets.now a.group.now.orders.now in
    let full = in_full_by a.size (length a.indices.now) a.words.now in
    (omega arith, stored-start (least_by gs a.group.now.sites full) a.representatives.now, filled-start (back_by gs a.group.now.sites full) a.indices.now, refl)

pub overflow_mul-at : goal.overflow_mul-at
overflow_mul-at c = omega (arith, row_below c.loop-i.invariant.2 (omega (arith, c.loop-i.auto.indices)), c.requires.accepted_rows.few)

pub overflow_add-end : goal.overflow_add-end
overflow_add-end c = omega (arith, row_below c.loop-i.invariant.2 (omega (arith, c.loop-i.auto.indices)), c.requires.accepted_rows.few)

pub slice_bounds-row-count : goal.slice_bounds-row-count
slice_bounds-row-count c = omega arith

pub slice_bounds-row-start : goal.slice_bounds-row-start
slice_bounds-row-start c = omega arith

pub slice_bounds-row-end : goal.slice_bounds-row-end
slice_bounds-row-end c = omega (arith, words-length (least_by (generators_in c.args.group.now.generators c.args.group.now.sites c.args.group.now.targets.now c.args.group.now.orders.now) c.args.group.now.sites (in_full_by c.args.size (length c.args.indices.now) c.args.words.now)) c.args.representatives.now c.loop-i.representatives c.loop-i.i (length c.args.indices.now) c.loop-i.invariant.1 c.requires.representatives_len (row_below c.loop-i.invariant.2 (omega (arith, c.loop-i.auto.indices))), row_below c.loop-i.invariant.2 (omega (arith, c.loop-i.auto.indices)))

pub least_row-index-requires : goal.least_row-index-requires
least_row-index-requires c =
    let a = c.args in
    let l = c.loop-i in
    let (either, long) = c.requires.either_length in
    let rows_of = c.requires.accepted_rows in record {
      tables = c.requires.tables;
      taken = c.requires.taken;
      order_value = c.requires.order_value;
      either_length = (either, row_inside a.size (length c.args.indices.now) a.words.now long l.i (row_below c.loop-i.invariant.2 (omega (arith, c.loop-i.auto.indices))));
      accepted_word = row-accepted a.size either a.words.now long rows_of l.i (row_below c.loop-i.invariant.2 (omega (arith, c.loop-i.auto.indices))) refl;
      left_len = (l.invariant.3 ∙ c.requires.left_len, part_length word_length l.i l.representatives (omega (arith, words-length (least_by (generators_in c.args.group.now.generators c.args.group.now.sites c.args.group.now.targets.now c.args.group.now.orders.now) c.args.group.now.sites (in_full_by c.args.size (length c.args.indices.now) c.args.words.now)) c.args.representatives.now c.loop-i.representatives c.loop-i.i (length c.args.indices.now) c.loop-i.invariant.1 c.requires.representatives_len (row_below c.loop-i.invariant.2 (omega (arith, c.loop-i.auto.indices))), row_below c.loop-i.invariant.2 (omega (arith, c.loop-i.auto.indices)))));
    }

pub offset_bounds-indices-i : goal.offset_bounds-indices-i
offset_bounds-indices-i c = omega (arith, row_below c.loop-i.invariant.2 (omega (arith, c.loop-i.auto.indices)), c.requires.accepted_rows.few)

pub bounds-indices-i : goal.bounds-indices-i
bounds-indices-i c = omega (arith, c.loop-i.auto.indices)

pub loop-i-preserved : goal.loop-i-preserved
loop-i-preserved c =
    let a = c.args in
    let gs = generators_in a.group.now.generators a.group.now.sites a.group.now.targets.now a.group.now.orders.now in
    let full = in_full_by a.size (length a.indices.now) a.words.now in
    let l = c.loop-i in
    let (either, long) = c.requires.either_length in
    let row = full-row a.size either (length c.args.indices.now) a.words.now long l.i (row_below c.loop-i.invariant.2 (omega (arith, c.loop-i.auto.indices))) in
    let letters = ap (letters_in a.group.now.sites) (sym row) in (
      simp length-set (omega (arith, c.loop-i-test.true)),
      stored_next (least_by gs a.group.now.sites full) a.representatives.now l.representatives c.least_row-index.new.row l.i l.invariant.1
          (c.least_row-index.ensures.row ∙ ap (λ (w : Word). bytes_of (least gs w)) letters),
      filled_next (back_by gs a.group.now.sites full) a.indices.now l.invariant.2 (omega (arith, c.loop-i.auto.indices)) (c.least_row-index.ensures.index ∙ ap (index_back gs) letters),
      c.least_row-index.auto.left ∙ l.invariant.3,
    )

pub returns : goal.returns
returns c =
    let a = c.args in
    let gs = generators_in a.group.now.generators a.group.now.sites a.group.now.targets.now a.group.now.orders.now in
    let full = in_full_by a.size (length a.indices.now) a.words.now in
    let l = c.loop-i in
    let k = length c.args.indices.now in
    let past : k ≤ l.i = omega (arith, c.loop-i-test.false, l.invariant.2.long) in
    let inside : l.i ≤ k = omega (arith, l.invariant.0, l.invariant.2.long) in record {
      representatives = l.invariant.1
          ∙ stored-end (least_by gs a.group.now.sites full) c.args.representatives.now l.i k c.requires.representatives_len past inside
          ∙ answered-words gs c.args.group.now.sites full k;
      indices = filled-end (back_by gs a.group.now.sites full) c.args.indices.now l.invariant.2 (omega (arith, c.loop-i.auto.indices)) l.invariant.0
          ∙ answered-indices gs c.args.group.now.sites full k;
    }
