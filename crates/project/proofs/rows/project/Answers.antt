-- `rows::project` meets its contract: the rows are turned, and what they add is folded (`ProjectedLists`).
use Prim.Native.Nat.{ℕ, ◌*◌, ◌≤◌, ◌<◌}
use mathlib.Core.Path.{◌≡◌, refl, sym, ap, ap₂, ◌∙◌}
use mathlib.Core.List.{List, []}
use native.Mathlib.Omega.{arith}
use lib.IntN.{ℤ, pos}
use lib.ListN.{length, get_or, take, length-map, length-replicate}
use Rattle.pauli_word.specs.Limits.{word_length}
use Rattle.pauli_word.specs.Word.{Word}
use Rattle.action.specs.Permutation.{Generator}
use Rattle.elements.specs.HeldGroup.{generators_held}
use Rattle.keyed.specs.Keyed.{table_of}
use Rattle.row_lists.specs.Rows.{max_rows, rows_in, in_full_by}
use Rattle.row_words.specs.Words.{words_filled, filled}
use Rattle.phases.specs.Rules.{InRange}
use Rattle.projection.specs.Projection.{Parts, no_parts, kept_rows, projected}
use Rattle.project.specs.Calls.{input_rows}
use Rattle.project.specs.Rows.{max_part, whole_rows, turned_rows}
use Rattle.project.proofs.TurnedRows.{input-length, turned_few}
use Rattle.project.proofs.ProjectedSums.{turned-at, turned-long}
use Rattle.project.proofs.ProjectedLists.{part-list, word-list}
use borrow.Author.Rules.{rules}
use Rattle.project.proofs.rows.project.Goals as goal

pub turn_rows-kept-requires : goal.turn_rows-kept-requires
turn_rows-kept-requires c =
    let long = length-replicate {A = ℤ} max_rows (pos 0) in record {
      sector = c.requires.sector;
      either_length = c.requires.either_length;
      whole_rows = c.requires.whole_rows;
      phase_lists = c.requires.phase_lists;
      representatives_len = c.requires.representatives_len;
      xs_len = (long, long);
    }

pub fold_parts-requires : goal.fold_parts-requires
fold_parts-requires c =
    let a = c.args in
    let gs : List Generator = generators_held a.group.now in
    let words = in_full_by a.size (length a.coefficients.now) a.words.now in
    let input = input_rows a.group.now.sites words a.coefficients.now in
    let turned : List (Word × Parts) = turned_rows a.table.cosines a.table.sines gs a.modes.now input in
    let many : c.turn_rows-kept.result ≡ length turned = c.turn_rows-kept.ensures.kept in
    let few : c.turn_rows-kept.result ≤ length a.coefficients.now =
    omega (
      arith,
      many,
      turned_few a.table.cosines a.table.sines gs a.modes.now input,
      input-length a.group.now.sites words a.coefficients.now,
    )
    in
    let small : (j : ℕ) → j < length turned → InRange max_part (get_or turned j ([], no_parts)).1.0 × InRange max_part (get_or turned j ([], no_parts)).1.1 =
    turned-at a.table.cosines a.table.sines c.requires.phase_lists c.requires.sector.tables.valid a.modes.now words a.coefficients.now c.requires.whole_rows
    in
    let held = c.turn_rows-kept.ensures.held in
    let as_many = c.requires.cosines_len.0 in
    let long = length-replicate {A = ℤ} max_rows (pos 0) in record {
      kept_in_bounds = omega (arith, few, as_many);
      cosines_len_bound = omega (arith, c.requires.whole_rows.rows.few, as_many);
      sines_len = c.requires.cosines_len.1 ∙ sym as_many;
      representatives_len = c.turn_rows-kept.auto.representatives ∙ c.requires.representatives_len ∙ ap (λ (k : ℕ). word_length * k) (sym as_many);
      xs_len = (c.turn_rows-kept.auto.xs ∙ long, c.turn_rows-kept.auto.ys ∙ long);
      by_index = λ i h. rw (held.cosine i (omega (arith, many, h))) (small i (omega (arith, many, h))).0;
      by_index_2 = λ i h. rw (held.sine i (omega (arith, many, h))) (small i (omega (arith, many, h))).1;
    }

pub returns : goal.returns
unfolding projected
returns c =
    let a = c.args in
    let n = a.group.now.sites in
    let gs : List Generator = generators_held a.group.now in
    let k = length a.coefficients.now in
    let words = in_full_by a.size k a.words.now in
    let input = input_rows n words a.coefficients.now in
    let turned : List (Word × Parts) = turned_rows a.table.cosines a.table.sines gs a.modes.now input in
    let many : c.turn_rows-kept.result ≡ length turned = c.turn_rows-kept.ensures.kept in
    let few : length turned ≤ k =
    omega (
      arith,
      turned_few a.table.cosines a.table.sines gs a.modes.now input,
      input-length n words a.coefficients.now,
    )
    in
    let out = c.turn_rows-kept.new.representatives in
    let xs = c.turn_rows-kept.new.xs in
    let ys = c.turn_rows-kept.new.ys in
    let held = c.turn_rows-kept.ensures.held in
    let whole = c.requires.whole_rows in
    let long = turned-long a.table.cosines a.table.sines c.requires.phase_lists c.requires.sector.tables.valid a.modes.now words a.coefficients.now whole in
    let as_many = c.requires.cosines_len.0 in
    let sites = c.requires.sector.tables.sites in
    let room = length-replicate {A = ℤ} max_rows (pos 0) in
    let xs-room : length turned ≤ length xs = omega (arith, c.turn_rows-kept.auto.xs ∙ room, few, whole.rows.few) in
    let ys-room : length turned ≤ length ys = omega (arith, c.turn_rows-kept.auto.ys ∙ room, few, whole.rows.few) in record {
      kept = many ∙ length-map (kept_rows gs a.modes.now input) _;
      representatives = c.fold_parts.ensures.representatives
          ∙ ap₂ (λ (r m : ℕ). words_filled r (table_of whole_rows (rows_in out (take m xs)))) as_many many
          ∙ word-list (λ p. p.0) refl (λ p q. refl) n sites turned long out xs xs-room held.word held.cosine k;
      cosines = c.fold_parts.ensures.cosines
          ∙ ap₂ (λ (r m : ℕ). filled (pos 0) (λ row. row.1) r (table_of whole_rows (rows_in out (take m xs)))) as_many many
          ∙ part-list (λ p. p.0) refl (λ p q. refl) n sites turned long out xs xs-room held.word held.cosine k;
      sines = c.fold_parts.ensures.sines
          ∙ ap₂ (λ (r m : ℕ). filled (pos 0) (λ row. row.1) r (table_of whole_rows (rows_in out (take m ys)))) as_many many
          ∙ part-list (λ p. p.1) refl (λ p q. refl) n sites turned long out ys ys-room held.word held.sine k;
    }
