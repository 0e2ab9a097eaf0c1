-- `rows::rows_on` meets its contract: the parts have answered, or the path of the group is taken for each row.
use Prim.Native.Nat.{ℕ, ◌*◌}
use mathlib.Core.Path.{sym, ap, subst, ◌∙◌}
use Rattle.pauli_word.specs.Limits.{word_length}
use Rattle.elements.specs.HeldGroup.{generators_in}
use Rattle.row_lists.specs.Rows.{in_full_by}
use Rattle.row_lists.specs.Checks.{AcceptedRows}
use Rattle.sector_rows.specs.Rows.{decided_rows, sector_words, sector_indices, sector_sizes}
use Rattle.sector_rows.proofs.rows.rows_on.Goals as goal

pub returns-then-rows_taken : goal.returns-then-rows_taken
returns-then-rows_taken c = let yes' = c.if-rows_taken.true in record {
  representatives = c.rows_taken.ensures.representatives yes';
  indices = c.rows_taken.ensures.indices yes';
  sizes = c.rows_taken.ensures.sizes yes';
}

pub rows_by_path-requires : goal.rows_by_path-requires
rows_by_path-requires c =
    let a = c.args in
    let r = c.rows_taken.auto in
    let same = sym r.indices in
    let (either, long) = c.requires.either_length in
    let accepted = c.requires.accepted_rows in let rows = c.requires.representatives_len in let sizes = c.requires.sizes_len in record {
      tables = c.requires.tables;
      taken = c.requires.taken;
      order_value = c.requires.order_value;
      modes_len = c.requires.modes_len;
      either_length = (either, long ∙ ap (λ (k : ℕ). a.size * k) same);
      accepted_rows = subst (λ (k : ℕ). AcceptedRows a.group.now.sites (in_full_by a.size k a.words.now) k) same accepted;
      representatives_len = r.representatives ∙ rows ∙ ap (λ (k : ℕ). word_length * k) same;
      sizes_len = r.sizes ∙ sizes ∙ same;
    }

pub returns : goal.returns
returns c =
    let a = c.args in
    let gs = generators_in a.group.now.generators a.group.now.sites a.group.now.targets.now a.group.now.orders.now in
    let ks = a.modes.now in
    let same = c.rows_taken.auto.indices in record {
      representatives = c.rows_by_path.ensures.representatives ∙ ap (λ (k : ℕ). sector_words (decided_rows gs ks a.group.now.sites (in_full_by a.size k a.words.now) k)) same;
      indices = c.rows_by_path.ensures.indices ∙ ap (λ (k : ℕ). sector_indices (decided_rows gs ks a.group.now.sites (in_full_by a.size k a.words.now) k)) same;
      sizes = c.rows_by_path.ensures.sizes ∙ ap (λ (k : ℕ). sector_sizes (decided_rows gs ks a.group.now.sites (in_full_by a.size k a.words.now) k)) same;
    }
