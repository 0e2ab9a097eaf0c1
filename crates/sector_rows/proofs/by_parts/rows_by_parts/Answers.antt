-- `by_parts::rows_by_parts` meets its contract: there is room for a label a generator and an owner a site.
use Prim.Native.Nat.{ℕ}
use lib.ListN.{length-replicate}
use Rattle.pauli_word.specs.Limits.{max_sites}
use Rattle.least_words.proofs.Answers.{labels_length}
use Rattle.sector_rows.proofs.by_parts.rows_by_parts.Goals as goal

pub rows_in_parts-requires : goal.rows_in_parts-requires
rows_in_parts-requires c = record {
  tables = c.requires.tables;
  modes_len = c.requires.modes_len;
  either_length = c.requires.either_length;
  accepted_rows = c.requires.accepted_rows;
  representatives_len = c.requires.representatives_len;
  sizes_len = c.requires.sizes_len;
  labels_len = (labels_length c.args.group.now.generators c.requires.tables.few, length-replicate {A = ℕ} max_sites 0);
}
