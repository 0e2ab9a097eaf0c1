-- `rows::part_of_all` meets its contract: there is room for what is made ready.
use Rattle.permutation.specs.Limits.{target_places}
use Rattle.pauli_word.specs.Limits.{max_sites}
use lib.ListN.{length, length-replicate}
use native.Mathlib.Omega.{arith}
use Prim.Native.Nat.{ℕ}
use mathlib.Core.Path.{refl, ap}
use Rattle.parted.proofs.rows.part_of_all.Goals as goal

pub part_in-requires : goal.part_in-requires
part_in-requires c = record {
  tables = c.requires.tables;
  divided = c.requires.divided;
  table_len = (length-replicate {A = ℕ} max_sites 0, length-replicate {A = ℕ} target_places 0, refl);
  strides_len = (ap length c.new-shapes.ensures.0, ap length c.new-shapes.ensures.1, omega arith);
  site_len = (length-replicate {A = ℕ} max_sites 0, length-replicate {A = ℕ} max_sites 0);
  representatives_len = c.requires.representatives_len;
  by_index = c.requires.by_index;
}
