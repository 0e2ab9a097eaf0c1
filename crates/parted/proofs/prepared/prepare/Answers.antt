-- `prepared::prepare` meets its contract: there is room for the lists.
use Rattle.pauli_word.specs.Limits.{max_sites}
use lib.ListN.{length-replicate}
use Prim.Native.Nat.{ℕ}
use mathlib.Core.Path.{refl}
use Rattle.parted.proofs.prepared.prepare.Goals as goal

pub prepare_in-requires : goal.prepare_in-requires
prepare_in-requires c =
    let q = c.requires.table_len in record {
      tables = c.requires.tables;
      divided = c.requires.divided;
      members_len = (refl, refl, length-replicate {A = ℕ} max_sites 0, q.0);
      own_targets_len = (q.1, q.2);
      strides_len = c.requires.strides_len;
      site_len = c.requires.site_len;
    }
