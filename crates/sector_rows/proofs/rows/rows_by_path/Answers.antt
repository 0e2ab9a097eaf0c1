-- `rows::rows_by_path` meets its contract: there is room for the candidates.
use mathlib.Core.Path.{◌∙◌}
use native.Mathlib.Omega.{arith}
use Rattle.rotation.proofs.Packs.{fresh-length}
use Rattle.sector_rows.proofs.rows.rows_by_path.Goals as goal

pub place_each-requires : goal.place_each-requires
place_each-requires c =
    let room = fresh-length c.words-room.result (omega (arith, c.words-room.ensures, c.requires.taken.1)) ∙ c.words-room.ensures in record {
      tables = c.requires.tables;
      taken = c.requires.taken.0;
      order_value = c.requires.order_value;
      modulus_value = c.phase_modulus-modulus.ensures;
      modes_len = c.requires.modes_len;
      left_len = room;
      either_length = c.requires.either_length;
      accepted_rows = c.requires.accepted_rows;
      representatives_len = c.requires.representatives_len;
      sizes_len = c.requires.sizes_len;
    }
