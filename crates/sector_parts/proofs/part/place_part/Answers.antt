-- `part::place_part` meets its contract: there is room for the codes and for the words.
use Rattle.parted.proofs.Replacing.{room-length}
use Rattle.pauli_word.specs.Limits.{word_length}
use lib.ListN.{length-replicate}
use Prim.Native.Nat.{ℕ}
use Rattle.sector_parts.proofs.part.place_part.Goals as goal

pub place_in_codes-requires : goal.place_in_codes-requires
place_in_codes-requires c =
    let (ok, l) = c.requires.accepted_word in
    let word = length-replicate {A = ℕ} word_length 0 in record {
      tables = c.requires.tables;
      found = c.requires.found;
      order_value = c.requires.order_value;
      modulus_value = c.requires.modulus_value;
      numbering = c.requires.numbering;
      accepted_word = ok;
      codes_len = (room-length c.args.sites ok.sites, room-length c.args.own_group.now.sites c.requires.tables.sites, word, word, l);
    }
