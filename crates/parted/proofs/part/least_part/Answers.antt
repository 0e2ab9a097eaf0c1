-- `part::least_part` meets its contract: there is room for the codes and for the words.
use Rattle.parted.proofs.Replacing.{room-length}
use Rattle.pauli_word.specs.Limits.{word_length}
use lib.ListN.{length-replicate}
use Prim.Native.Nat.{ℕ}
use Rattle.parted.proofs.part.least_part.Goals as goal

pub in_codes-led-requires : goal.in_codes-led-requires
in_codes-led-requires c =
    let (ok, l) = c.requires.accepted_word in record {
      tables = c.requires.tables;
      found = c.requires.found;
      order_value = c.requires.order_value;
      numbering = c.requires.numbering;
      accepted_word = ok;
      codes_len = (room-length c.args.sites ok.sites, room-length c.args.own_group.now.sites c.requires.tables.sites, length-replicate {A = ℕ} word_length 0, length-replicate {A = ℕ} word_length 0, l);
    }
