-- `way::least_by` meets its contract: by the group's path, or through the table.
use Rattle.ways.proofs.way.least_by.Goals as goal

pub least_into-requires : goal.least_into-requires
least_into-requires c =
    let told = c.in-Stands.is in record {
      tables = c.requires.tables;
      taken = rw told at c.requires.found;
      order_value = c.requires.order_value;
      accepted_word = c.requires.accepted_word;
      left_len = rw told at c.requires.left_len;
    }

pub by_numbers-requires : goal.by_numbers-requires
by_numbers-requires c =
    let told = c.in-Numbered.is in
    let f = rw told at c.requires.found in
    let long = rw told at c.requires.left_len.0 in record {
      tables = c.requires.tables;
      order_value = c.requires.order_value;
      axes = f.0;
      renumbered = f.1;
      accepted_word = c.requires.accepted_word;
      order_bound = (rw long f.2, rw long f.3, c.requires.left_len.1);
    }
