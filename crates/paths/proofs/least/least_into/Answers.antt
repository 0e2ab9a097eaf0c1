-- `least::least_into` meets its contract, path by path.
use Rattle.paths.proofs.least.least_into.Goals as goal

pub by_grid-requires : goal.by_grid-requires
by_grid-requires c =
    let g = c.in-Grid.is in
    let t = rw g at c.requires.taken in record {
      tables = c.requires.tables;
      shapes = t.0;
      order_value = c.requires.order_value;
      steps = rw (← (rw g at c.requires.left_len.0)) at t.1;
      accepted_word = c.requires.accepted_word;
      out_len = c.requires.left_len.1;
    }

pub by_masks-requires : goal.by_masks-requires
by_masks-requires c = record {
  tables = c.requires.tables;
  shapes = rw c.in-Masks.is at c.requires.taken;
  accepted_word = c.requires.accepted_word;
  order_value = c.requires.order_value;
  out_len = c.requires.left_len.1;
}

pub returns-in-Masks : goal.returns-in-Masks
returns-in-Masks c = record {
  word = c.by_masks.ensures.word;
  index = c.by_masks.ensures.index;
  fixing = c.by_masks.ensures.fixing c.args.left.now;
}

pub returns-in-Letters : goal.returns-in-Letters
returns-in-Letters c = record {
  word = c.by_letters.ensures.word;
  index = c.by_letters.ensures.index;
  fixing = c.by_letters.ensures.fixing c.args.left.now;
}
