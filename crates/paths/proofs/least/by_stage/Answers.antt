-- `least::by_stage` meets its contract: one candidate alone, or as where there are more.
use Rattle.paths.proofs.least.by_stage.Goals as goal

pub by_one-requires : goal.by_one-requires
by_one-requires c = record {
  tables = c.requires.tables;
  shapes = c.requires.shapes;
  planes = c.requires.planes.0;
  leading = rw c.in-Alone.is at c.requires.staged;
  out_len = c.requires.out_len;
}

pub returns : goal.returns
returns c =
    let e = c.requires.accepted_word.1 in record {
      word = rw e at c.by_one.ensures.word;
      index = rw e at c.by_one.ensures.index;
      fixing = rw e at c.by_one.ensures.fixing;
    }
