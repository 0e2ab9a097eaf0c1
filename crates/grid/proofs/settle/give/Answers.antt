-- `settle::give` meets its contract: the planes hold the word, and then what the candidate's inverse reaches from it.
use Rattle.grid.proofs.settle.give.Goals as goal

pub reach-requires : goal.reach-requires
reach-requires c = record {
  tables = c.requires.tables;
  shapes = c.requires.shapes;
  planes_2 = rw (c.copy.ensures, c.copy-2.ensures) c.requires.planes_2;
}

pub returns : goal.returns
returns c =
    let planes = rw c.copy.ensures at c.reach.ensures.planes in
    let letters = rw (c.copy.ensures, c.copy-2.ensures) at c.reach.ensures.letters in record {
      planes = planes;
      letters = rw c.invert-index.ensures at letters;
    }
