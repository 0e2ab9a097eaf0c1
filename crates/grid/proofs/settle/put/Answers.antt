-- `settle::put` meets its contract: k's machine word has k's bit beside what it had.
use Rattle.grid.proofs.Settling.{put-bit}
use Rattle.grid.proofs.settle.put.Goals as goal

pub returns : goal.returns
returns c = put-bit c.args.set.now c.args.k c.alone_word-bit.result c.requires c.alone_word-bit.ensures
