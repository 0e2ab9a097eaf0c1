-- `exchange::tell_owner` meets its contract: it looks whether the place waits for the row at k, as the definitions do.
use Rattle.row_lists.proofs.Arranging.{told-positions, told-owners, kept-positions, kept-owners}
use Rattle.row_lists.proofs.exchange.tell_owner.Goals as goal

pub returns-then-wanted-k : goal.returns-then-wanted-k
returns-then-wanted-k c =
    let a = c.args in record {
      positions = told-positions a.positions.now a.owners.now a.k a.from c.if-wanted-k.true;
      owners = told-owners a.positions.now a.owners.now a.k a.from c.if-wanted-k.true;
    }

pub returns-else-wanted-k : goal.returns-else-wanted-k
returns-else-wanted-k c =
    let a = c.args in record {
      positions = kept-positions a.positions.now a.owners.now a.k a.from c.if-wanted-k.false;
      owners = kept-owners a.positions.now a.owners.now a.k a.from c.if-wanted-k.false;
    }
