-- `exchange::swap_words` meets its contract: the rows that it reads and writes are those of `rowsSwapped`.
use Rattle.row_lists.proofs.Rows.{rows_swapped_lem}
use Rattle.row_lists.proofs.exchange.swap_words.Goals as goal

pub returns : goal.returns
returns c =
    let a = c.args in
    rows_swapped_lem a.words.now a.a a.b c.row_of-left.ensures c.row_of-right.ensures c.put_row.ensures c.put_row-2.ensures
