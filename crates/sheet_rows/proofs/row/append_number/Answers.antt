-- `row::append_number` meets its contract: the digits follow the space (`writes_then`).
use mathlib.Core.Path.{refl}
use native.Mathlib.Omega.{arith}
use borrow.Author.Rules.{rules}
use Rattle.text.proofs.Decimals.{written_short}
use Rattle.text.proofs.Writing.{writes_length, writes_then, text_writes, writes_as}
use Rattle.sheet_rows.proofs.row.append_number.Goals as goal

pub returns : goal.returns
returns c =
    let short = written_short c.args.number c.requires.0 in
    let first = text_writes (c.append-a.ensures.place, c.append-a.ensures.list) (omega (arith, c.requires.1)) in
    let second = text_writes (c.append_decimal.ensures.place, c.append_decimal.ensures.list) (omega (arith, short, c.requires.1, first.ends, writes_length first)) in
    let it = writes_as (writes_then first second) refl in record {
      place = it.0;
      list = it.1;
    }
