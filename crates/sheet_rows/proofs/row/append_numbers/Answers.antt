-- `row::append_numbers` meets its contract: two numbers, a third and the line's end, one after the other (`writes_then`).
use Prim.Native.Nat.{◌+◌, ◌*◌, ◌≤◌}
use mathlib.Core.List.{◌∷◌, ◌++◌}
use native.Mathlib.Omega.{arith}
use borrow.Author.Rules.{rules}
use lib.ListN.{length}
use Rattle.text.proofs.Decimals.{written_short}
use Rattle.text.specs.Text.{space, decimal}
use Rattle.sheet_rows.specs.Rows.{number_room}
use Rattle.text.proofs.Writing.{writes_length, writes_then, text_writes, writes_as}
use Rattle.sheet_rows.proofs.Rows.{number_writes, two_short, numbers-pieces}
use Rattle.sheet_rows.proofs.row.append_numbers.Goals as goal

pub append_number-b-requires : goal.append_number-b-requires
append_number-b-requires c =
    let a = c.args in
    let (index, size, weight, room) = c.requires in
    let two = two_short a.index a.size index size in
    let first = text_writes (c.append_two-a.ensures.place, c.append_two-a.ensures.list) (omega (arith, room, two)) in
    (weight, omega (arith, room, two, first.ends, writes_length first))

pub append-requires : goal.append-requires
append-requires c =
    let a = c.args in
    let (index, size, weight, room) = c.requires in
    let two = two_short a.index a.size index size in
    let first = text_writes (c.append_two-a.ensures.place, c.append_two-a.ensures.list) (omega (arith, room, two)) in
    let one = written_short a.weight weight in
    let second = number_writes (c.append_number-b.ensures.place, c.append_number-b.ensures.list) weight (omega (arith, room, two, first.ends, writes_length first)) in
    omega (arith, room, two, one, first.ends, writes_length first, second.ends, writes_length second)

pub returns : goal.returns
returns c =
    let a = c.args in
    let (index, size, weight, room) = c.requires in
    let two = two_short a.index a.size index size in
    let first = text_writes (c.append_two-a.ensures.place, c.append_two-a.ensures.list) (omega (arith, room, two)) in
    let one = written_short a.weight weight in
    let second = number_writes (c.append_number-b.ensures.place, c.append_number-b.ensures.list) weight (omega (arith, room, two, first.ends, writes_length first)) in
    let last = text_writes (c.append.ensures.place, c.append.ensures.list) (omega (arith, room, two, one, first.ends, writes_length first, second.ends, writes_length second)) in
    let it = writes_as (writes_then first (writes_then second last)) (numbers-pieces a.index a.size a.weight) in record {
      place = it.0;
      list = it.1;
    }
