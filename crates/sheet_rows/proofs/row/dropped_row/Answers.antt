-- `row::dropped_row` meets its contract: what is missing, the index, what is missing, the weight and the end, one after the other (`writes_then`).
use Prim.Native.Nat.{◌+◌, ◌*◌, ◌≤◌}
use mathlib.Core.List.{◌∷◌}
use native.Mathlib.Omega.{arith}
use borrow.Author.Rules.{rules}
use lib.ListN.{length}
use Rattle.text.proofs.Decimals.{written_short}
use Rattle.text.specs.Text.{space, decimal}
use Rattle.sheet_rows.specs.Rows.{missing, number_room}
use Rattle.text.proofs.Writing.{writes_length, writes_then, text_writes, writes_as}
use Rattle.sheet_rows.proofs.Rows.{number_writes, dropped_pieces}
use Rattle.sheet_rows.proofs.row.dropped_row.Goals as goal

pub append_number-b-requires : goal.append_number-b-requires
append_number-b-requires c =
    let a = c.args in
    let (index, weight, room) = c.requires in
    let first = text_writes (c.append-a.ensures.place, c.append-a.ensures.list) (omega (arith, room)) in
    (index, omega (arith, room, first.ends, writes_length first))

pub append-c-requires : goal.append-c-requires
append-c-requires c =
    let a = c.args in
    let (index, weight, room) = c.requires in
    let first = text_writes (c.append-a.ensures.place, c.append-a.ensures.list) (omega (arith, room)) in
    let one = written_short a.index index in
    let second = number_writes (c.append_number-b.ensures.place, c.append_number-b.ensures.list) index (omega (arith, room, first.ends, writes_length first)) in
    omega (arith, room, first.ends, writes_length first, one, second.ends, writes_length second)

pub append_number-d-requires : goal.append_number-d-requires
append_number-d-requires c =
    let a = c.args in
    let (index, weight, room) = c.requires in
    let first = text_writes (c.append-a.ensures.place, c.append-a.ensures.list) (omega (arith, room)) in
    let one = written_short a.index index in
    let second = number_writes (c.append_number-b.ensures.place, c.append_number-b.ensures.list) index (omega (arith, room, first.ends, writes_length first)) in
    let third = text_writes (c.append-c.ensures.place, c.append-c.ensures.list) (omega (arith, room, first.ends, writes_length first, one, second.ends, writes_length second)) in
    (weight, omega (arith, room, first.ends, writes_length first, one, second.ends, writes_length second, third.ends, writes_length third))

pub append-requires : goal.append-requires
append-requires c =
    let a = c.args in
    let (index, weight, room) = c.requires in
    let first = text_writes (c.append-a.ensures.place, c.append-a.ensures.list) (omega (arith, room)) in
    let one = written_short a.index index in
    let second = number_writes (c.append_number-b.ensures.place, c.append_number-b.ensures.list) index (omega (arith, room, first.ends, writes_length first)) in
    let third = text_writes (c.append-c.ensures.place, c.append-c.ensures.list) (omega (arith, room, first.ends, writes_length first, one, second.ends, writes_length second)) in
    let two = written_short a.weight weight in
    let fourth = number_writes (c.append_number-d.ensures.place, c.append_number-d.ensures.list) weight (omega (arith, room, first.ends, writes_length first, one, second.ends, writes_length second, third.ends, writes_length third)) in
    omega (arith, room, first.ends, writes_length first, one, second.ends, writes_length second, third.ends, writes_length third, two, fourth.ends, writes_length fourth)

pub returns : goal.returns
returns c =
    let a = c.args in
    let (index, weight, room) = c.requires in
    let first = text_writes (c.append-a.ensures.place, c.append-a.ensures.list) (omega (arith, room)) in
    let one = written_short a.index index in
    let second = number_writes (c.append_number-b.ensures.place, c.append_number-b.ensures.list) index (omega (arith, room, first.ends, writes_length first)) in
    let third = text_writes (c.append-c.ensures.place, c.append-c.ensures.list) (omega (arith, room, first.ends, writes_length first, one, second.ends, writes_length second)) in
    let two = written_short a.weight weight in
    let fourth = number_writes (c.append_number-d.ensures.place, c.append_number-d.ensures.list) weight (omega (arith, room, first.ends, writes_length first, one, second.ends, writes_length second, third.ends, writes_length third)) in
    let last = text_writes (c.append.ensures.place, c.append.ensures.list) (omega (arith, room, first.ends, writes_length first, one, second.ends, writes_length second, third.ends, writes_length third, two, fourth.ends, writes_length fourth)) in
    let it = writes_as (writes_then first (writes_then second (writes_then third (writes_then fourth last)))) (dropped_pieces a.index a.weight) in record {
      place = it.0;
      list = it.1;
    }
