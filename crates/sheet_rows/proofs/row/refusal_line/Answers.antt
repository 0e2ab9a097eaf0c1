-- `row::refusal_line` meets its contract: the name, two numbers and the line's end, one after the other (`writes_then`).
use Prim.Native.Nat.{◌+◌, ◌*◌, ◌≤◌}
use mathlib.Core.Path.{◌≡◌}
use mathlib.Core.List.{◌∷◌, ◌++◌}
use native.Mathlib.Omega.{arith}
use borrow.Author.Rules.{rules}
use lib.ListN.{length}
use Rattle.outcome.specs.Outcome.{rule_number}
use Rattle.outcome.proofs.Outcomes.{number_small}
use Rattle.text.specs.Text.{space, decimal}
use Rattle.sheet_rows.specs.Rows.{refused_name, number_room}
use Rattle.text.proofs.Writing.{writes_length, writes_then, text_writes, writes_as}
use Rattle.sheet_rows.proofs.Rows.{two_short, refusal_pieces}
use Rattle.sheet_rows.proofs.row.refusal_line.Goals as goal

pub append_two-end-requires : goal.append_two-end-requires
append_two-end-requires c =
    let a = c.args in
    let (small, room) = c.requires in
    let first = text_writes (c.append-name.ensures.place, c.append-name.ensures.list) (omega (arith, room)) in
    (omega (arith, c.rule_number.ensures, number_small a.why), small, omega (arith, room, first.ends, writes_length first))

pub append-requires : goal.append-requires
append-requires c =
    let a = c.args in
    let (small, room) = c.requires in
    let first = text_writes (c.append-name.ensures.place, c.append-name.ensures.list) (omega (arith, room)) in
    let number = rule_number a.why in
    let two = two_short number a.line (omega (arith, number_small a.why)) small in
    let told = c.rule_number.ensures in
    let second = text_writes (rw told at (c.append_two-end.ensures.place), rw told at (c.append_two-end.ensures.list)) (omega (arith, room, first.ends, writes_length first, two)) in
    omega (arith, room, first.ends, writes_length first, two, second.ends, writes_length second)

pub returns : goal.returns
returns c =
    let a = c.args in
    let (small, room) = c.requires in
    let first = text_writes (c.append-name.ensures.place, c.append-name.ensures.list) (omega (arith, room)) in
    let number = rule_number a.why in
    let two = two_short number a.line (omega (arith, number_small a.why)) small in
    let told = c.rule_number.ensures in
    let second = text_writes (rw told at (c.append_two-end.ensures.place), rw told at (c.append_two-end.ensures.list)) (omega (arith, room, first.ends, writes_length first, two)) in
    let last = text_writes (c.append.ensures.place, c.append.ensures.list) (omega (arith, room, first.ends, writes_length first, two, second.ends, writes_length second)) in
    let it = writes_as (writes_then first (writes_then second last)) (refusal_pieces number a.line) in record {
      place = omega (arith, it.0);
      list = it.1;
    }
