-- `row::append_two` meets its contract: one number after the other (`writes_then`).
use Prim.Native.Nat.{◌+◌, ◌≤◌}
use mathlib.Core.Path.{refl}
use mathlib.Core.List.{◌∷◌}
use native.Mathlib.Omega.{arith}
use borrow.Author.Rules.{rules}
use lib.ListN.{length}
use Rattle.text.proofs.Decimals.{written_short}
use Rattle.text.specs.Text.{space, decimal}
use Rattle.sheet_rows.specs.Rows.{number_room}
use Rattle.text.proofs.Writing.{Writes, writes_room, writes_then, writes_as}
use Rattle.sheet_rows.proofs.Rows.{number_writes}
use Rattle.sheet_rows.proofs.row.append_two.Goals as goal
use Rattle.sheet_rows.proofs.row.append_two.Lts as lts
use Rattle.sheet_rows.proofs.row.append_two.Tie as tie
use Rattle.sheet_rows.proofs.row.append_two.Reads as reads

abbrev ctx-Start : Type 0
ctx-Start = lts.Start tie.the-claims reads.Pre reads.Post tie.handed_clauses

abbrev ctx-After-append_number : Type 0
ctx-After-append_number = lts.After-append_number tie.the-claims reads.Pre reads.Post tie.handed_clauses

-- what is before the first number
abbrev start : ctx-After-append_number → ctx-Start
start c = c.before.before.before

-- the first number, and the room that is left
written :
    (c : ctx-After-append_number) → let a = (start c).args in Writes a.at (space ∷ decimal a.first) a.list.now c.append_number-a.result c.append_number-a.new.list × (c.append_number-a.result + number_room ≤ length c.append_number-a.new.list)
written c =
    let s = start c in
    let w = number_writes (c.append_number-a.ensures.place, c.append_number-a.ensures.list) s.requires.0 (omega (arith, s.requires.2)) in
    (w, writes_room number_room number_room w (omega (arith, written_short s.args.first s.requires.0)) (omega (arith, s.requires.2)))

pub append_number-requires : goal.append_number-requires
append_number-requires c = ((start c.before.before.before).requires.1, (written c.before.before.before).1)

pub returns : goal.returns
returns c =
    let second = number_writes (c.append_number.ensures.place, c.append_number.ensures.list) (start c.before.before.before.before.before.before.before).requires.1 (written c.before.before.before.before.before.before.before).1 in
    let it = writes_as (writes_then (written c.before.before.before.before.before.before.before).0 second) refl in record {
      place = it.0;
      list = it.1;
    }
