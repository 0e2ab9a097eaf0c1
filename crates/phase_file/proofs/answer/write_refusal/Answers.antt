-- `answer::write_refusal` meets its contract: the word, the number and the line's end, one after the other (`writes_then`).
use Prim.Native.Nat.{ℕ, ◌+◌, ◌≤◌}
use mathlib.Core.Path.{◌≡◌, refl}
use native.Mathlib.Omega.{arith}
use borrow.Author.Rules.{rules}
use lib.ListN.{length}
use Rattle.outcome.specs.Outcome.{rule_number}
use Rattle.outcome.specs.declared.Refusal.{Refusal}
use Rattle.outcome.proofs.Outcomes.{number_small}
use mathlib.Core.List.{List}
use Rattle.text.specs.Text.{decimal, max_digits, put}
use Rattle.phase_file.specs.File.{max_line}
use Rattle.text.specs.Quoted.{bytes}
use Rattle.text.proofs.Decimals.{written_short}
use Rattle.text.proofs.Writing.{Writes, writes_room, writes_then, text_writes, writes_as}
use Rattle.phase_file.proofs.answer.write_refusal.Goals as goal

-- the word, and the room that is left
named : {list next : List ℕ} {place : ℕ}
    → max_line ≤ length list
    → (place ≡ 0 + length (bytes "refused ")) × (next ≡ put 0 (bytes "refused ") list)
    → Writes 0 (bytes "refused ") list place next × (place + (max_digits + 1) ≤ length next)
named room told =
    let w = text_writes told (omega (arith, room)) in
    (w, writes_room 8 (max_digits + 1) w (omega arith) (omega (arith, room)))

-- the number
numbered : {list next : List ℕ} {at place : ℕ} (why : Refusal) (number : ℕ)
    → number ≡ rule_number why
    → at + (max_digits + 1) ≤ length list
    → (place ≡ at + length (decimal number)) × (next ≡ put at (decimal number) list)
    → Writes at (decimal (rule_number why)) list place next × (place + 1 ≤ length next)
numbered why number e room told =
    let short = written_short (rule_number why) (omega (arith, number_small why)) in
    let w = text_writes (rw e at told) (omega (arith, room, short)) in
    (w, writes_room max_digits 1 w short (omega (arith, room)))

pub append_decimal-end-requires : goal.append_decimal-end-requires
append_decimal-end-requires c =
    let (name, room) = named c.requires (c.append-name.ensures.place, c.append-name.ensures.list) in record {
      number_lt_max_written = omega (arith, c.rule_number.ensures, number_small c.args.why);
      max_digits_in_bounds = omega (arith, room);
    }

pub append-requires : goal.append-requires
append-requires c =
    let (name, room) = named c.requires (c.append-name.ensures.place, c.append-name.ensures.list) in
    (numbered c.args.why c.rule_number.result c.rule_number.ensures room (c.append_decimal-end.ensures.place, c.append_decimal-end.ensures.list)).1

pub returns : goal.returns
returns c =
    let (name, room) = named c.requires (c.append-name.ensures.place, c.append-name.ensures.list) in
    let (number, left) = numbered c.args.why c.rule_number.result c.rule_number.ensures room (c.append_decimal-end.ensures.place, c.append_decimal-end.ensures.list) in
    let last = text_writes (c.append.ensures.place, c.append.ensures.list) left in
    let (ends, made) = writes_as (writes_then name (writes_then number last)) refl in record {
      place = omega (arith, ends);
      list = made;
    }
