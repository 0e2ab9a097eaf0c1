-- `row::kept_row` meets its contract: a space, the least word and the numbers, one after the other (`writes_then`).
use mathlib.Core.List.{[], ◌∷◌}
use mathlib.Core.Path.{ap, sym, ◌∙◌}
use Prim.Native.Nat.{ℕ, ◌+◌}
use native.Mathlib.Omega.{arith}
use borrow.Author.Rules.{rules}
use Rattle.pauli_word.specs.Text.{spell}
use Rattle.text.specs.Text.{decimal}
use Rattle.sheet_rows.specs.Rows.{one_text}
use Rattle.text.proofs.Writing.{writes_length, writes_then, text_writes, writes_as}
use Rattle.sheet_rows.proofs.Rows.{spelled-length, numbers_short, kept_pieces}
use Rattle.pauli_word.specs.Bytes.{letters_in}
use Rattle.sheet_rows.proofs.row.kept_row.Goals as goal

pub returns : goal.returns
returns c =
    let a = c.args in
    let (index, size, weight, room) = c.requires.index_lt_max_written in
    let f = spell (letters_in a.sites a.least) in
    let long = spelled-length a.sites a.least c.requires.accepted_word in
    let first = text_writes (c.append-a.ensures.place, c.append-a.ensures.list) (omega (arith, room)) in
    let second =
    text_writes (c.append_word-b.ensures.place ∙ ap (λ (k : ℕ). c.append-a.result + k) (sym long), c.append_word-b.ensures.list) (omega (arith, room, long, first.ends, writes_length first))
    in
    let short = numbers_short a.index a.size a.weight index size weight in
    let third =
    text_writes (c.append_numbers.ensures.place, c.append_numbers.ensures.list)
    (omega (arith, room, long, first.ends, writes_length first, second.ends, writes_length second, short))
    in
    let it = writes_as (writes_then first (writes_then second third)) (kept_pieces f (decimal a.index ∷ decimal a.size ∷ decimal a.weight ∷ one_text ∷ [])) in record {
      place = it.0;
      list = it.1;
    }
