-- `row::word_row` meets its contract: the text, and after it what the placement says (`row-dropped`, `row_kept`), one after the other (`writes_then`).
use Prim.Native.Nat.{ℕ, ◌+◌, ◌≤◌, ◌<◌}
use mathlib.Core.Path.{◌≡◌, refl, sym, ap, ap₂, ◌∙◌}
use mathlib.Core.List.{List, [], ◌∷◌, ◌++◌}
use native.Mathlib.Omega.{arith}
use borrow.Author.Rules.{rules}
use lib.ListN.{length}
use Rattle.pauli_word.specs.Limits.{max_sites}
use Rattle.pauli_word.specs.Word.{Word, weight}
use Rattle.pauli_word.specs.Bytes.{AcceptedWord, letters_in}
use Rattle.pauli_word.specs.Text.{read_text, spell}
use Rattle.action.specs.Permutation.{Generator, Valid}
use Rattle.action.specs.Index.{order_of}
use Rattle.action.specs.Orbit.{least}
use Rattle.permutation.specs.Limits.{max_order}
use Rattle.elements.specs.HeldGroup.{generators_held}
use Rattle.decisions.specs.declared.placement.Placement.TheVariants as Placement
use Rattle.decisions.specs.Decisions.{decision, row_word}
use Rattle.decisions.specs.Placements.{placement_of, index_in}
use Rattle.text.specs.Text.{decimal, max_written}
use Rattle.sheet_rows.specs.Rows.{missing, one_text, rest, numbers_room}
use Rattle.sheet_lines.specs.Lines.{zero_text}
use Rattle.text.proofs.Writing.{Writes, writes_length, writes_then, text_writes, writes_as}
use Rattle.sheet_rows.proofs.Rows.{dropped_short, kept_short, spelled-length, not-refused, weighed, read-fine, weight-few, read-accepted, read_word, row-dropped, dropped-small, row_kept, kept_word, kept_small}
use Rattle.sheet_rows.proofs.row.word_row.Goals as goal

pub returns-in_default : goal.returns-in_default
returns-in_default c =
    let a = c.args in
    let (alone, long) = c.requires.word_value in
    absurd (read-fine a.group.now.sites a.word.now alone long c.requires.tables.sites _ c.from_text.ensures c.in_default.is)

pub returns-in_default-weight : goal.returns-in_default-weight
returns-in_default-weight c =
    let a = c.args in
    let n = a.group.now.sites in
    let (alone, long) = c.requires.word_value in
    let accepted = read-accepted n a.word.now alone long c.requires.tables.sites _ c.from_text.ensures c.in-Ok.is in
    absurd (not-refused n c.in-Ok.read.word accepted c.weight.ensures.answer c.in_default-weight.is)

pub placement_of-place-requires : goal.placement_of-place-requires
placement_of-place-requires c =
    let a = c.args in
    let n = a.group.now.sites in
    let (alone, long) = c.requires.word_value in
    let tables = c.requires.tables in
    let bytes = c.in-Ok.read.word in
    let accepted = read-accepted n a.word.now alone long tables.sites _ c.from_text.ensures c.in-Ok.is in
    record {
      tables = tables;
      accepted_word = accepted;
      modes_len = c.requires.modes_len;
    }

pub dropped_row-requires : goal.dropped_row-requires
dropped_row-requires c =
    let a = c.args in
    let n = a.group.now.sites in
    let (alone, long) = c.requires.word_value in
    let tables = c.requires.tables in
    let bytes = c.in-Ok.read.word in
    let accepted = read-accepted n a.word.now alone long tables.sites _ c.from_text.ensures c.in-Ok.is in
    let letters = read_word n a.word.now alone long tables.sites _ c.from_text.ensures c.in-Ok.is in
    let few = weight-few n a.word.now alone long tables.sites _ c.from_text.ensures in
    let same = weighed n bytes accepted c.weight.ensures.answer c.in-Ok-weight.is ∙ ap weight letters in
    let light : c.in-Ok-weight.weight < max_written = omega (arith, same, few) in
    let room = c.requires.numbers_room_in_bounds in
    let first = text_writes (c.append-end.ensures.place, c.append-end.ensures.list) (omega (arith, room)) in
    let gs = generators_held a.group.now in
    let placed = ap (λ (w : Word). placement_of (decision gs a.modes.now w)) (sym letters) ∙ sym c.placement_of-place.ensures.answer in
    let i = c.index.result in
    let told = c.in_default-answer.is in
    let found = placed ∙ told ∙ ap (λ (j : ℕ). Placement.Dropped j) (sym (c.index.ensures ∙ ap index_in told)) in
    let small = dropped-small gs a.modes.now a.word.now alone found tables.small in
    (small, light, omega (arith, room, long, first.ends, writes_length first))

pub returns-in_default-answer : goal.returns-in_default-answer
returns-in_default-answer c =
    let a = c.args in
    let n = a.group.now.sites in
    let (alone, long) = c.requires.word_value in
    let tables = c.requires.tables in
    let bytes = c.in-Ok.read.word in
    let accepted = read-accepted n a.word.now alone long tables.sites _ c.from_text.ensures c.in-Ok.is in
    let letters = read_word n a.word.now alone long tables.sites _ c.from_text.ensures c.in-Ok.is in
    let few = weight-few n a.word.now alone long tables.sites _ c.from_text.ensures in
    let same = weighed n bytes accepted c.weight.ensures.answer c.in-Ok-weight.is ∙ ap weight letters in
    let light : c.in-Ok-weight.weight < max_written = omega (arith, same, few) in
    let room = c.requires.numbers_room_in_bounds in
    let first = text_writes (c.append-end.ensures.place, c.append-end.ensures.list) (omega (arith, room)) in
    let gs = generators_held a.group.now in
    let placed = ap (λ (w : Word). placement_of (decision gs a.modes.now w)) (sym letters) ∙ sym c.placement_of-place.ensures.answer in
    let i = c.index.result in
    let told = c.in_default-answer.is in
    let found = placed ∙ told ∙ ap (λ (j : ℕ). Placement.Dropped j) (sym (c.index.ensures ∙ ap index_in told)) in
    let small = dropped-small gs a.modes.now a.word.now alone found tables.small in
    let k = c.in-Ok-weight.weight in
    let short = dropped_short i k small light in
    let second = text_writes (c.dropped_row.ensures.place, c.dropped_row.ensures.list) (omega (arith, room, long, first.ends, writes_length first, short)) in
    let it = writes_as (writes_then first second)
    (ap (λ (j : ℕ). a.word.now ++ rest (missing ∷ decimal i ∷ missing ∷ decimal j ∷ zero_text ∷ [])) same
    ∙ sym (row-dropped gs a.modes.now a.word.now alone found)) in record {
      place = it.0;
      list = it.1;
    }

pub kept_row-requires : goal.kept_row-requires
kept_row-requires c =
    let a = c.args in
    let n = a.group.now.sites in
    let (alone, long) = c.requires.word_value in
    let tables = c.requires.tables in
    let bytes = c.in-Ok.read.word in
    let accepted = read-accepted n a.word.now alone long tables.sites _ c.from_text.ensures c.in-Ok.is in
    let letters = read_word n a.word.now alone long tables.sites _ c.from_text.ensures c.in-Ok.is in
    let few = weight-few n a.word.now alone long tables.sites _ c.from_text.ensures in
    let same = weighed n bytes accepted c.weight.ensures.answer c.in-Ok-weight.is ∙ ap weight letters in
    let light : c.in-Ok-weight.weight < max_written = omega (arith, same, few) in
    let room = c.requires.numbers_room_in_bounds in
    let first = text_writes (c.append-end.ensures.place, c.append-end.ensures.list) (omega (arith, room)) in
    let gs = generators_held a.group.now in
    let placed = ap (λ (w : Word). placement_of (decision gs a.modes.now w)) (sym letters) ∙ sym c.placement_of-place.ensures.answer in
    let i = c.in-Kept.index in
    let size = c.in-Kept.size in
    let found = placed ∙ c.in-Kept.is in
    let (less, below) = kept_small gs a.modes.now a.word.now alone found tables.valid long tables.sites tables.small in
    let same_row = c.placement_of-place.ensures.word ∙ ap (λ (w : Word). row_word (decision gs a.modes.now w)) letters in
    let (right, back) = kept_word gs a.modes.now a.word.now alone found tables.valid long tables.sites same_row in
    record {
      index_lt_max_written = (less, below, light, omega (arith, room, long, first.ends, writes_length first));
      accepted_word = right;
    }

pub returns : goal.returns
returns c =
    let a = c.args in
    let n = a.group.now.sites in
    let (alone, long) = c.requires.word_value in
    let tables = c.requires.tables in
    let bytes = c.in-Ok.read.word in
    let accepted = read-accepted n a.word.now alone long tables.sites _ c.from_text.ensures c.in-Ok.is in
    let letters = read_word n a.word.now alone long tables.sites _ c.from_text.ensures c.in-Ok.is in
    let few = weight-few n a.word.now alone long tables.sites _ c.from_text.ensures in
    let same = weighed n bytes accepted c.weight.ensures.answer c.in-Ok-weight.is ∙ ap weight letters in
    let light : c.in-Ok-weight.weight < max_written = omega (arith, same, few) in
    let room = c.requires.numbers_room_in_bounds in
    let first = text_writes (c.append-end.ensures.place, c.append-end.ensures.list) (omega (arith, room)) in
    let gs = generators_held a.group.now in
    let placed = ap (λ (w : Word). placement_of (decision gs a.modes.now w)) (sym letters) ∙ sym c.placement_of-place.ensures.answer in
    let i = c.in-Kept.index in
    let size = c.in-Kept.size in
    let found = placed ∙ c.in-Kept.is in
    let (less, below) = kept_small gs a.modes.now a.word.now alone found tables.valid long tables.sites tables.small in
    let same_row = c.placement_of-place.ensures.word ∙ ap (λ (w : Word). row_word (decision gs a.modes.now w)) letters in
    let (right, back) = kept_word gs a.modes.now a.word.now alone found tables.valid long tables.sites same_row in
    let k = c.in-Ok-weight.weight in
    let f = spell (letters_in n c.placement_of-place.result.word) in
    let wide = spelled-length n c.placement_of-place.result.word right in
    let short = kept_short f i size k less below light in
    let second = text_writes (c.kept_row.ensures.place, c.kept_row.ensures.list) (omega (arith, room, long, first.ends, writes_length first, wide, short)) in
    let it = writes_as (writes_then first second)
    (ap₂ (λ (v : Word) (j : ℕ). a.word.now ++ rest (spell v ∷ decimal i ∷ decimal size ∷ decimal j ∷ one_text ∷ [])) back same
    ∙ sym (row_kept gs a.modes.now a.word.now alone found)) in record {
      place = it.0;
      list = it.1;
    }
