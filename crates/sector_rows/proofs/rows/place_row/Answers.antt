-- `rows::place_row` meets its contract: a row in full is the word itself (`row-stands`), and one of the old form is widened.
use mathlib.Core.Path.{sym, ap, subst, ◌∙◌}
use mathlib.Core.List.{List}
use Prim.Native.Nat.{ℕ}
use native.Mathlib.Omega.{arith}
use Rattle.pauli_word.specs.Bytes.{AcceptedWord, letters_in}
use Rattle.elements.specs.HeldGroup.{generators_held}
use Rattle.decisions.specs.Decisions.{Decision, Row, decision, row_word}
use Rattle.decisions.specs.Placements.{placement_of}
use Rattle.sector_rows.proofs.Written.{row_within, row-stands}
use Rattle.sector_rows.proofs.rows.place_row.Goals as goal

pub overflow_mul-at : goal.overflow_mul-at
overflow_mul-at c =
    let inside = row_within c.if-size-eq-WORD_BYTES.true c.args.words.now c.args.i c.requires.either_length.1 in
    omega (arith, inside)

pub overflow_add-end : goal.overflow_add-end
overflow_add-end c =
    let inside = row_within c.if-size-eq-WORD_BYTES.true c.args.words.now c.args.i c.requires.either_length.1 in
    omega (arith, inside)

pub slice_bounds-placed_into-end : goal.slice_bounds-placed_into-end
slice_bounds-placed_into-end c =
    let inside = row_within c.if-size-eq-WORD_BYTES.true c.args.words.now c.args.i c.requires.either_length.1 in
    omega (arith, inside)

pub placed_into-requires : goal.placed_into-requires
placed_into-requires c =
    let same = row-stands c.if-size-eq-WORD_BYTES.true c.args.words.now c.args.i c.requires.either_length.1 in record {
      tables = c.requires.tables;
      taken = c.requires.taken;
      order_value = c.requires.order_value;
      m_value = c.requires.modulus_value;
      modes_len = c.requires.modes_len;
      accepted_word = subst (AcceptedWord c.args.group.now.sites) (sym same) c.requires.accepted_word;
      left_len = c.requires.left_len;
    }

pub returns-then-size-eq-WORD_BYTES : goal.returns-then-size-eq-WORD_BYTES
returns-then-size-eq-WORD_BYTES c =
    let a = c.args in
    let decided : List ℕ → Decision Row = λ bytes. decision (generators_held a.group.now) a.modes.now (letters_in a.group.now.sites bytes) in
    let same = row-stands c.if-size-eq-WORD_BYTES.true c.args.words.now c.args.i c.requires.either_length.1 in record {
      answer = c.placed_into.ensures.answer ∙ ap (λ (bytes : List ℕ). placement_of (decided bytes)) same;
      row = c.placed_into.ensures.word ∙ ap (λ (bytes : List ℕ). row_word (decided bytes)) same;
    }

pub placed_into-requires-2 : goal.placed_into-requires-2
placed_into-requires-2 c =
    let same = c.row_in_full-full.ensures in record {
      tables = c.requires.tables;
      taken = c.requires.taken;
      order_value = c.requires.order_value;
      m_value = c.requires.modulus_value;
      modes_len = c.requires.modes_len;
      accepted_word = subst (AcceptedWord c.args.group.now.sites) (sym same) c.requires.accepted_word;
      left_len = c.requires.left_len;
    }

pub returns : goal.returns
returns c =
    let a = c.args in
    let decided : List ℕ → Decision Row = λ bytes. decision (generators_held a.group.now) a.modes.now (letters_in a.group.now.sites bytes) in
    let same = c.row_in_full-full.ensures in record {
      answer = c.placed_into-2.ensures.answer ∙ ap (λ (bytes : List ℕ). placement_of (decided bytes)) same;
      row = c.placed_into-2.ensures.word ∙ ap (λ (bytes : List ℕ). row_word (decided bytes)) same;
    }
