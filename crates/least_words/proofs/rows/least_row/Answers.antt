-- `rows::least_row` meets its contract: a row in full is taken as it stands, and another in full.
use Prim.Native.Nat.{ℕ}
use mathlib.Core.Path.{sym, ap, subst, ◌∙◌}
use mathlib.Core.List.{List}
use Rattle.pauli_word.specs.Bytes.{AcceptedWord, letters_in, bytes_of}
use Rattle.action.specs.Orbit.{least, index_back}
use Rattle.elements.specs.HeldGroup.{generators_in}
use Rattle.row_lists.proofs.InFull.{full_part}
use Rattle.least_words.proofs.rows.least_row.Goals as goal

pub least_into-led-requires : goal.least_into-led-requires
least_into-led-requires c =
    let a = c.args in
    let e = full_part a.size c.if-size-eq-WORD_BYTES.true a.words.now a.i c.requires.either_length.1 in record {
      tables = c.requires.tables;
      taken = c.requires.taken;
      order_value = c.requires.order_value;
      accepted_word = subst (AcceptedWord a.group.now.sites) (sym e) c.requires.accepted_word;
      left_len = c.requires.left_len;
    }

pub returns-then-size-eq-WORD_BYTES : goal.returns-then-size-eq-WORD_BYTES
returns-then-size-eq-WORD_BYTES c =
    let a = c.args in
    let gs = generators_in a.group.now.generators a.group.now.sites a.group.now.targets.now a.group.now.orders.now in
    let e = full_part a.size c.if-size-eq-WORD_BYTES.true a.words.now a.i c.requires.either_length.1 in record {
      index = c.least_into-led.ensures.index ∙ ap (λ (w : List ℕ). index_back gs (letters_in a.group.now.sites w)) e;
      row = c.least_into-led.ensures.word ∙ ap (λ (w : List ℕ). bytes_of (least gs (letters_in a.group.now.sites w))) e;
    }

pub least_into-led-requires-2 : goal.least_into-led-requires-2
least_into-led-requires-2 c = record {
  tables = c.requires.tables;
  taken = c.requires.taken;
  order_value = c.requires.order_value;
  accepted_word = subst (AcceptedWord c.args.group.now.sites) (sym c.row_in_full-full.ensures) c.requires.accepted_word;
  left_len = c.requires.left_len;
}

pub returns : goal.returns
returns c =
    let a = c.args in
    let gs = generators_in a.group.now.generators a.group.now.sites a.group.now.targets.now a.group.now.orders.now in
    let e = c.row_in_full-full.ensures in record {
      index = c.least_into-led-2.ensures.index ∙ ap (λ (w : List ℕ). index_back gs (letters_in a.group.now.sites w)) e;
      row = c.least_into-led-2.ensures.word ∙ ap (λ (w : List ℕ). bytes_of (least gs (letters_in a.group.now.sites w))) e;
    }
