-- `part::place_in_codes` meets its contract: what is known of the letters as a word is known of the letters.
use Rattle.parted.proofs.Replacing.{read-accepted, read_letters}
use Rattle.parted.specs.Steps.{site_of}
use Rattle.paths.specs.Paths.{Says}
use Rattle.decisions.specs.Decisions.{decision}
use Rattle.decisions.specs.Placements.{placement_of}
use Rattle.elements.specs.HeldGroup.{generators_held}
use Rattle.action.specs.Orbit.{least, index_back}
use Rattle.pauli_word.specs.Bytes.{letters_in, bytes_of}
use Rattle.pauli_word.specs.Word.{Word}
use mathlib.Core.Path.{sym, ap, subst, ◌∙◌}
use Rattle.sector_parts.proofs.part.place_in_codes.Goals as goal

pub in_codes-led-requires : goal.in_codes-led-requires
in_codes-led-requires c = record {
  tables = c.requires.tables;
  found = c.requires.found;
  order_value = c.requires.order_value;
  numbering = c.requires.numbering;
  accepted_word = c.requires.accepted_word;
  codes_len = c.requires.codes_len;
}

pub placed_by-requires : goal.placed_by-requires
placed_by-requires c =
    let a = c.args in
    let hs = generators_held a.own_group.now in
    let sites = c.requires.tables.sites in
    let word = letters_in a.sites a.row.now in
    let back = sym (read_letters sites (site_of a.table.now) word c.in_codes-led.ensures.own) in record {
      tables = c.requires.tables;
      order_value = c.requires.order_value;
      m_value = c.requires.modulus_value.0;
      modes_len = c.requires.modulus_value.1;
      accepted_word = read-accepted sites (site_of a.table.now) word c.in_codes-led.ensures.own;
      out_value = c.in_codes-led.ensures.least ∙ ap (λ (x : Word). bytes_of (least hs x)) back;
      back_value = c.in_codes-led.ensures.index ∙ ap (index_back hs) back;
      says = subst (λ (x : Word). Says c.in_codes-led.result.fixing hs x c.in_codes-led.new.left) back c.in_codes-led.ensures.fixing;
    }

pub returns : goal.returns
returns c =
    let a = c.args in
    let same = read_letters c.requires.tables.sites (site_of a.table.now) (letters_in a.sites a.row.now) c.in_codes-led.ensures.own in record {
      answer = c.placed_by.ensures.answer ∙ ap (λ (x : Word). placement_of (decision (generators_held a.own_group.now) a.modes.now x)) same;
      word = c.in_codes-led.ensures.word;
    }
