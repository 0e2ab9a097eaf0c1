-- `word::moved` meets its contract: the codes are those of the word, and then of what the index reaches from it.
use mathlib.Core.Path.{◌∙◌}
use Rattle.pauli_word.specs.Bytes.{letters_in}
use Rattle.action.specs.Orbit.{reach}
use Rattle.elements.specs.HeldGroup.{generators_in}
use Rattle.at_index.proofs.word.moved.Goals as goal

pub reach_codes-requires : goal.reach_codes-requires
reach_codes-requires c = record {
  tables = c.requires.tables;
  perm_len = c.requires.perm_len;
  room_len = c.requires.room_len;
  here_len = c.unpack.auto.letters ∙ c.requires.here_len;
  spare_len = c.requires.spare_len;
}

pub returns : goal.returns
returns c =
    let a = c.args in
    let w = letters_in a.group.now.sites a.word.now in
    let gs = generators_in a.group.now.generators a.group.now.sites a.group.now.targets.now a.group.now.orders.now in
    c.pack.ensures (reach gs a.index w) (c.reach_codes.ensures w c.unpack.ensures)
