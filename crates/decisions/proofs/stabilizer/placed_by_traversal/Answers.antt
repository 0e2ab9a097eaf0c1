-- `stabilizer::placed_by_traversal` meets its contract: what the traversal finds fills the list.
use mathlib.Core.Path.{sym, ap, ◌∙◌}
use lib.ListN.{length}
use Rattle.pauli_word.specs.Bytes.{letters_in}
use Rattle.elements.specs.HeldGroup.{generators_in}
use Rattle.decisions.specs.Decisions.{decision}
use Rattle.decisions.proofs.Placing.{row_long}
use Rattle.decisions.proofs.stabilizer.placed_by_traversal.Goals as goal

pub traverse-placed-requires : goal.traverse-placed-requires
traverse-placed-requires c = record {
  tables = c.requires.tables;
  order_value = c.requires.order_value;
  m_value = c.requires.m_value;
  modes_len = c.requires.modes_len;
  accepted_word = c.requires.accepted_word;
}

pub copy-requires : goal.copy-requires
copy-requires c =
    let a = c.args in
    let decided = decision (generators_in a.group.now.generators a.group.now.sites a.group.now.targets.now a.group.now.orders.now) a.modes.now (letters_in a.group.now.sites a.word.now) in
    ap length c.traverse-placed.ensures.word ∙ row_long decided ∙ sym c.requires.out_len

pub returns : goal.returns
returns c = record {
  answer = c.traverse-placed.ensures.answer;
  word = c.copy.ensures ∙ c.traverse-placed.ensures.word;
}
