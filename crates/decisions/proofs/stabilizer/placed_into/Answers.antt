-- `stabilizer::placed_into` meets its contract: what the path says of the word decides.
use Rattle.decisions.proofs.stabilizer.placed_into.Goals as goal

pub least_into-led-requires : goal.least_into-led-requires
least_into-led-requires c = record {
  tables = c.requires.tables;
  taken = c.requires.taken;
  order_value = c.requires.order_value;
  accepted_word = c.requires.accepted_word;
  left_len = c.requires.left_len;
}

pub placed_by-requires : goal.placed_by-requires
placed_by-requires c = record {
  tables = c.requires.tables;
  order_value = c.requires.order_value;
  m_value = c.requires.m_value;
  modes_len = c.requires.modes_len;
  accepted_word = c.requires.accepted_word;
  out_value = c.least_into-led.ensures.word;
  back_value = c.least_into-led.ensures.index;
  says = c.least_into-led.ensures.fixing;
}
