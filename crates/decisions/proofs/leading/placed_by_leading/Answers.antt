-- `leading::placed_by_leading` meets its contract: where every mode reduces to 0 the word is kept (`zeros-kept`), and else the indices decide.
use Rattle.decisions.proofs.Differences.{zeros-kept}
use Rattle.decisions.proofs.leading.placed_by_leading.Goals as goal

pub returns-then-no_momentum : goal.returns-then-no_momentum
returns-then-no_momentum c w long leads back =
    zeros-kept c.requires.tables.valid c.args.modes.now w long leads back (c.no_momentum.ensures.yes c.if-no_momentum.true) c.how_many.ensures c.requires.order_value
    c.size_by.ensures

pub placed_in_turn-requires : goal.placed_in_turn-requires
placed_in_turn-requires c = record {
  tables = c.requires.tables;
  generators_nonzero = c.no_momentum.ensures.no c.if-no_momentum.false;
  order_value = c.requires.order_value;
  m_value = c.requires.m_value;
  modes_len = c.requires.modes_len;
}
