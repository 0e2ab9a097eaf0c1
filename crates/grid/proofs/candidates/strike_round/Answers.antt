-- `candidates::strike_round` meets its contract.
use Rattle.grid.proofs.candidates.strike_round.Goals as goal

pub returns-then-is_alone : goal.returns-then-is_alone
returns-then-is_alone c = record {
  left = c.strike.ensures;
  alone = c.is_alone.ensures c.if-is_alone.true;
}
