-- `one::strike_word` meets its contract.
use mathlib.Core.Path.{refl}
use Rattle.grid.proofs.OneWord.{strike-some, strike-none}
use Rattle.grid.proofs.one.strike_word.Goals as goal

pub returns-then-rest-ne0 : goal.returns-then-rest-ne0
returns-then-rest-ne0 c = record {
  left = strike-some c.args.at c.args.left c.ranges.left.fits c.if-rest-ne0.true;
  some = λ e. absurd (c.if-rest-ne0.true e);
}

pub returns-else-rest-ne0 : goal.returns-else-rest-ne0
returns-else-rest-ne0 c = let a = c.args in record {
  left = strike-none a.at a.left c.if-rest-ne0.false;
  some = λ e. refl;
}
