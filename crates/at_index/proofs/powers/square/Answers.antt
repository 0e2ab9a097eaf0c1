-- `powers::square` meets its contract.
use mathlib.Core.Path.{◌∙◌}
use Rattle.at_index.proofs.powers.square.Goals as goal

pub returns : goal.returns
returns c = c.copy.ensures ∙ c.fill_square.ensures
