-- `settle::put_alone` meets its contract: nothing is in the set, and then k.
use mathlib.Core.Path.{◌∙◌}
use Rattle.grid.proofs.Settling.{none_bit, alone-bit}
use Rattle.grid.proofs.settle.put_alone.Goals as goal

pub returns : goal.returns
returns c = λ j. c.put.ensures j ∙ alone-bit _ _ (c.fill_run.ensures j ∙ none_bit j)
