-- `phase_table` meets its contract: the two constant lists of the code are those of the specification, number by number.
use mathlib.Core.Path.{refl}
use Rattle.phases.specs.Table.{phase_table}
use Rattle.phases.proofs.phase_table.Goals as goal

pub returns : goal.returns
unfolding phase_table
returns c = refl
