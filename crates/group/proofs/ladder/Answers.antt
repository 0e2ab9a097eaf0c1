-- `ladder` meets its contract: it is what `make::lattice` makes of its sides and axes.
use mathlib.Core.Path.{sym, ◌∙◌}
use Rattle.group.proofs.LatticeCalls.{ladder-axes}
use Rattle.group.proofs.ladder.Goals as goal

pub returns : goal.returns
returns c = let a = c.args in c.lattice.ensures ∙ sym (ladder-axes a.l a.legs)
