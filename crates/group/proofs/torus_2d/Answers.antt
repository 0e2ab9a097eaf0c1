-- `torus_2d` meets its contract: it is what `make::lattice` makes of its sides and axes.
use mathlib.Core.Path.{sym, ◌∙◌}
use Rattle.group.proofs.LatticeCalls.{torus2-axes}
use Rattle.group.proofs.torus_2d.Goals as goal

pub returns : goal.returns
returns c = let a = c.args in c.lattice.ensures ∙ sym (torus2-axes a.lx a.ly)
