-- `torus_3d` meets its contract: it is what `make::lattice` makes of its sides and axes.
use mathlib.Core.Path.{sym, ◌∙◌}
use Rattle.group.proofs.LatticeCalls.{torus3-axes}
use Rattle.group.proofs.torus_3d.Goals as goal

pub returns : goal.returns
returns c = let a = c.args in c.lattice.ensures ∙ sym (torus3-axes a.lx a.ly a.lz)
