-- `chain_1d` meets its contract: it is what `make::lattice` makes of its sides and axes.
use mathlib.Core.Path.{sym, ◌∙◌}
use Rattle.group.proofs.LatticeCalls.{chain-axes}
use Rattle.group.proofs.chain_1d.Goals as goal

pub returns : goal.returns
returns c = let a = c.args in c.lattice.ensures ∙ sym (chain-axes a.n)
