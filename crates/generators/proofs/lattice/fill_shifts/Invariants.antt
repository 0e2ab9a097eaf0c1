-- `lattice::fill_shifts` meets its contract. The loop's invariant: the targets and orders of the shifts along the first g axes are stored.
use Rattle.generators.proofs.Axes.{Stored}
use Rattle.generators.proofs.lattice.fill_shifts.Given as goal

abbrev pub invariant-loop-g : goal.invariant-loop-g
invariant-loop-g l = Stored l.sides l.sites l.targets l.orders l.stride l.g
