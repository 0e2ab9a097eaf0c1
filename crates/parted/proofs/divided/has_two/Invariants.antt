-- `divided::has_two` meets its contract: a label passed has a place, and so has the first.
use Prim.Native.Nat.{◌<◌}
use Rattle.parted.proofs.divided.has_two.Given as goal

abbrev pub invariant-loop-g : goal.invariant-loop-g
invariant-loop-g l = 0 < l.g
