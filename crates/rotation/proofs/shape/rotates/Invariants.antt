-- `shape::rotates` meets its contract. The loop's invariant: the blocks before have been seen to rotate.
use Prim.Native.Nat.{◌-◌}
use lib.ListN.{length}
use Rattle.rotation.proofs.Shaping.{Seen}
use Rattle.rotation.proofs.shape.rotates.Given as goal

abbrev pub invariant-loop-base : goal.invariant-loop-base
invariant-loop-base l = Seen l.perm l.stride l.block l.base

abbrev pub decreases-loop-base : goal.decreases-loop-base
decreases-loop-base l = length l.perm - l.base
