-- `planes::fill_masks` meets its contract. The loop's invariant: the masks of the generators before stand in their parts.
use Prim.Native.Nat.{◌≤◌}
use mathlib.Core.Path.{◌≡◌}
use lib.ListN.{length}
use Rattle.rotation.proofs.Moved.{MasksTo}
use Rattle.rotation.proofs.planes.fill_masks.Given as goal

abbrev pub invariant-loop-g : goal.invariant-loop-g
invariant-loop-g l = (l.g ≤ l.generators) × (length l.masks ≡ length l.initial.masks) × MasksTo l.sites l.m l.strides l.rests l.masks l.g
