-- `shape::find_shapes` meets its contract. The loop's invariant: the generators before have the shapes found.
use Prim.Native.Nat.{◌≤◌}
use mathlib.Core.Path.{◌≡◌}
use lib.ListN.{length}
use Rattle.permutation.specs.Limits.{max_generators}
use Rattle.rotation.proofs.Shaping.{Shaped}
use Rattle.rotation.proofs.shape.find_shapes.Given as goal

abbrev pub invariant-loop-g : goal.invariant-loop-g
invariant-loop-g l = (l.g ≤ l.group.generators) × (length l.shapes.strides ≡ max_generators) × (length l.shapes.rests ≡ max_generators) × Shaped l.group.sites l.group.targets.now l.shapes.strides l.shapes.rests l.g
