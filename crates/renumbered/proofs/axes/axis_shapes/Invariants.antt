-- `axes::axis_shapes` meets its contract. The loop's invariant: the axes before g are written, and `place` is the product of their orders.
use lib.ListN.{take}
use Rattle.permutation.specs.Limits.{max_generators}
use Rattle.action.specs.Arithmetic.{product}
use Rattle.renumbered.proofs.Filling.{Filled}
use mathlib.Core.Path.{◌≡◌}
use lib.ListN.{length}
use Prim.Native.Nat.{◌≤◌}
use Rattle.renumbered.proofs.axes.axis_shapes.Given as goal

abbrev pub invariant-loop-g : goal.invariant-loop-g
invariant-loop-g l = (l.g ≤ l.group.generators) × (l.place ≡ product (take l.g l.group.orders.now)) × (length l.shapes.strides ≡ max_generators) × (length l.shapes.rests ≡ max_generators) × Filled l.group.orders.now l.shapes.strides l.shapes.rests l.g
