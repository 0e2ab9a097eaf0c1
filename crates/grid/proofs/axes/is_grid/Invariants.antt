-- `grid::axes::is_grid` meets its contract. The loop's invariant: the generators before g shift along their axes, and `place` is the product of their orders.
use Prim.Native.Nat.{ℕ, ◌≤◌, ◌<◌}
use mathlib.Core.Path.{◌≡◌}
use lib.ListN.{get_or, take}
use Rattle.action.specs.Arithmetic.{product}
use Rattle.grid.specs.Grid.{Axis}
use Rattle.grid.proofs.axes.is_grid.Given as goal

abbrev pub invariant-loop-g : goal.invariant-loop-g
invariant-loop-g l =
    (l.g ≤ l.group.generators) × (l.place ≡ product (take l.g l.group.orders.now))
    × ((j : ℕ) → j < l.g → Axis (product (take j l.group.orders.now)) (get_or l.group.orders.now j 0) (get_or l.shapes.strides j 0) (get_or l.shapes.rests j 0))
