-- `planes::order_of` meets its contract: the X planes decide, and where they are the same the Z planes (`order-by-x`, `order-by-z`).
use Rattle.std.specs.declared.cmp.Ordering.TheVariants.{Less, Greater}
use mathlib.Core.Path.{sym}
use Rattle.rotation.proofs.Moved.{order-by-x, order-by-z}
use Rattle.rotation.proofs.planes.order_of.Goals as goal

pub returns-in-Less : goal.returns-in-Less
returns-in-Less c =
    sym (order-by-x c.requires.planes c.requires.planes_2 c.requires.z_len Less (rw c.in-Less.is at c.compare.ensures))

pub returns-in-Greater : goal.returns-in-Greater
returns-in-Greater c =
    sym (order-by-x c.requires.planes c.requires.planes_2 c.requires.z_len Greater (rw c.in-Greater.is at c.compare.ensures))

pub returns-in-Equal : goal.returns-in-Equal
returns-in-Equal c =
    sym (order-by-z c.requires.planes c.requires.planes_2 c.requires.z_len c.compare-in-Equal.result (rw c.in-Equal.is at c.compare.ensures) c.compare-in-Equal.ensures)
