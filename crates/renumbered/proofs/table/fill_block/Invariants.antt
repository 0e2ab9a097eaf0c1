-- `table::fill_block` is safe. The loop's invariant: the stride is the product of the orders before g, and the tables keep their lengths.
use lib.ListN.{take}
use Rattle.pauli_word.specs.Limits.{max_sites}
use Rattle.action.specs.Arithmetic.{product}
use mathlib.Core.Path.{◌≡◌}
use lib.ListN.{length}
use Prim.Native.Nat.{◌≤◌}
use Rattle.renumbered.proofs.table.fill_block.Given as goal

abbrev pub invariant-loop-g : goal.invariant-loop-g
invariant-loop-g l = (l.g ≤ l.group.generators) × (l.stride ≡ product (take l.g l.group.orders.now)) × (length l.site ≡ max_sites) × (length l.place ≡ max_sites)
