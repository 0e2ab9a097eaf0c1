-- `table::carries` meets its contract. The loop's invariant: the numbers before a go where the rotation takes them, and `inside` is the place of a in its block.
use Prim.Native.Nat.{◌%◌}
use Rattle.pauli_word.specs.Limits.{max_sites}
use Rattle.packed.specs.Packed.{rotated}
use Rattle.renumbered.specs.Renumbered.{at}
use mathlib.Core.Path.{◌≡◌}
use lib.ListN.{get_or}
use Prim.Native.Nat.{ℕ, ◌+◌, ◌*◌, ◌≤◌, ◌<◌}
use Rattle.renumbered.proofs.table.carries.Given as goal

abbrev pub invariant-loop-a : goal.invariant-loop-a
invariant-loop-a l = (l.a ≤ l.sites) × (l.inside ≡ l.a % l.block) × ((b : ℕ) → b < l.a → at l.site (rotated l.stride l.block b) ≡ get_or l.targets (max_sites * l.g + at l.site b) 0)
