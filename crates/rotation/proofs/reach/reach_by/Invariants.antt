-- `reach::reach_by` meets its contract. The loop's invariant: what the index reaches is what is left of it from generator g on, of the word as it is then.
use Prim.Native.Nat.{◌≤◌}
use mathlib.Core.Path.{◌≡◌}
use mathlib.Core.List.{List}
use lib.ListN.{length}
use Rattle.action.specs.Permutation.{Generator}
use Rattle.action.specs.Orbit.{reach}
use Rattle.packed.specs.Packed.{letters_at}
use Rattle.rotation.specs.Rotation.{Turns, Planes}
use Rattle.rotation.proofs.Reached.{rest_of}
use Rattle.rotation.proofs.reach.reach_by.Given as goal

abbrev pub invariant-loop-g : goal.invariant-loop-g
invariant-loop-g l = (l.g ≤ l.generators) × Planes l.sites (length l.initial.x) l.x l.z × (length l.z ≡ length l.initial.z) × ((gs : List Generator) → Turns l.generators l.sites gs l.orders l.shapes.strides l.shapes.rests → reach gs l.index (letters_at l.sites l.initial.x l.initial.z) ≡ rest_of gs l.g l.rest (letters_at l.sites l.x l.z))
