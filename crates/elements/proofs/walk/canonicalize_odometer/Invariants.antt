-- `walk::canonicalize_odometer` meets its contract. The loop's invariant: the least of the first i entries, and its first place among them.
use Prim.Native.Nat.{◌≤◌}
use mathlib.Core.Path.{◌≡◌}
use Rattle.pauli_word.specs.Bytes.{letters_in, bytes_of}
use Rattle.action.specs.Orbit.{reach, first_at}
use Rattle.elements.specs.HeldGroup.{generators_in}
use Rattle.elements.proofs.Orbits.{entries}
use Rattle.elements.proofs.LeastSoFar.{least_so_far}
use Rattle.elements.proofs.walk.canonicalize_odometer.Given as goal

abbrev pub invariant-loop-i : goal.invariant-loop-i
invariant-loop-i l = (l.i ≤ l.order) × (l.here ≡ bytes_of (reach (generators_in l.group.generators l.group.sites l.group.targets.now l.group.orders.now) l.i (letters_in l.group.sites l.word))) × (l.best ≡ bytes_of (least_so_far (generators_in l.group.generators l.group.sites l.group.targets.now l.group.orders.now) (letters_in l.group.sites l.word) l.i)) × (l.index ≡ first_at (least_so_far (generators_in l.group.generators l.group.sites l.group.targets.now l.group.orders.now) (letters_in l.group.sites l.word) l.i) (entries (generators_in l.group.generators l.group.sites l.group.targets.now l.group.orders.now) (letters_in l.group.sites l.word) l.i))
