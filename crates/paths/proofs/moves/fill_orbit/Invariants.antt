-- `moves::fill_orbit` meets its contract. The loop's invariant: the list is filled with the first i entries, and the word at hand is the next.
use Prim.Native.Nat.{◌≤◌}
use mathlib.Core.Path.{◌≡◌}
use Rattle.pauli_word.specs.Bytes.{letters_in, bytes_of}
use Rattle.action.specs.Orbit.{reach}
use Rattle.elements.specs.HeldGroup.{generators_in}
use Rattle.elements.proofs.Orbits.{stored}
use Rattle.paths.proofs.moves.fill_orbit.Given as goal

abbrev pub invariant-loop-i : goal.invariant-loop-i
invariant-loop-i l = (l.i ≤ l.order) × (l.here ≡ bytes_of (reach (generators_in l.group.generators l.group.sites l.group.targets.now l.group.orders.now) l.i (letters_in l.group.sites l.word))) × (l.list ≡ stored (λ j. reach (generators_in l.group.generators l.group.sites l.group.targets.now l.group.orders.now) j (letters_in l.group.sites l.word)) l.initial.list l.i)
