-- `stabilizer::canonicalize_with_stabilizer` meets its contract. The loop's invariant: the least of the first i entries, its first place among them, and
-- the number of the indices below i that fix the word, each of which has numerator 0 (`Passed`).
use Prim.Native.Nat.{◌≤◌}
use mathlib.Core.Path.{◌≡◌}
use Rattle.pauli_word.specs.Bytes.{letters_in, bytes_of}
use Rattle.action.specs.Orbit.{reach, first_at}
use Rattle.elements.specs.HeldGroup.{generators_in}
use Rattle.elements.proofs.Orbits.{entries}
use Rattle.elements.proofs.LeastSoFar.{least_so_far}
use Rattle.decisions.proofs.Traversals.{Passed}
use Rattle.decisions.proofs.stabilizer.canonicalize_with_stabilizer.Given as goal

abbrev pub invariant-loop-i : goal.invariant-loop-i
invariant-loop-i l =
    let gs = generators_in l.group.generators l.group.sites l.group.targets.now l.group.orders.now in
    let w = letters_in l.group.sites l.word in
    (l.i ≤ l.order)
    × (l.here ≡ bytes_of (reach gs l.i w))
    × (l.best ≡ bytes_of (least_so_far gs w l.i))
    × (l.index ≡ first_at (least_so_far gs w l.i) (entries gs w l.i))
    × Passed gs l.modes w l.i l.fixing
