-- `leading::placed_in_turn` meets its contract. The loop's invariant: the sum of index d with the index back (`Stands`), and of a word with these candidates
-- that `count` of the indices below d fix it, each with numerator 0 (`Told`).
use Prim.Native.Nat.{◌≤◌}
use lib.ListN.{get_or}
use Rattle.elements.specs.HeldGroup.{generators_in}
use Rattle.packed.specs.Packed.{bit_of}
use Rattle.decisions.proofs.Differences.{Stands, Told}
use Rattle.decisions.proofs.leading.placed_in_turn.Given as goal

abbrev pub invariant-loop-d : goal.invariant-loop-d
invariant-loop-d l =
    let gs = generators_in l.group.generators l.group.sites l.group.targets.now l.group.orders.now in
    (l.d ≤ l.order) × (l.count ≤ l.d) × Stands gs (get_or l.group.orders.now 0 0) l.back l.d l.at.sum l.at.low l.at.turn × Told l.group.sites gs l.modes (bit_of l.left) l.back l.d l.count
