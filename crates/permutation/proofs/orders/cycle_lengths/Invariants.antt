-- `orders::cycle_lengths` meets its contract. The loop's invariant: as many sites are marked as were walked, the length of every marked site has its
-- mark and lies within the span, and no other length has a mark.
use Prim.Native.Nat.{◌-◌}
use mathlib.Core.Path.{◌≡◌}
use lib.ListN.{length}
use Rattle.pauli_word.specs.Limits.{max_sites}
use Rattle.permutation.proofs.Walks.{Walked, Found}
use Rattle.permutation.proofs.orders.cycle_lengths.Given as goal

abbrev pub invariant-loop-walked : goal.invariant-loop-walked
invariant-loop-walked l =
    (length l.seen ≡ max_sites) × (length l.marks ≡ length l.initial.marks) × Walked l.perm l.seen l.walked l.q × Found l.perm l.marks l.seen l.shortest l.longest

abbrev pub decreases-loop-walked : goal.decreases-loop-walked
decreases-loop-walked l = length l.perm - l.q
