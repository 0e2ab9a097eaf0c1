-- `one::refine_word` meets its contract. The loop's invariant: h places of the block are read (`Along`), and `low` is the first digit of h.
use Prim.Native.Nat.{◌%◌, ◌≤◌, ◌<◌}
use mathlib.Core.Path.{◌≡◌}
use lib.ListN.{get_or}
use Rattle.elements.specs.HeldGroup.{generators_in}
use Rattle.packed.specs.Packed.{bit_at}
use Rattle.grid.proofs.Rounds.{Along}
use Rattle.grid.proofs.one.refine_word.Given as goal

abbrev pub invariant-loop-h : goal.invariant-loop-h
invariant-loop-h l =
    (l.low ≤ l.h) × (0 < l.group.generators → l.low ≡ l.h % get_or l.group.orders.now 0 0)
    × Along (generators_in l.group.generators l.group.sites l.group.targets.now l.group.orders.now) l.order (bit_at l.at) (bit_at l.left) (bit_at l.here) (bit_at l.kept) l.h l.stale
