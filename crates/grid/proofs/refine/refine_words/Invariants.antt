-- `refine::refine_words` meets its contract. The loop's invariant: h places of the block are read (`Along`).
use mathlib.Core.Path.{◌≡◌}
use lib.ListN.{length}
use Rattle.elements.specs.HeldGroup.{generators_in}
use Rattle.packed.specs.Packed.{bit_of}
use Rattle.grid.proofs.Rounds.{Along}
use Rattle.grid.proofs.refine.refine_words.Given as goal

abbrev pub invariant-loop-h : goal.invariant-loop-h
invariant-loop-h l =
    (length l.at ≡ length l.initial.at) × (length l.left ≡ length l.initial.left) × Along (generators_in l.group.generators l.group.sites l.group.targets.now l.group.orders.now) l.order (bit_of l.initial.at) (bit_of l.initial.left) (bit_of l.at) (bit_of l.left) l.h l.stale
