-- `block::every_bit` meets its contract. The loop's invariant: the machine words before i have the bits below the order.
use Rattle.packed.proofs.Packing.{Between}
use Rattle.packed.proofs.Masks.{below_bits}
use Rattle.grid.proofs.block.every_bit.Given as goal

abbrev pub invariant-loop-i : goal.invariant-loop-i
invariant-loop-i l = Between (below_bits l.order) 0 l.i l.at
