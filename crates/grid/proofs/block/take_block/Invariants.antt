-- `block::take_block` meets its contract. The loop's invariant: the machine words before i are those of the block.
use Prim.Native.Nat.{◌≤◌}
use mathlib.Core.Path.{◌≡◌}
use lib.ListN.{length}
use Rattle.packed.specs.Packed.{bit_of}
use Rattle.packed.proofs.Packing.{Between}
use Rattle.grid.proofs.Blocks.{block_bits}
use Rattle.grid.proofs.block.take_block.Given as goal

abbrev pub invariant-loop-i : goal.invariant-loop-i
invariant-loop-i l = (l.i ≤ length l.at) × (length l.at ≡ length l.initial.at) × Between (block_bits (bit_of l.plane) l.base l.order) 0 l.i l.at
