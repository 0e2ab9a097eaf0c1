-- `block::no_bit` meets its contract. The loop's invariant: the machine words before i have no bit.
use mathlib.Core.Bool.{false}
use Rattle.packed.proofs.Packing.{Between}
use Rattle.grid.proofs.block.no_bit.Given as goal

abbrev pub invariant-loop-i : goal.invariant-loop-i
invariant-loop-i l = Between (λ q. false) 0 l.i l.at
