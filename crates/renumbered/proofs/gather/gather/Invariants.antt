-- `gather::gather` meets its contract. The loop's invariant: the machine words before i are put together.
use Rattle.packed.specs.Packed.{bit_of}
use Rattle.packed.proofs.Packing.{Between}
use Rattle.renumbered.specs.Renumbered.{at}
use Rattle.renumbered.proofs.Gathered.{first_bits}
use mathlib.Core.Path.{◌≡◌}
use lib.ListN.{length}
use Prim.Native.Nat.{◌≤◌}
use Rattle.renumbered.proofs.gather.gather.Given as goal

abbrev pub invariant-loop-i : goal.invariant-loop-i
invariant-loop-i l = (l.i ≤ length l.out) × (length l.out ≡ length l.initial.out) × Between (first_bits (λ a. bit_of l.plane (at l.table a)) l.sites) 0 l.i l.out
