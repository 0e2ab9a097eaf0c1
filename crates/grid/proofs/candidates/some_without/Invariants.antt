-- `candidates::some_without` meets its contract. The loop's invariant: `met` is the first i words of those in the first alone, put together.
use Prim.Native.Nat.{◌≤◌, ◌<◌, ◌^◌}
use lib.ListN.{length}
use Rattle.packed.specs.Packed.{word_bits}
use Rattle.grid.proofs.Sets.{in_first, Gathered}
use Rattle.grid.proofs.candidates.some_without.Given as goal

abbrev pub invariant-loop-i : goal.invariant-loop-i
invariant-loop-i l = (l.i ≤ length l.left) × (l.met < 2 ^ word_bits) × Gathered (in_first l.left l.at) l.i l.met
