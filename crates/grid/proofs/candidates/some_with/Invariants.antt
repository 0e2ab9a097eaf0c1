-- `candidates::some_with` meets its contract. The loop's invariant: `met` is the first i words of those in both, put together.
use Prim.Native.Nat.{◌≤◌}
use lib.ListN.{length}
use Rattle.grid.proofs.Sets.{in_both, Gathered}
use Rattle.grid.proofs.candidates.some_with.Given as goal

abbrev pub invariant-loop-i : goal.invariant-loop-i
invariant-loop-i l = (l.i ≤ length l.left) × Gathered (in_both l.left l.at) l.i l.met
