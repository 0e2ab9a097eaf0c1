-- `candidates::take_out` meets its contract. The loop's invariant: the words before i are done, and the others are as they were.
use Prim.Native.Nat.{ℕ, ◌≤◌}
use mathlib.Core.Path.{◌≡◌}
use lib.ListN.{length, get_or}
use Rattle.packed.proofs.Packing.{Between}
use Rattle.grid.proofs.Sets.{in_first}
use Rattle.grid.proofs.candidates.take_out.Given as goal

abbrev pub invariant-loop-i : goal.invariant-loop-i
invariant-loop-i l = (l.i ≤ length l.left) × (length l.left ≡ length l.initial.left) × ((j : ℕ) → l.i ≤ j → get_or l.left j 0 ≡ get_or l.initial.left j 0) × Between (in_first l.initial.left l.at) 0 l.i l.left
