-- `shift::or_moved_up` meets its contract. The loop's invariant: the words from i on are done, and those before it are as they were.
use Prim.Native.Nat.{ℕ, ◌<◌, ◌≤◌}
use mathlib.Core.Path.{◌≡◌}
use lib.ListN.{length, get_or}
use Rattle.packed.specs.Packed.{bit_of}
use Rattle.packed.proofs.Packing.{Between}
use Rattle.packed.proofs.Shifts.{with_moved}
use Rattle.packed.proofs.shift.or_moved_up.Given as goal

abbrev pub invariant-loop-i : goal.invariant-loop-i
invariant-loop-i l = (l.i ≤ length l.mask) × (length l.mask ≡ length l.initial.mask) × ((j : ℕ) → j < l.i → get_or l.mask j 0 ≡ get_or l.initial.mask j 0) × Between (with_moved l.s (bit_of l.initial.mask)) l.i (length l.initial.mask) l.mask
