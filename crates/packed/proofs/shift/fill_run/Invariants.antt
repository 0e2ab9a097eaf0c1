-- `shift::fill_run` meets its contract. The loop's invariant: the words before i are those of the run.
use Prim.Native.Nat.{◌≤◌}
use mathlib.Core.Path.{◌≡◌}
use lib.ListN.{length}
use Rattle.packed.proofs.Packing.{Between}
use Rattle.packed.proofs.Masks.{run_bits}
use Rattle.packed.proofs.shift.fill_run.Given as goal

abbrev pub invariant-loop-i : goal.invariant-loop-i
invariant-loop-i l = (l.i ≤ length l.mask) × (length l.mask ≡ length l.initial.mask) × Between (run_bits l.low l.high) 0 l.i l.mask
