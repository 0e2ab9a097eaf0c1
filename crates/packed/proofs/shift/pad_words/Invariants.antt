-- `shift::pad_words` meets its contract. The loop's invariant: the words before i are copied.
use Prim.Native.Nat.{◌≤◌}
use mathlib.Core.Path.{◌≡◌}
use lib.ListN.{length}
use Rattle.packed.proofs.Shifts.{Padded}
use Rattle.packed.proofs.shift.pad_words.Given as goal

abbrev pub invariant-loop-i : goal.invariant-loop-i
invariant-loop-i l = (l.i ≤ length l.plane) × (length l.pad ≡ length l.initial.pad) × Padded l.before l.i l.plane l.pad
