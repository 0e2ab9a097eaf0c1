-- `letters::take_out` meets its contract: the places before the one at hand hold the codes at the table's places.
use lib.ListN.{length, get_or}
use Rattle.split.proofs.Placing.{Taken}
use mathlib.Core.Path.{◌≡◌}
use Prim.Native.Nat.{◌≤◌}
use Rattle.split.proofs.letters.take_out.Given as goal

abbrev pub invariant-loop-a : goal.invariant-loop-a
invariant-loop-a l = (l.a ≤ length l.out) × (length l.out ≡ length l.initial.out) × Taken (λ b. get_or l.codes (get_or l.table b 0) 0) l.a l.out
