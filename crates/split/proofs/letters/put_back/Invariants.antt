-- `letters::put_back` meets its contract: the codes before the one at hand stand at their places, and every other place has what it had.
use lib.ListN.{length, get_or}
use Rattle.split.proofs.Placing.{PutBack}
use mathlib.Core.Path.{◌≡◌}
use Prim.Native.Nat.{◌≤◌}
use Rattle.split.proofs.letters.put_back.Given as goal

abbrev pub invariant-loop-a : goal.invariant-loop-a
invariant-loop-a l = (l.a ≤ length l.part) × (length l.codes ≡ length l.initial.codes) × PutBack l.part (λ b. get_or l.table b 0) l.initial.codes l.a l.codes
