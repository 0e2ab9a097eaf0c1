-- `powers::fill_square` meets its contract. The loop's invariant: the first q targets of out are those of the square.
use Prim.Native.Nat.{◌≤◌}
use mathlib.Core.Path.{◌≡◌}
use lib.ListN.{length, take}
use Rattle.at_index.specs.Powers.{squared}
use Rattle.at_index.proofs.powers.fill_square.Given as goal

abbrev pub invariant-loop-q : goal.invariant-loop-q
invariant-loop-q l = (l.q ≤ length l.perm) × (length l.out ≡ length l.initial.out) × (take l.q l.out ≡ take l.q (squared l.perm))
