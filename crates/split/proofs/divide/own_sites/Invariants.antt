-- `divide::own_sites` keeps the length: so does every generator's step.
use mathlib.Core.Path.{◌≡◌}
use lib.ListN.{length}
use Prim.Native.Nat.{◌≤◌}
use Rattle.split.proofs.divide.own_sites.Given as goal

abbrev pub invariant-loop-g : goal.invariant-loop-g
invariant-loop-g l = (l.g ≤ l.group.generators) × (length l.owners ≡ length l.initial.owners)
