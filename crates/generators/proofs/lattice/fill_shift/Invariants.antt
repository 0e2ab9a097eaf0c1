-- `lattice::fill_shift` meets its contract. The loop's invariant: the places before q hold where their sites are sent.
use Prim.Native.Nat.{◌≤◌}
use mathlib.Core.Path.{◌≡◌}
use lib.ListN.{length}
use Rattle.action.specs.Lattice.{shifted}
use Rattle.generators.proofs.Stores.{Holds}
use Rattle.generators.proofs.lattice.fill_shift.Given as goal

abbrev pub invariant-loop-q : goal.invariant-loop-q
invariant-loop-q l = (l.q ≤ length l.row) × (length l.row ≡ length l.initial.row) × Holds (shifted l.stride l.side) l.row l.q
