-- `powers::move_often` meets its contract. The loop's invariant: perm permutes the sites, and the moves by it that are left make of the word at hand
-- what all moves make of the first.
use mathlib.Core.Path.{◌≡◌}
use lib.ListN.{length}
use Rattle.action.specs.Permutation.{Permutes}
use Rattle.action.specs.Orbit.{moves}
use Rattle.at_index.proofs.Going.{Going}
use Rattle.at_index.proofs.powers.move_often.Given as goal

abbrev pub invariant-loop-left : goal.invariant-loop-left
invariant-loop-left l = (length l.room ≡ length l.initial.here) × (length l.here ≡ length l.initial.here) × (length l.spare ≡ length l.initial.here) × Permutes (length l.initial.here) l.perm × Going (moves l.count l.initial.perm) l.initial.here (moves l.left l.perm) l.here

abbrev pub decreases-loop-left : goal.decreases-loop-left
decreases-loop-left l = l.left
