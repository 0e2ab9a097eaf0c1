-- `steps::no_walk` meets its contract: its group is the one beside a refusal, and its word is zeros.
use Prim.Native.Nat.{suc}
use mathlib.Core.Path.{ap}
use Rattle.group.specs.declared.Group.{Group}
use Rattle.permutation.specs.Limits.{max_order}
use Rattle.orbit.specs.Calls.{no_walk}
use Rattle.row_lists.specs.Rows.{no_word}
use Rattle.orbit.proofs.steps.no_walk.Goals as goal

pub returns : goal.returns
unfolding no_walk
returns c = ap (λ (g : Group). record { group = g; word = no_word; index = suc max_order }) c.no_group.ensures
