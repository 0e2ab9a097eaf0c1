-- `phase::trivial` meets its contract: it tests the numerator of the index.
use Prim.Native.Nat.{ℕ}
use mathlib.Core.Path.{ap}
use lib.Dec.{eqb}
use Rattle.action.specs.Sector.{trivial}
use Rattle.decisions.proofs.phase.trivial.Goals as goal

pub returns : goal.returns
unfolding trivial
returns c = ap (λ (x : ℕ). eqb x 0) c.numerator_at.ensures
