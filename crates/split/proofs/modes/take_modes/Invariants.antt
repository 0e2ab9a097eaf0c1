-- `modes::take_modes` meets its contract: the modes of the part's generators before the one at hand are written.
use mathlib.Core.Path.{◌≡◌}
use lib.ListN.{length}
use Rattle.split.proofs.PartModes.{ModesTaken}
use Prim.Native.Nat.{◌≤◌}
use Rattle.split.proofs.modes.take_modes.Given as goal

abbrev pub invariant-loop-g : goal.invariant-loop-g
invariant-loop-g l = (l.g ≤ length l.labels) × (length l.own ≡ length l.initial.own) × ModesTaken l.labels l.modes l.part l.g l.k l.own
