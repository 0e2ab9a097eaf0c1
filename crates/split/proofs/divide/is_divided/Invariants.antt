-- `divide::is_divided` meets its contract: every generator before the one at hand has a label below their number, and leaves every site but its part's.
use mathlib.Core.Logic.{◌⊎◌}
use Rattle.pauli_word.specs.Limits.{max_sites}
use mathlib.Core.Path.{◌≡◌}
use lib.ListN.{get_or}
use Prim.Native.Nat.{ℕ, suc, ◌+◌, ◌*◌, ◌≤◌, ◌<◌}
use Rattle.split.proofs.divide.is_divided.Given as goal

abbrev pub invariant-loop-g : goal.invariant-loop-g
invariant-loop-g l = (l.g ≤ l.group.generators) × ((h : ℕ) → h < l.g → get_or l.labels h 0 < l.group.generators) × ((h : ℕ) → h < l.g → (q : ℕ) → q < l.group.sites → (get_or l.owners q 0 ≡ suc (get_or l.labels h 0)) ⊎ (get_or l.group.targets.now (max_sites * h + q) 0 ≡ q))
