-- `divide::leaves_others` meets its contract: every site before the one at hand is the part's or is left.
use mathlib.Core.Logic.{◌⊎◌}
use Rattle.pauli_word.specs.Limits.{max_sites}
use mathlib.Core.Path.{◌≡◌}
use lib.ListN.{get_or}
use Prim.Native.Nat.{ℕ, suc, ◌+◌, ◌*◌, ◌≤◌, ◌<◌}
use Rattle.split.proofs.divide.leaves_others.Given as goal

abbrev pub invariant-loop-q : goal.invariant-loop-q
invariant-loop-q l = (l.q ≤ l.sites) × ((r : ℕ) → r < l.q → (get_or l.owners r 0 ≡ suc l.label) ⊎ (get_or l.targets (max_sites * l.g + r) 0 ≡ r))
