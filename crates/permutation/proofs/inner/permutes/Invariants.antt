-- `inner::permutes` meets its contract. The loop's invariant is that of `first_fault`, whichever generator the targets are of: the check of all
-- targets is the check from target q on, given the targets that passed, and those are the marked ones.
use Prim.Native.Nat.{ℕ, ◌≤◌}
use mathlib.Core.Path.{◌≡◌}
use mathlib.Core.List.{List, []}
use lib.ListN.{length, drop}
use Rattle.pauli_word.specs.Limits.{max_sites}
use Rattle.permutation.specs.Generators.{targets_check}
use Rattle.permutation.proofs.Faults.{Marks}
use Rattle.permutation.proofs.inner.permutes.Given as goal

abbrev pub invariant-loop-target : goal.invariant-loop-target
invariant-loop-target l =
    (l.target-index ≤ length l.perm) × (length l.seen ≡ max_sites)
    × ((passed : List ℕ) × ((generator : ℕ) → targets_check l.sites generator [] l.perm ≡ targets_check l.sites generator passed (drop l.target-index l.perm))
    × Marks l.sites l.seen passed)
