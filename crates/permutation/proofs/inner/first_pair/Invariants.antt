-- `inner::first_pair` meets its contract. The invariants: the check of all pairs is the check of the pairs from left on (outer loop), of left with
-- the generators from right on and then of the later pairs (middle loop), and left and right commute at each site before q (inner loop).
use Rattle.std.specs.Prelude.{Ok}
use Prim.Native.Nat.{ℕ, ◌-◌, ◌≤◌, ◌<◌}
use mathlib.Core.Path.{◌≡◌}
use Rattle.permutation.proofs.Commuting.{pairs_from, pair_from, SameAt}
use Rattle.permutation.proofs.inner.first_pair.Given as goal

abbrev pub invariant-loop-q : goal.invariant-loop-q
invariant-loop-q l =
    (l.found ≡ Ok tt) × (l.q ≤ l.group.sites) × ((p : ℕ) → p < l.q → SameAt l.group.targets.now l.left l.right p)

abbrev pub decreases-loop-q : goal.decreases-loop-q
decreases-loop-q l = l.group.sites - l.q

abbrev pub invariant-loop-right : goal.invariant-loop-right
invariant-loop-right l =
    (l.found ≡ Ok tt) × (l.left < l.right) × (l.right ≤ l.group.generators)
    × (pairs_from l.group.generators l.group.sites l.group.targets.now l.left ≡ pair_from l.group.generators l.group.sites l.group.targets.now l.left l.right)

abbrev pub decreases-loop-right : goal.decreases-loop-right
decreases-loop-right l = l.group.generators - l.right

abbrev pub invariant-pairs : goal.invariant-pairs
invariant-pairs l =
    (l.found ≡ Ok tt) × (l.left ≤ l.group.generators)
    × (pairs_from l.group.generators l.group.sites l.group.targets.now 0 ≡ pairs_from l.group.generators l.group.sites l.group.targets.now l.left)

abbrev pub decreases-pairs : goal.decreases-pairs
decreases-pairs l = l.group.generators - l.left
