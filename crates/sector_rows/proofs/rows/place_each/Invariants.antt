-- `rows::place_each` meets its contract. The loop's invariant: the first i rows and places hold what the decisions for the first i rows say.
use Prim.Native.Nat.{ℕ, ◌≤◌}
use mathlib.Core.Path.{◌≡◌}
use mathlib.Core.List.{List}
use lib.ListN.{length}
use lib.IntN.{ℤ}
use Rattle.action.specs.Permutation.{Generator}
use Rattle.elements.specs.HeldGroup.{generators_in}
use Rattle.elements.proofs.Orbits.{stored}
use Rattle.row_lists.specs.Rows.{in_full_by}
use Rattle.least_words.specs.Rows.{row_letters}
use Rattle.least_words.proofs.Filling.{Filled}
use Rattle.decisions.specs.Decisions.{Decision, Row, decision}
use Rattle.decisions.specs.Decisions.{row_index, row_orbit}
use Rattle.decisions.proofs.Placing.{written_letters}
use Rattle.sector_rows.proofs.rows.place_each.Given as goal

-- the decision for row i, of words in full
abbrev decided_by : List Generator → List ℤ → ℕ → List ℕ → ℕ → Decision Row
decided_by gs ks n words i = decision gs ks (row_letters n words i)

abbrev pub invariant-loop-i : goal.invariant-loop-i
invariant-loop-i l =
    let decided = decided_by (generators_in l.group.generators l.group.sites l.group.targets.now l.group.orders.now) l.modes l.group.sites (in_full_by l.size (length l.initial.indices) l.words) in
    (l.i ≤ length l.indices)
    × (l.representatives ≡ stored (λ j. written_letters (decided j)) l.initial.representatives l.i)
    × Filled (λ j. row_index (decided j)) l.initial.indices l.indices l.i
    × Filled (λ j. row_orbit (decided j)) l.initial.sizes l.sizes l.i
    × (length l.left ≡ length l.initial.left)
