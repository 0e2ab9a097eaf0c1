-- `adding::add_rows` meets its contract. The loop's invariant: the first i rows are added, and each running sum was finite.
use Prim.Native.Nat.{ℕ, ◌+◌, ◌-◌, ◌≤◌, ◌<◌}
use mathlib.Core.Path.{◌≡◌, refl, sym, ap, subst, ◌∙◌}
use mathlib.Core.Bool.{true}
use mathlib.Core.List.{List}
use native.Mathlib.Omega.{arith}
use lib.ListN.{length, get_or, length-replicate}
use lib.Ieee.{Float}
use borrow.Author.Rules.{rules}
use borrow.Author.Tests.{not-true, not-false}
use Rattle.action.specs.Lists.{every}
use Rattle.keyed.specs.Keyed.{running_from, running, placed}
use Rattle.sum_rows.specs.Sums.{zero, finite_sum, place_sums}
use Rattle.sum_rows.specs.Added.{Added}
use Rattle.sum_rows.proofs.RowAdding.{rows_to, added-start, sums-length, counts-length, few-counted, added_next, finite-next, add-refused, add-passes}
use Rattle.sum_rows.proofs.adding.add_rows.Given as goal

abbrev pub invariant-loop-i : goal.invariant-loop-i
invariant-loop-i l =
    (l.i ≤ length l.coefficients) × Added l.places l.coefficients l.i l.sums l.counts × (every finite_sum (running place_sums (rows_to l.places l.coefficients l.i)) ≡ true)
