-- `folds::add_parts` meets its contract. The loop's invariant: the first i parts are added, each at its place.
use Prim.Native.Nat.{ℕ, ◌+◌, ◌-◌, ◌*◌, ◌^◌, ◌≤◌, ◌<◌}
use mathlib.Core.Path.{◌≡◌, sym, ap, subst, ◌∙◌}
use mathlib.Core.List.{List}
use native.Mathlib.Omega.{arith}
use lib.IntN.{ℤ, pos, ◌+ℤ◌}
use lib.ListN.{length, get_or, set}
use mir.Syntax.{w64}
use mir.Val.{hbits}
use Rattle.keyed.specs.Keyed.{placed, place_values}
use Rattle.keyed.proofs.Places.{values-start, values_length, value-at}
use Rattle.row_lists.specs.Rows.{max_rows}
use Rattle.phases.specs.Rules.{InRange}
use Rattle.phases.proofs.Ranges.{sum-held, sum-stays}
use Rattle.project.specs.Rows.{max_part, whole_sums}
use Rattle.project.proofs.AddedParts.{place-range, parts_next}
use Rattle.project.proofs.folds.add_parts.Given as goal

abbrev pub invariant-loop-i : goal.invariant-loop-i
invariant-loop-i l = (l.i ≤ l.rows) × (l.sums ≡ place_values whole_sums (length l.initial.sums) (placed (pos 0) l.places l.parts l.i))
