-- `body::fill_rows` meets its contract. The loop's invariant: the rows of the lines before this place are written (`Filling`).
use Prim.Native.Nat.{ℕ, ◌+◌, ◌-◌, ◌<◌}
use mathlib.Core.Path.{◌≡◌, ap, ◌∙◌}
use mathlib.Core.List.{List}
use native.Mathlib.Omega.{arith}
use lib.ListN.{length, take, drop}
use Rattle.pauli_word.proofs.Words.{rest_part}
use Rattle.action.specs.Permutation.{Generator}
use Rattle.elements.specs.HeldGroup.{generators_held}
use Rattle.text.specs.Text.{line_end, before}
use Rattle.sheet_rows.proofs.Widths.{line_row_short}
use Rattle.sheet_text.proofs.Bodies.{line_long, Filling, filling_start, filling-length, filling-ends, filling-fine, filling-next, filling-end}
use Rattle.sheet_text.proofs.body.fill_rows.Given as goal

abbrev pub invariant-loop-at : goal.invariant-loop-at
invariant-loop-at l =
    Filling l.group.generators l.group.sites (generators_held l.group) l.text l.initial.list l.start l.list l.at l.place

abbrev pub decreases-loop-at : goal.decreases-loop-at
decreases-loop-at l = length l.text - l.at
