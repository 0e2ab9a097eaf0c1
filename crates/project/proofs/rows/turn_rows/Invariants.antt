-- `rows::turn_rows` meets its contract. The loop's invariant: the kept rows of the first i are turned, and stand in the lists.
use Prim.Native.Nat.{ℕ, ◌-◌, ◌<◌}
use mathlib.Core.Path.{◌≡◌, sym, ap, ap₂, subst, ◌∙◌}
use mathlib.Core.List.{List}
use native.Mathlib.Omega.{arith}
use lib.IntN.{ℤ, pos}
use lib.ListN.{length, get_or}
use mir.Syntax.{w64}
use mir.Val.{to_z, of_z}
use mir.ValLaws.{to_z-of_z}
use borrow.Author.Rules.{rules}
use Rattle.pauli_word.specs.Word.{Word}
use Rattle.pauli_word.specs.Bytes.{letters_in}
use Rattle.action.specs.Permutation.{Generator}
use Rattle.action.specs.Sector.{keeps}
use Rattle.elements.specs.HeldGroup.{generators_in}
use Rattle.row_lists.specs.Rows.{max_rows, in_full_by}
use Rattle.row_lists.proofs.InFull.{row_inside, full-row, row-accepted}
use Rattle.project.specs.Rows.{turned_as}
use Rattle.project.proofs.TurnedRows.{Turning, turning-start, turning-end, out-room, kept_small, turning-next, row_of}
use Rattle.project.proofs.rows.turn_rows.Given as goal

abbrev pub invariant-loop-i : goal.invariant-loop-i
invariant-loop-i l =
    Turning l.group.sites (generators_in l.group.generators l.group.sites l.group.targets.now l.group.orders.now) l.modes (in_full_by l.size (length l.coefficients) l.words) l.coefficients l.cosines l.sines l.i l.kept
    l.representatives l.xs l.ys
