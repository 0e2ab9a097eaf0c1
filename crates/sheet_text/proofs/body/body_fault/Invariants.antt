-- `body::body_fault` meets its contract. The loop's invariant: the checks of all value lines come to those of the lines from this place on.
use Prim.Native.Nat.{ℕ, ◌+◌, ◌-◌, ◌≤◌, ◌<◌}
use mathlib.Core.Path.{◌≡◌, refl, sym, ap, ◌∙◌}
use mathlib.Core.List.{List}
use native.Mathlib.Omega.{arith}
use lib.ListN.{length, drop, length-drop}
use Rattle.outcome.specs.Outcome.{verdict, outcome_of}
use Rattle.pauli_word.proofs.Words.{rest_part}
use Rattle.text.specs.Text.{line_end, before, pieces}
use Rattle.text.proofs.Pieces.{before_short}
use Rattle.outcome.specs.declared.Refusal.{Refusal}
use Rattle.sheet_lines.specs.Lines.{body_checks}
use Rattle.sheet_lines.specs.Parts.{at_line, refused_at}
use Rattle.sheet_text.specs.Sheet.{max_sheet}
use borrow.Author.Rules.{rules}
use Rattle.sheet_text.proofs.Bodies.{place_unended, place_end, place-broken, place-passed}
use Rattle.sheet_text.proofs.body.body_fault.Given as goal

abbrev pub invariant-loop-at : goal.invariant-loop-at
invariant-loop-at l =
    (l.at ≤ length l.text)
    × (l.line ≤ l.at + 4)
    × (verdict (body_checks l.used l.sites (pieces line_end l.text) 4) ≡ verdict (body_checks l.used l.sites (pieces line_end (drop l.at l.text)) l.line))

abbrev pub decreases-loop-at : goal.decreases-loop-at
decreases-loop-at l = length l.text - l.at
