-- `file_lines::read_lines` meets its contract. The loop's invariant: the first j lines are read, up to a place (`Reading`).
use Prim.Native.Nat.{ℕ, ◌+◌, ◌-◌, ◌≤◌, ◌<◌}
use mathlib.Core.Path.{◌≡◌, sym, ap, ◌∙◌}
use mathlib.Core.Bool.{false≢true}
use mathlib.Core.List.{List}
use native.Mathlib.Omega.{arith}
use lib.ListN.{length, take, drop, length-drop}
use mir.Syntax.{w64}
use mir.ValLaws.{to_z-of_z}
use borrow.Author.Rules.{rules}
use Rattle.pauli_word.proofs.Words.{rest_part}
use Rattle.text.specs.Text.{line_end, before}
use Rattle.text.proofs.Pieces.{before_short}
use Rattle.text.proofs.Lines.{line_slice}
use Rattle.phases.specs.Rules.{turn}
use Rattle.phase_file.specs.Read.{entry_read}
use Rattle.phase_file.proofs.Entries.{read_other, read_numbers}
use Rattle.phase_file.proofs.Reading.{Reading, reading_start, reading-unended, reading-broken, reading-next, reading-ends, reading-cosines, reading-sines}
use Rattle.phase_file.proofs.file_lines.read_lines.Given as goal

abbrev pub invariant-loop-j : goal.invariant-loop-j
invariant-loop-j l = Reading l.text l.j l.at l.cosines l.sines
