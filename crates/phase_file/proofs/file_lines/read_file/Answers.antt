-- `file_lines::read_file` meets its contract: the first line is other than the names (`file-other`), or the lines after it decide (`file-lines`).
use Prim.Native.Nat.{ℕ, ◌+◌}
use mathlib.Core.Path.{◌≡◌, sym, ap, ◌∙◌}
use mathlib.Core.Bool.{true, false≢true}
use mathlib.Core.List.{List}
use native.Mathlib.Omega.{arith}
use lib.ListN.{take}
use borrow.Author.Rules.{rules}
use Rattle.pauli_word.proofs.Words.{rest_part}
use Rattle.action.specs.Lists.{same_numbers}
use Rattle.text.specs.Text.{line_end, pieces}
use Rattle.text.proofs.Lines.{Ended, names_ends}
use Rattle.phases.specs.Rules.{turn}
use Rattle.phase_file.specs.File.{column_names, entries_alone}
use Rattle.phase_file.specs.Read.{column_read}
use Rattle.phase_file.proofs.Reading.{file_other, file-lines, file-rest}
use Rattle.phase_file.proofs.file_lines.read_file.Goals as goal
use Rattle.phase_file.proofs.file_lines.read_file.Lts as lts
use Rattle.phase_file.proofs.file_lines.read_file.Tie as tie
use Rattle.phase_file.proofs.file_lines.read_file.Reads as reads

abbrev ctx-After-k : Type 0
ctx-After-k = lts.After-k tie.the-claims reads.Pre reads.Post tie.handed_clauses

abbrev ctx-After-known_told : Type 0
ctx-After-known_told = lts.Past-After-known_told tie.the-claims reads.Pre reads.Post tie.handed_clauses

-- the names end at k
module _ (c : ctx-After-k) where
  abbrev file : List ℕ
  file = c.args.file.now

  abbrev k : ℕ
  k = c.k-1.given.0.0

  first : Ended file k × (same_numbers (take k file) column_names ≡ true)
  first = names_ends column_names file k (sym c.names_end.ensures ∙ c.k-1.given.1)

pub returns-in_default : goal.returns-in_default
returns-in_default c =
    let f = c.args.file.now in record {
      form = file_other f (sym c.names_end.ensures ∙ c.in_default.is);
      cosines = λ e. absurd (false≢true e);
      sines = λ e. absurd (false≢true e);
    }

pub overflow_add-k : goal.overflow_add-k
overflow_add-k c = omega (arith, (first (lts.walk_of-After-known_told tie.the-claims reads.Pre reads.Post tie.handed_clauses c.before).before).0, c.well_formed)

pub slice_bounds-read_lines-count : goal.slice_bounds-read_lines-count
slice_bounds-read_lines-count c = omega (arith, (first (lts.walk_of-After-known_told tie.the-claims reads.Pre reads.Post tie.handed_clauses c.before).before).0)

pub slice_bounds-read_lines-start : goal.slice_bounds-read_lines-start
slice_bounds-read_lines-start c = omega (arith, (first (lts.walk_of-After-known_told tie.the-claims reads.Pre reads.Post tie.handed_clauses c.before).before).0)

pub returns : goal.returns
returns c =
    let (at, names) = first (lts.walk_of-After-known_told tie.the-claims reads.Pre reads.Post tie.handed_clauses c.before.before.before.before.before.before.before).before in
    let rest = rest_part (k (lts.walk_of-After-known_told tie.the-claims reads.Pre reads.Post tie.handed_clauses c.before.before.before.before.before.before.before).before + 1) (file (lts.walk_of-After-known_told tie.the-claims reads.Pre reads.Post tie.handed_clauses c.before.before.before.before.before.before.before).before) in
    let lines = ap (pieces line_end) rest ∙ sym (file-rest (file (lts.walk_of-After-known_told tie.the-claims reads.Pre reads.Post tie.handed_clauses c.before.before.before.before.before.before.before).before) (k (lts.walk_of-After-known_told tie.the-claims reads.Pre reads.Post tie.handed_clauses c.before.before.before.before.before.before.before).before) at) in record {
      form = c.read_lines.ensures.form ∙ ap (λ (t : List ℕ). entries_alone turn (pieces line_end t)) rest ∙ sym (file-lines (file (lts.walk_of-After-known_told tie.the-claims reads.Pre reads.Post tie.handed_clauses c.before.before.before.before.before.before.before).before) (k (lts.walk_of-After-known_told tie.the-claims reads.Pre reads.Post tie.handed_clauses c.before.before.before.before.before.before.before).before) at names);
      cosines = λ e. c.read_lines.ensures.cosines e ∙ ap (column_read 0) lines;
      sines = λ e. c.read_lines.ensures.sines e ∙ ap (column_read 1) lines;
    }
