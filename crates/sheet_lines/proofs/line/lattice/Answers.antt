-- `line::lattice` meets its contract: each shape has the lattice of its sides.
use mathlib.Core.Path.{sym, ap, ◌∙◌}
use Rattle.sheet_lines.specs.Parts.{lattice_for}
use borrow.Author.Rules.{rules}
use Rattle.sheet_lines.proofs.line.lattice.Goals as goal
