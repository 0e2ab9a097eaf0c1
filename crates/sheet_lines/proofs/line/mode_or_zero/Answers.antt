-- `line::mode_or_zero` meets its contract: what is read of a text is its mode, or that it is none (`mode-value`, `mode-zero`).
use mathlib.Core.Path.{sym, ◌∙◌}
use Rattle.sheet_lines.proofs.Lines.{mode-value, mode-zero}
use borrow.Author.Rules.{rules}
use Rattle.sheet_lines.proofs.line.mode_or_zero.Goals as goal
