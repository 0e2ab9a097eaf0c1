-- `checks::row_size` meets its contract: its tests say whether there are as many bytes as rows in full have.
use mathlib.Core.Path.{sym}
use native.Mathlib.Omega.{arith}
use Rattle.row_lists.proofs.InFull.{size-full, size-old}
use Rattle.row_lists.proofs.checks.row_size.Goals as goal

pub returns-then-words-ne0 : goal.returns-then-words-ne0
returns-then-words-ne0 c = let a = c.args in sym (size-old a.words a.rows (λ e. c.if-words-ne0.true (omega arith)))

pub returns-then-words-rows : goal.returns-then-words-rows
returns-then-words-rows c = let a = c.args in sym (size-full a.words a.rows (omega arith))

pub returns-else-words-rows : goal.returns-else-words-rows
returns-else-words-rows c = let a = c.args in sym (size-old a.words a.rows (λ e. c.if-words-rows.false (omega arith)))
