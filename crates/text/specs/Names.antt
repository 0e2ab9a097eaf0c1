-- The line of names that a text begins with.
use Rattle.std.specs.Prelude.{ℕ, cond, List, eqb, length, take, Option, Some, None}
use Rattle.action.specs.Lists.{same_numbers}
use Rattle.text.specs.Text.{line_end, before}

-- where the first line of a text ends, if it is these names; bytes that no line end follows are no line
abbrev pub names_read : List ℕ → List ℕ → Option ℕ
names_read names text =
    let k = length (before line_end text) in
    cond (eqb k (length text)) None (cond (same_numbers (take k text) names) (Some k) None)
