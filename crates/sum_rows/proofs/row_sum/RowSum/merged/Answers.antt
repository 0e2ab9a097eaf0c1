-- `row_sum::RowSum::merged` meets its contract.
use Prim.Native.Nat.{ℕ}
use mathlib.Core.Path.{ap}
use native.Mathlib.Numerals.{add-one}
use lib.Ieee.{binary64, add}
use borrow.Author.Rules.{rules}
use Rattle.sum_rows.specs.declared.row_sum.RowSum.{RowSum}
use Rattle.sum_rows.specs.Sums.{add_row}
use Rattle.sum_rows.proofs.row_sum.RowSum.merged.Goals as goal

pub returns : goal.returns
unfolding add_row
returns c =
    let s = c.args in
    ap (λ (n : ℕ). record { coefficient = add binary64 s.self.coefficient s.coefficient; rows = n }) (add-one s.self.rows)
