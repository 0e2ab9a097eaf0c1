-- `adding::add_row` meets its contract: what `merged` makes of the place is written there.
use mathlib.Core.Path.{ap, ◌∙◌}
use lib.ListN.{set}
use borrow.Author.Rules.{rules}
use Rattle.sum_rows.specs.declared.row_sum.RowSum.{RowSum}
use Rattle.sum_rows.specs.Sums.{finite_sum}
use Rattle.sum_rows.proofs.adding.add_row.Goals as goal

pub returns : goal.returns
returns c =
    let a = c.args in
    let e = c.merged-now.ensures in record {
      finite = c.is_finite.ensures ∙ ap finite_sum e;
      sums = ap (λ (s : RowSum). set a.sums.now a.at s.coefficient) e;
      counts = ap (λ (s : RowSum). set a.counts.now a.at s.rows) e;
    }
