-- `exchange::put_row` meets its contract: what is copied over the row's part is written over the row (`part-written`).
use Prim.Native.Nat.{ℕ}
use mathlib.Core.Path.{ap, ◌∙◌}
use mathlib.Core.List.{List}
use Rattle.row_lists.specs.Rows.{with_row}
use Rattle.row_lists.proofs.Rows.{part-written}
use Rattle.row_lists.proofs.exchange.put_row.Goals as goal

pub returns : goal.returns
returns c =
    let a = c.args in
    part-written a.words.now a.row c.copy.new.dst ∙ ap (λ (bytes : List ℕ). with_row a.words.now a.row bytes) c.copy.ensures
