-- What is promised of sector_words by its outcome: where the call on k rows of words answers, it has a decision for each row, and that of row i is what
-- canonicalize_in_sector decides of row i as it is handed, in either form, lent a counter with a place for each generator.
use Prim.Native.Nat.{ℕ, ◌<◌}
use mathlib.Core.Path.{◌≡◌}
use mathlib.Core.List.{List}
use lib.IntN.{ℤ}
use lib.ListN.{length, get_or}
use Rattle.outcome.specs.Outcome.{answer}
use Rattle.group.specs.declared.Group.{Group}
use Rattle.row_lists.specs.Rows.{row_by, row_size}
use Rattle.momentum.specs.Calls.{sector_outcome}
use Rattle.decisions.specs.Decisions.{Decision, dropped, Row}
use Rattle.momentum.specs.Words.{sector_words_outcome}
use Rattle.momentum.proofs.RowCalls as Rows

module _ (g : Group) (ks : List ℤ) (words : List ℕ) (k representatives sizes : ℕ) (rows : List (Decision Row))
    (answered : sector_words_outcome g ks words k representatives sizes ≡ answer rows) where
  pub words_all : length rows ≡ k
  words_all = Rows.rows_all g ks words k representatives sizes rows answered

  pub words-alone : (i : ℕ) → i < k
      → sector_outcome g g.sites (row_by (row_size (length words) k) words i) ks g.generators ≡ answer (get_or rows i (dropped 0))
  words-alone = Rows.row-alone g ks words k representatives sizes rows answered
