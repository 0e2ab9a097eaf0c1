-- What the lists of a sum hold while coefficients are added at their places.
use Rattle.outcome.specs.declared.Refusal.{Refusal}
use Rattle.std.specs.Prelude.{ℕ, ◌≡◌, List, map, length, get_or, Float, Result, Ok, Err}
use Rattle.std.specs.Float.{nan}
use Rattle.keyed.specs.Keyed.{placed, place_values}
use Rattle.sum_rows.specs.declared.row_sum.RowSum.{RowSum}
use Rattle.sum_rows.specs.Sums.{place_sums}

-- what the lists hold at a place
abbrev pub held_at : List Float → List ℕ → ℕ → RowSum
held_at sums counts k = record { coefficient = get_or sums k nan; rows = get_or counts k 0 }

-- the lists hold what each place comes to over the first i rows
pub record Added (places : List ℕ) (cs : List Float) (i : ℕ) (sums : List Float) (counts : List ℕ) : Type 0 where
  pub coefficients : sums ≡ map (λ s. s.coefficient) (place_values place_sums (length cs) (placed nan places cs i))
  pub rows : counts ≡ map (λ s. s.rows) (place_values place_sums (length cs) (placed nan places cs i))

-- all rows are added where there is no refusal; beside one the lists have their lengths
abbrev pub AddedAll : Result (Unit {0}) Refusal → List ℕ → List Float → List Float → List ℕ → Type 0
AddedAll (Ok tt) places cs sums counts = Added places cs (length cs) sums counts
AddedAll (Err why) places cs sums counts = (length sums ≡ length cs) × (length counts ≡ length cs)
