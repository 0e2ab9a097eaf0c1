-- Rows on their way into their places. Place j waits for the row that stands at position j; the owner of that row is j.
use Rattle.std.specs.Prelude.{ℕ, ◌≤◌, ◌<◌, ◌≡◌, cond, List, eqb, length, get_or, set}
use Rattle.row_lists.specs.Rows.{max_rows, row_at}

-- the first `used` positions are different rows, of as many as there are
pub record Positions (positions : List ℕ) (used rows : ℕ) : Type 0 where
  pub places : length positions ≡ max_rows
  pub few : rows ≤ max_rows
  pub enough : used ≤ rows
  pub inside : (k : ℕ) → k < used → get_or positions k 0 < rows
  pub apart : (j k : ℕ) → j < used → k < used → get_or positions j 0 ≡ get_or positions k 0 → j ≡ k

-- the positions of the places from k on have these owners
pub record Owned (positions owners : List ℕ) (k used : ℕ) : Type 0 where
  pub places : length owners ≡ max_rows
  pub small : (p : ℕ) → get_or owners p 0 < max_rows
  pub owner : (j : ℕ) → k ≤ j → j < used → get_or owners (get_or positions j 0) 0 ≡ j

-- positions and owners once the row at k has gone to `from`: if a place waits for it, that place is told
unfoldable pub told_positions : List ℕ → List ℕ → ℕ → ℕ → List ℕ
told_positions positions owners k from =
    let owner = get_or owners k 0 in
    cond (eqb (get_or positions owner 0) k) (set positions owner from) positions

unfoldable pub told_owners : List ℕ → List ℕ → ℕ → ℕ → List ℕ
told_owners positions owners k from =
    let owner = get_or owners k 0 in
    cond (eqb (get_or positions owner 0) k) (set owners from owner) owners

-- row j of the list now is the row at position j of the list before, for every position
pub record Placed (ps words words' : List ℕ) : Type 0 where
  pub long : length words' ≡ length words
  pub word : (j : ℕ) → j < length ps → row_at words' j ≡ row_at words (get_or ps j 0)
