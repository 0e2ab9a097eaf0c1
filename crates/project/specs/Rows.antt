-- What the functions that the call is made of come to: one row turned, all rows turned, and whole numbers added at places.
use Rattle.std.specs.Prelude.{ℕ, ◌*◌, ◌%◌, ◌<◌, ◌≡◌, true, List, [], map, ℤ, pos, ◌+ℤ◌, length, get_or}
use Rattle.pauli_word.specs.Word.{Word}
use Rattle.pauli_word.specs.Bytes.{bytes_of}
use Rattle.action.specs.Permutation.{Generator}
use Rattle.action.specs.Sector.{modulus}
use Rattle.elements.specs.HeldGroup.{generators_in, Tables}
use Rattle.keyed.specs.Keyed.{Fold, by_place}
use Rattle.row_lists.specs.Rows.{row_at}
use Rattle.row_lists.specs.Checks.{AcceptedRows}
use Rattle.row_words.specs.Words.{by_bytes}
use Rattle.phases.specs.Rules.{turn, unit, InRange}
use Rattle.projection.specs.Projection.{Parts, no_parts, kept_rows, turned_row}
use Rattle.project.specs.declared.rows.Turned.{Turned}
use Rattle.project.specs.Calls.{max_coefficient}

-- the largest number that a row adds
abbrev pub max_part : ℕ
max_part = max_coefficient * unit

-- sums of whole numbers by place
abbrev pub whole_sums : Fold ℕ ℤ ℤ
whole_sums = by_place (pos 0) ◌+ℤ◌

-- sums of whole numbers by rows' bytes
abbrev pub whole_rows : Fold (List ℕ) ℤ ℤ
whole_rows = by_bytes (pos 0) ◌+ℤ◌

-- the lists of a table whose numbers are in their range
pub record PhaseLists (cosines sines : List ℤ) : Type 0 where
  pub cosines_long : length cosines ≡ turn
  pub sines_long : length sines ≡ turn
  pub cosines_in : (e : ℕ) → InRange unit (get_or cosines e (pos 0))
  pub sines_in : (e : ℕ) → InRange unit (get_or sines e (pos 0))

-- tables that hold the k generators of a group of n sites, a mode for each, and a phase modulus that divides a turn
pub record Sector (k n : ℕ) (targets orders : List ℕ) (ks : List ℤ) : Type 0 where
  pub tables : Tables k n targets orders
  pub modes : length ks ≡ k
  pub divides : turn % modulus (generators_in k n targets orders) ≡ 0

-- accepted rows of n sites, their words in full, with coefficients in their range
pub record WholeRows (n : ℕ) (words : List ℕ) (cs : List ℤ) : Type 0 where
  pub rows : AcceptedRows n words (length cs)
  pub range : (i : ℕ) → i < length cs → InRange max_coefficient (get_or cs i (pos 0))

-- a row of a kept orbit is turned
abbrev pub turned_as : Turned → List ℤ → List ℤ → List Generator → List ℤ → Word × ℤ → Type 0
turned_as r cosines sines gs ks row =
    r.kept ≡ true
    → (r.word ≡ bytes_of (turned_row cosines sines gs ks row).0)
    × (r.cosine ≡ (turned_row cosines sines gs ks row).1.0)
    × (r.sine ≡ (turned_row cosines sines gs ks row).1.1)

-- the rows of kept orbits, turned
abbrev pub turned_rows : List ℤ → List ℤ → List Generator → List ℤ → List (Word × ℤ) → List (Word × Parts)
turned_rows cosines sines gs ks rows = map (turned_row cosines sines gs ks) (kept_rows gs ks rows)

-- the lists hold these rows: row j its representative, and member j what it adds
pub record TurnedRows (rows : List (Word × Parts)) (words : List ℕ) (xs ys : List ℤ) : Type 0 where
  pub word : (j : ℕ) → j < length rows → row_at words j ≡ bytes_of (get_or rows j ([], no_parts)).0
  pub cosine : (j : ℕ) → j < length rows → get_or xs j (pos 0) ≡ (get_or rows j ([], no_parts)).1.0
  pub sine : (j : ℕ) → j < length rows → get_or ys j (pos 0) ≡ (get_or rows j ([], no_parts)).1.1
