-- Projected sums: each row of a kept orbit, turned by its phase, is added to its representative. Coefficients and sums are whole numbers; a phase
-- is read from a table of cosines and sines, one entry for each part of a turn.
use Rattle.std.specs.Prelude.{ℕ, zero, suc, ◌*◌, ◌/◌, ◌%◌, ◌&&◌, not, List, [], ◌∷◌, map, ℤ, pos, ◌+ℤ◌, ◌*ℤ◌, get_or}
use Rattle.pauli_word.specs.Word.{Word, less, same}
use Rattle.action.specs.Lists.{select}
use Rattle.action.specs.Permutation.{Generator}
use Rattle.action.specs.Index.{digits}
use Rattle.action.specs.Orbit.{least, index_back}
use Rattle.action.specs.Sector.{modulus, numerator, keeps}
use Rattle.phases.specs.Rules.{turn}
use Rattle.keyed.specs.Keyed.{Fold, left_fold, table_of}

-- a number of two parts, along the cosine and along the sine
abbrev pub Parts : Type 0
Parts = ℤ × ℤ

abbrev pub no_parts : Parts
no_parts = (pos 0, pos 0)

abbrev pub add_parts : Parts → Parts → Parts
add_parts p q = (p.0 +ℤ q.0, p.1 +ℤ q.1)

-- the entry of an index: its phase, numerator / modulus of a turn, in entries
unfoldable pub entry_at : List Generator → List ℤ → ℕ → ℕ
unfolding numerator digits modulus
entry_at gs ks i = numerator gs ks (digits gs i) * turn / modulus gs

-- the entry of a word: that of the index that leads from the least word of its orbit to it
unfoldable pub entry_of : List Generator → List ℤ → Word → ℕ
unfolding entry_at index_back
entry_of gs ks w = entry_at gs ks (index_back gs w)

-- the index that moves once by the generator in place k: its digits are 1 in place k, 0 if the order is 1, and 0 elsewhere
unfoldable pub generator_index : List Generator → ℕ → ℕ
generator_index [] k = 0
generator_index (g ∷ gs) zero = 1 % g.order
generator_index (g ∷ gs) (suc k) = g.order * generator_index gs k

-- a coefficient times the pair at an entry
unfoldable pub turned : List ℤ → List ℤ → ℕ → ℤ → Parts
turned cosines sines e c = (c *ℤ get_or cosines e (pos 0), c *ℤ get_or sines e (pos 0))

-- the rows whose orbits the modes keep, and those whose orbits they drop
unfoldable pub kept_rows : {C : Type 0} → List Generator → List ℤ → List (Word × C) → List (Word × C)
unfolding select
kept_rows gs ks rows = select (λ row. keeps gs ks row.0) rows

unfoldable pub dropped_rows : {C : Type 0} → List Generator → List ℤ → List (Word × C) → List (Word × C)
unfolding select
dropped_rows gs ks rows = select (λ row. not (keeps gs ks row.0)) rows

-- a row with its representative in the place of its word, and what it adds in the place of its coefficient
unfoldable pub turned_row : List ℤ → List ℤ → List Generator → List ℤ → Word × ℤ → Word × Parts
unfolding turned entry_of least
turned_row cosines sines gs ks row = (least gs row.0, turned cosines sines (entry_of gs ks row.0) row.1)

-- the kept rows whose representative is v, in the order of the rows
unfoldable pub rows_of : {C : Type 0} → List Generator → List ℤ → Word → List (Word × C) → List (Word × C)
unfolding select
rows_of gs ks v rows = select (λ row. keeps gs ks row.0 && same (least gs row.0) v) rows

-- the sum of the coefficients of rows, each times the number of a list at the entry of its word
unfoldable pub sum_along : List ℤ → List Generator → List ℤ → List (Word × ℤ) → ℤ
unfolding left_fold entry_of
sum_along numbers gs ks rows = left_fold ◌+ℤ◌ (pos 0) (map (λ row. row.1 *ℤ get_or numbers (entry_of gs ks row.0) (pos 0)) rows)

-- the sum of the coefficients of rows
unfoldable pub sum_of : List (Word × ℤ) → ℤ
unfolding left_fold
sum_of rows = left_fold ◌+ℤ◌ (pos 0) (map (λ row. row.1) rows)

-- sums by word
abbrev pub part_sums : Fold Word Parts Parts
part_sums = record { less = less; same = same; start = no_parts; step = add_parts }

-- each representative of a kept row once, in rising order, with the sum of what its rows add
unfoldable pub projected : List ℤ → List ℤ → List Generator → List ℤ → List (Word × ℤ) → List (Word × Parts)
unfolding table_of turned_row kept_rows
projected cosines sines gs ks rows = table_of part_sums (map (turned_row cosines sines gs ks) (kept_rows gs ks rows))
