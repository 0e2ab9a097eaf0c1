-- The definitions on examples: numbers as keys, words over digits as folds.
use Prim.Native.Nat.{ℕ, ◌+◌, ◌*◌}
use mathlib.Core.Path.{◌≡◌, refl}
use mathlib.Core.List.{List, [], ◌∷◌}
use lib.Dec.{ltb, eqb}
use Rattle.keyed.specs.Keyed.{Fold, rising, slot_of, found, free, table_of, running_from, running, first_failing}

-- contents read as decimal digits, so that their order shows
digits_by_key : Fold ℕ ℕ ℕ
digits_by_key = record { less = ltb; same = eqb; start = 0; step = λ v c. 10 * v + c }

rows : List (ℕ × ℕ)
rows = (5, 1) ∷ (2, 2) ∷ (5, 3) ∷ (9, 4) ∷ (2, 5) ∷ (5, 6) ∷ []

rising-once : rising ltb (5 ∷ 2 ∷ 5 ∷ 9 ∷ 2 ∷ 5 ∷ []) ≡ 2 ∷ 5 ∷ 9 ∷ []
unfolding rising
rising-once = refl

in_input_order : table_of digits_by_key rows ≡ (2, 25) ∷ (5, 136) ∷ (9, 4) ∷ []
unfolding table_of digits_by_key rows
in_input_order = refl

row_by-row : running digits_by_key rows ≡ 1 ∷ 2 ∷ 13 ∷ 4 ∷ 25 ∷ 136 ∷ []
unfolding running_from digits_by_key rows
row_by-row = refl

first_above : first_failing (λ v. ltb v 13) (1 ∷ 2 ∷ 13 ∷ 4 ∷ 25 ∷ []) ≡ 2
unfolding first_failing
first_above = refl

slots : (slot_of ltb 1 (2 ∷ 5 ∷ 9 ∷ []) ≡ free 0) × (slot_of ltb 5 (2 ∷ 5 ∷ 9 ∷ []) ≡ found 1) × (slot_of ltb 10 (2 ∷ 5 ∷ 9 ∷ []) ≡ free 3)
unfolding slot_of
slots = (refl, refl, refl)
