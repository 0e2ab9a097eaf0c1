-- Worked examples on a ring of four sites, which the checker computes: entries of words, and the tables of three rows at two modes.
-- The lists of cosines and sines are made for them: 10, 20, 30, 40 and 1, 2, 3, 4 at the entries of quarter turns.
use mathlib.Core.Path.{◌≡◌, refl}
use mathlib.Core.List.{List, [], ◌∷◌, ◌++◌, map}
use lib.IntN.{ℤ, pos, negsuc}
use lib.ListN.{replicate}
use Rattle.pauli_word.specs.Word.{I, X, Word}
use Rattle.action.specs.Lattice.{chain, torus2}
use Rattle.action.specs.Sector.{keeps}
use Rattle.projection.specs.Projection.{entry_at, entry_of, generator_index, kept_rows, dropped_rows, projected}

-- the words XIII, IXII and XIXI, to which the indices 1, 2 and 3 lead from the least words of their orbits
abbrev words : List Word
words = (X ∷ I ∷ I ∷ I ∷ []) ∷ (I ∷ X ∷ I ∷ I ∷ []) ∷ (X ∷ I ∷ X ∷ I ∷ []) ∷ []

-- their entries at modes 0, 1, -1 and 2
entries :
    map (λ k. map (entry_of (chain 4) (k ∷ [])) words) (pos 0 ∷ pos 1 ∷ negsuc 0 ∷ pos 2 ∷ [])
    ≡ (0 ∷ 0 ∷ 0 ∷ []) ∷ (180 ∷ 360 ∷ 540 ∷ []) ∷ (540 ∷ 360 ∷ 180 ∷ []) ∷ (360 ∷ 0 ∷ 360 ∷ []) ∷ []
unfolding entry_of chain
entries = refl

-- on a torus of 2 by 3 sites index 3 has numerator 5 of 6
entry_torus : entry_at (torus2 2 3) (pos 1 ∷ pos 1 ∷ []) 3 ≡ 600
unfolding entry_at torus2
entry_torus = refl

-- the indices of the two generators; a generator of order 1 moves nothing
generators :
    map (λ gs. generator_index gs 0 ∷ generator_index gs 1 ∷ []) (torus2 2 3 ∷ torus2 1 3 ∷ torus2 3 1 ∷ [])
    ≡ (1 ∷ 2 ∷ []) ∷ (0 ∷ 1 ∷ []) ∷ (1 ∷ 0 ∷ []) ∷ []
unfolding generator_index torus2
generators = refl

-- four numbers, a quarter of a turn apart
abbrev quarters : ℤ → ℤ → ℤ → ℤ → List ℤ
quarters a b c d = let gap : List ℤ = replicate 179 (pos 0) in (a ∷ gap) ++ (b ∷ gap) ++ (c ∷ gap) ++ (d ∷ [])

abbrev cosines : List ℤ
cosines = quarters (pos 10) (pos 20) (pos 30) (pos 40)

abbrev sines : List ℤ
sines = quarters (pos 1) (pos 2) (pos 3) (pos 4)

abbrev rows : List (Word × ℤ)
rows = (X ∷ I ∷ I ∷ I ∷ [], pos 3) ∷ (X ∷ I ∷ X ∷ I ∷ [], pos 5) ∷ (I ∷ X ∷ I ∷ I ∷ [], negsuc 6) ∷ []

-- mode 1 drops XIXI, and 3 * 20 - 7 * 30 is - 150
at_one : projected cosines sines (chain 4) (pos 1 ∷ []) rows ≡ (I ∷ I ∷ I ∷ X ∷ [], (negsuc 149, negsuc 14)) ∷ []
unfolding projected chain keeps
at_one = refl

dropped_at_one : dropped_rows (chain 4) (pos 1 ∷ []) rows ≡ (X ∷ I ∷ X ∷ I ∷ [], pos 5) ∷ []
unfolding dropped_rows chain keeps
dropped_at_one = refl

-- mode 2 keeps all: 3 * 30 - 7 * 10 is 20, and 5 * 30 is 150
at_two :
    projected cosines sines (chain 4) (pos 2 ∷ []) rows
    ≡ (I ∷ I ∷ I ∷ X ∷ [], (pos 20, pos 2)) ∷ (I ∷ X ∷ I ∷ X ∷ [], (pos 150, pos 15)) ∷ []
unfolding projected chain keeps
at_two = refl

kept_at_two : kept_rows (chain 4) (pos 2 ∷ []) rows ≡ rows
unfolding kept_rows chain keeps
kept_at_two = refl
