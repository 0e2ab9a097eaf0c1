-- The worked examples, as one table, and the lemma that each of its lines holds, which the checker computes.
use Rattle.std.specs.Prelude.{ℕ, ◌≡◌, refl, Bool, true, ◌&&◌, not, List, [], ◌∷◌, ◌++◌, eqb, ℤ, pos, negsuc, length}
use Rattle.pauli_word.specs.Word.{I, X, Y, Z, Word, same, weight}
use Rattle.action.specs.Lists.{every, count}
use Rattle.action.specs.Permutation.{Generator}
use Rattle.action.specs.Lattice.{chain, ladder, torus2, torus3}
use Rattle.action.specs.Index.{digits, digits_below, index}
use Rattle.action.specs.Orbit.{reach, least, index_back, orbit_size}
use Rattle.action.specs.Sector.{modulus, numerator, keeps, dropped_by}
use Rattle.action.specs.Count.{all_words, representatives}

-- two generators, each the swap of two sites
unfoldable pub swaps : List Generator
swaps = swap ∷ swap ∷ []
  where
    swap : Generator
    swap = record { perm = 1 ∷ 0 ∷ []; order = 2 }

-- what modes make of a word: they keep it, or drop it by an index
pub data Made : Type 0 where
  keep : Made
  drop : ℕ → Made

pub data Example : Type 0 where
  -- group, word and modes; then least word, index, orbit size, weight, and what the modes make of the word
  line : List Generator → Word → List ℤ → Word → ℕ → ℕ → ℕ → Made → Example
  -- group, modes and index; then the index's numerator, and the phase modulus
  phase : List Generator → List ℤ → ℕ → ℕ → ℕ → Example
  -- group and digits; then their index
  counter : List Generator → List ℕ → ℕ → Example
  -- group and a counter, of which some digit is not below its generator's order
  over : List Generator → List ℕ → Example
  -- group, word and index; then the word that the index makes
  reached : List Generator → Word → ℕ → Word → Example
  -- group, site count and modes; then how many representatives they keep
  kept : List Generator → ℕ → List ℤ → ℕ → Example
  -- site count; then how many words there are
  words : ℕ → ℕ → Example

abbrev pub table : List Example
table =
    line (chain 4) (X ∷ I ∷ I ∷ I ∷ []) (pos 1 ∷ []) (I ∷ I ∷ I ∷ X ∷ []) 1 4 1 keep
    ∷ line (chain 4) (X ∷ I ∷ X ∷ I ∷ []) (pos 1 ∷ []) (I ∷ X ∷ I ∷ X ∷ []) 3 2 2 (drop 2)
    ∷ line (chain 4) (X ∷ I ∷ X ∷ I ∷ []) (negsuc 1 ∷ []) (I ∷ X ∷ I ∷ X ∷ []) 3 2 2 keep
    ∷ line (chain 4) (I ∷ I ∷ I ∷ I ∷ []) (negsuc 3 ∷ []) (I ∷ I ∷ I ∷ I ∷ []) 0 1 0 keep
    ∷ line (chain 4) (I ∷ I ∷ I ∷ I ∷ []) (pos 1 ∷ []) (I ∷ I ∷ I ∷ I ∷ []) 0 1 0 (drop 1)
    ∷ line (chain 2) (X ∷ Z ∷ []) (pos 0 ∷ []) (Z ∷ X ∷ []) 1 2 2 keep
    -- all X bits come before the Z bits
    ∷ line (chain 3) (I ∷ X ∷ Z ∷ []) (pos 2 ∷ []) (Z ∷ I ∷ X ∷ []) 2 3 2 keep
    ∷ kept (chain 2) 2 (pos 0 ∷ []) 10
    ∷ kept (chain 2) 2 (pos 1 ∷ []) 6
    -- both legs shift along their length
    ∷ line (ladder 2 2) (X ∷ I ∷ I ∷ Y ∷ []) (pos 1 ∷ []) (I ∷ X ∷ Y ∷ I ∷ []) 1 2 2 keep
    ∷ line (ladder 2 2) (X ∷ X ∷ Y ∷ Y ∷ []) (pos 1 ∷ []) (X ∷ X ∷ Y ∷ Y ∷ []) 0 1 4 (drop 1)
    ∷ line (ladder 3 2) (X ∷ I ∷ I ∷ Y ∷ I ∷ I ∷ []) (pos 1 ∷ []) (I ∷ I ∷ X ∷ I ∷ I ∷ Y ∷ []) 1 3 2 keep
    ∷ line (torus2 2 2) (X ∷ I ∷ I ∷ I ∷ []) (pos 0 ∷ pos 0 ∷ []) (I ∷ I ∷ I ∷ X ∷ []) 3 4 1 keep
    ∷ line (torus2 2 2) (X ∷ X ∷ I ∷ I ∷ []) (pos 0 ∷ pos 1 ∷ []) (I ∷ I ∷ X ∷ X ∷ []) 2 2 2 keep
    ∷ line (torus2 2 2) (X ∷ X ∷ I ∷ I ∷ []) (pos 1 ∷ pos 0 ∷ []) (I ∷ I ∷ X ∷ X ∷ []) 2 2 2 (drop 1)
    -- index 1 fixes the word too, with numerator 0; indices 2 and 3 break it
    ∷ line (torus2 2 2) (I ∷ I ∷ I ∷ I ∷ []) (pos 0 ∷ pos 1 ∷ []) (I ∷ I ∷ I ∷ I ∷ []) 0 1 0 (drop 2)
    ∷ line (torus2 2 3) (Y ∷ Y ∷ I ∷ I ∷ I ∷ I ∷ []) (pos 0 ∷ pos 1 ∷ []) (I ∷ I ∷ I ∷ I ∷ Y ∷ Y ∷ []) 2 3 2 keep
    ∷ line (torus2 2 3) (Y ∷ Y ∷ I ∷ I ∷ I ∷ I ∷ []) (pos 1 ∷ pos 0 ∷ []) (I ∷ I ∷ I ∷ I ∷ Y ∷ Y ∷ []) 2 3 2 (drop 1)
    -- index 5, digits 1 and 2, fixes the word: its numerator is 1 * 2 + 2 * 1 of 4, a whole turn
    ∷ line (torus2 2 4) (X ∷ I ∷ I ∷ I ∷ I ∷ X ∷ I ∷ I ∷ []) (pos 1 ∷ pos 1 ∷ []) (I ∷ I ∷ I ∷ X ∷ I ∷ I ∷ X ∷ I ∷ []) 7 4 2 keep
    ∷ line (torus2 2 4) (X ∷ I ∷ I ∷ I ∷ I ∷ X ∷ I ∷ I ∷ []) (pos 0 ∷ pos 1 ∷ []) (I ∷ I ∷ I ∷ X ∷ I ∷ I ∷ X ∷ I ∷ []) 7 4 2 (drop 5)
    ∷ line (torus3 2 3 2) (X ∷ Z ∷ I ∷ I ∷ I ∷ I ∷ I ∷ I ∷ Y ∷ I ∷ I ∷ I ∷ []) (pos 0 ∷ pos 0 ∷ pos 0 ∷ []) (I ∷ I ∷ I ∷ I ∷ I ∷ Y ∷ I ∷ I ∷ Z ∷ X ∷ I ∷ I ∷ []) 11 12 3 keep
    ∷ line (torus3 2 3 2) (X ∷ I ∷ I ∷ I ∷ I ∷ I ∷ I ∷ X ∷ I ∷ I ∷ I ∷ I ∷ []) (pos 1 ∷ pos 0 ∷ pos 1 ∷ []) (I ∷ I ∷ I ∷ I ∷ I ∷ X ∷ I ∷ I ∷ I ∷ I ∷ X ∷ I ∷ []) 3 6 2 keep
    ∷ line (torus3 2 3 2) (X ∷ I ∷ I ∷ I ∷ I ∷ I ∷ I ∷ X ∷ I ∷ I ∷ I ∷ I ∷ []) (pos 0 ∷ pos 0 ∷ pos 1 ∷ []) (I ∷ I ∷ I ∷ I ∷ I ∷ X ∷ I ∷ I ∷ I ∷ I ∷ X ∷ I ∷ []) 3 6 2 (drop 7)
    -- equal generators count as two
    ∷ line swaps (X ∷ I ∷ []) (pos 0 ∷ pos 0 ∷ []) (I ∷ X ∷ []) 1 2 1 keep
    ∷ line swaps (X ∷ I ∷ []) (pos 0 ∷ pos 1 ∷ []) (I ∷ X ∷ []) 1 2 1 (drop 3)
    ∷ line swaps (X ∷ I ∷ []) (pos 1 ∷ pos 0 ∷ []) (I ∷ X ∷ []) 1 2 1 (drop 3)
    ∷ line swaps (X ∷ I ∷ []) (pos 1 ∷ pos 1 ∷ []) (I ∷ X ∷ []) 1 2 1 keep
    -- the mode -1 is 2, and not 1
    ∷ line (chain 3 ++ chain 3) (X ∷ I ∷ I ∷ []) (negsuc 0 ∷ pos 2 ∷ []) (I ∷ I ∷ X ∷ []) 1 3 1 keep
    ∷ line (chain 3 ++ chain 3) (X ∷ I ∷ I ∷ []) (pos 1 ∷ pos 2 ∷ []) (I ∷ I ∷ X ∷ []) 1 3 1 (drop 5)
    ∷ phase (chain 4) (negsuc 0 ∷ []) 1 3 4
    ∷ phase (torus2 2 2) (pos 1 ∷ pos 1 ∷ []) 1 1 2
    ∷ phase (torus2 2 3) (pos 1 ∷ pos 1 ∷ []) 3 5 6
    -- generator 0 is the fastest
    ∷ counter (torus2 3 5) (2 ∷ 1 ∷ []) 5
    ∷ counter (torus3 2 3 4) (1 ∷ 0 ∷ 2 ∷ []) 13
    ∷ counter (torus3 2 3 4) (1 ∷ 2 ∷ 3 ∷ []) 23
    ∷ counter [] [] 0
    ∷ over (torus2 3 5) (3 ∷ 0 ∷ [])
    ∷ over (torus2 3 5) (0 ∷ 6 ∷ [])
    ∷ reached (chain 4) (I ∷ I ∷ I ∷ X ∷ []) 1 (X ∷ I ∷ I ∷ I ∷ [])
    ∷ reached (chain 4) (X ∷ I ∷ I ∷ I ∷ []) 3 (I ∷ I ∷ I ∷ X ∷ [])
    ∷ reached (torus2 2 3) (X ∷ Z ∷ I ∷ I ∷ I ∷ I ∷ []) 3 (I ∷ I ∷ Z ∷ X ∷ I ∷ I ∷ [])
    ∷ line [] [] [] [] 0 1 0 keep
    ∷ words 0 1
    ∷ []

-- whether the modes make that of the word
unfoldable pub makes : List Generator → List ℤ → Word → Made → Bool
unfolding keeps dropped_by
makes gs ks w keep = keeps gs ks w
makes gs ks w (drop i) = not (keeps gs ks w) && eqb (dropped_by gs ks w) i

unfoldable pub holds : Example → Bool
unfolding least index_back orbit_size weight makes keeps numerator digits digits_below index reach modulus count representatives all_words
holds (line gs w ks v i s k m) =
    same (least gs w) v && eqb (index_back gs w) i && eqb (orbit_size gs w) s && eqb (weight w) k && makes gs ks w m
holds (phase gs ks i p m) = eqb (numerator gs ks (digits gs i)) p && eqb (modulus gs) m
holds (counter gs cs i) = digits_below gs cs && eqb (index gs cs) i
holds (over gs cs) = not (digits_below gs cs)
holds (reached gs w i v) = same (reach gs i w) v
holds (kept gs n ks k) = eqb (count (keeps gs ks) (representatives gs n)) k
holds (words n k) = eqb (length (all_words n)) k

-- every line of the table holds
pub examples : every holds table ≡ true
unfolding every holds swaps chain ladder torus2 torus3
examples = refl
