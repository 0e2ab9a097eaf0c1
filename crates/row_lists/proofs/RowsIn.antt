-- The rows of a list of words and a list of contents: how many there are, which stands where, and the first ones with one more.
use Prim.Native.Nat.{ℕ, zero, suc, ◌<◌}
use native.Mathlib.Nat.{le_of_suc-le-suc, not-suc-le-zero}
use mathlib.Core.Path.{◌≡◌, refl, ◌∙◌, ap}
use mathlib.Core.List.{List, [], ◌∷◌, ◌++◌}
use lib.ListN.{length, get_or, take, drop}
use lib.Seq.{take-suc}
use Rattle.pauli_word.specs.Limits.{word_length}
use Rattle.row_lists.specs.Rows.{row_at, rows_in}
use Rattle.row_lists.proofs.Rows.{row-behind}

module _ {C : Type 0} where
  pub rows-length : (words : List ℕ) (cs : List C) → length (rows_in words cs) ≡ length cs
  unfolding rows_in
  rows-length words [] = refl
  rows-length words (c ∷ cs) = ap suc (rows-length (drop word_length words) cs)

  pub rows_at : (words : List ℕ) (cs : List C) (i : ℕ) (d : C) (r : List ℕ × C) → i < length cs → get_or (rows_in words cs) i r ≡ (row_at words i, get_or cs i d)
  unfolding rows_in row_at
  rows_at words [] i d r l = absurd (not-suc-le-zero l)
  rows_at words (c ∷ cs) zero d r l = refl
  rows_at words (c ∷ cs) (suc i) d r l =
      rows_at (drop word_length words) cs i d r (le_of_suc-le-suc l) ∙ ap (λ (b : List ℕ). (b, get_or cs i d)) (row-behind words i)

  pub rows_next :
      (words : List ℕ) (cs : List C) (i : ℕ) (d : C) → i < length cs
      → take (suc i) (rows_in words cs) ≡ take i (rows_in words cs) ++ ((row_at words i, get_or cs i d) ∷ [])
  rows_next words cs i d l =
      let row : List ℕ × C = (row_at words i, get_or cs i d) in
      take-suc (rows_in words cs) i row (rw (rows-length words cs) l)
      ∙ ap (λ (r : List ℕ × C). take i (rows_in words cs) ++ (r ∷ [])) (rows_at words cs i d row l)
