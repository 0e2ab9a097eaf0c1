-- Rows of a list and their indices, changed one after the other: what holds of the rows that are passed, and that the others are as they were.
use Prim.Native.Nat.{ℕ, ◌+◌, ◌-◌, ◌*◌, ◌≤◌, ◌<◌}
use mathlib.Core.Path.{◌≡◌, refl, ◌∙◌}
use mathlib.Core.List.{List, ◌++◌}
use native.Mathlib.Decide.{ℕ_discrete}
use native.Mathlib.Omega.{arith}
use lib.ListN.{length, get_or, take, drop, set, length-set}
use lib.Seq.{get_or-set_same, get_or-set_other}
use Rattle.pauli_word.specs.Limits.{word_length}
use Rattle.row_lists.specs.Rows.{row_at, with_row}
use Rattle.row_lists.proofs.Rows.{part-written, with_row_length, with_row_same, with_row_other}

-- R holds of each of the first i rows with its index, by the number of the row, and the others are as they were
pub record Walked (R : ℕ → List ℕ → ℕ → Type 0) (rows₀ indices₀ rows indices : List ℕ) (i : ℕ) : Type 0 where
  pub long : length indices ≡ length indices₀
  pub wide : length rows ≡ length rows₀
  pub done : (j : ℕ) → j < i → R j (row_at rows j) (get_or indices j 0)
  pub row : (j : ℕ) → i ≤ j → row_at rows j ≡ row_at rows₀ j
  pub index : (j : ℕ) → i ≤ j → get_or indices j 0 ≡ get_or indices₀ j 0

-- no row is passed
pub walked_none : (R : ℕ → List ℕ → ℕ → Type 0) (rows indices : List ℕ) → Walked R rows indices rows indices 0
walked_none R rows indices = record { long = refl; wide = refl; done = λ j h. absurd (omega arith); row = λ j h. refl; index = λ j h. refl }

-- one row more
module _ (R : ℕ → List ℕ → ℕ → Type 0) {rows₀ indices₀ rows indices : List ℕ} {i : ℕ} (w : Walked R rows₀ indices₀ rows indices i) (inside : i < length indices)
    (room : word_length * i + word_length ≤ length rows) (bytes : List ℕ) (full : length bytes ≡ word_length) (x : ℕ) (r : R i bytes x) where
  next : Walked R rows₀ indices₀ (with_row rows i bytes) (set indices i x) (i + 1)
  next = record {
    long = length-set indices i x ∙ w.long;
    wide = with_row_length rows i room bytes full ∙ w.wide;
    done = λ j h. done j h (ℕ_discrete j i);
    row = λ j h. with_row_other rows i room bytes full j (λ e. omega arith) ∙ w.row j (omega arith);
    index = λ j h. get_or-set_other indices i j x 0 (λ e. omega arith) ∙ w.index j (omega arith);
  }
    where
      done : (j : ℕ) → j < i + 1 → Dec (j ≡ i) → R j (row_at (with_row rows i bytes) j) (get_or (set indices i x) j 0)
      done j h (yes e) = rw (e, with_row_same rows i room bytes full, get_or-set_same indices i x 0 inside) r
      done j h (no n) = rw (with_row_other rows i room bytes full j n, get_or-set_other indices i j x 0 n) (w.done j (omega arith))

  pub walked_next : Walked R rows₀ indices₀ (take (word_length * i) rows ++ (bytes ++ drop (word_length * i + word_length - word_length * i) (drop (word_length * i) rows))) (set indices i x) (i + 1)
  walked_next = rw (part-written rows i bytes) next
