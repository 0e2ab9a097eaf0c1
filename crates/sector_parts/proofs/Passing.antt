-- Rows of a list and the two numbers beside each, changed one after the other: what holds of the rows that are passed, and that the others are as they were.
use Prim.Native.Nat.{ℕ, ◌+◌, ◌-◌, ◌*◌, ◌≤◌, ◌<◌}
use mathlib.Core.Path.{◌≡◌, refl, ◌∙◌}
use mathlib.Core.List.{List, ◌++◌}
use native.Mathlib.Decide.{ℕ_discrete}
use native.Mathlib.Omega.{arith}
use lib.ListN.{length, get_or, take, drop, set, length-set}
use lib.Seq.{get_or-set_same, get_or-set_other}
use Rattle.pauli_word.specs.Limits.{word_length}
use Rattle.row_lists.specs.Rows.{row_at, with_row}
use Rattle.row_lists.proofs.Rows.{part-written, with_row_length, with_row_same, with_row_other}

-- ---- rows alone

-- R stands between the number of each of the first i rows and the row, and the others are as they were
pub record RowsPassed (R : ℕ → List ℕ → Type 0) (rows₀ rows : List ℕ) (i : ℕ) : Type 0 where
  pub wide : length rows ≡ length rows₀
  pub done : (j : ℕ) → j < i → R j (row_at rows j)
  pub row : (j : ℕ) → i ≤ j → row_at rows j ≡ row_at rows₀ j

pub rows_none : (R : ℕ → List ℕ → Type 0) (rows : List ℕ) → RowsPassed R rows rows 0
rows_none R rows = record { wide = refl; done = λ j h. absurd (omega arith); row = λ j h. refl }

-- one row more
module _ (R : ℕ → List ℕ → Type 0) {rows₀ rows : List ℕ} {i : ℕ} (w : RowsPassed R rows₀ rows i) (room : word_length * i + word_length ≤ length rows)
    (bytes : List ℕ) (full : length bytes ≡ word_length) (r : R i bytes) where
  with-row : RowsPassed R rows₀ (with_row rows i bytes) (i + 1)
  with-row = record {
    wide = with_row_length rows i room bytes full ∙ w.wide;
    done = λ j h. done j h (ℕ_discrete j i);
    row = λ j h. with_row_other rows i room bytes full j (λ e. omega arith) ∙ w.row j (omega arith);
  }
    where
      done : (j : ℕ) → j < i + 1 → Dec (j ≡ i) → R j (row_at (with_row rows i bytes) j)
      done j h (yes e) = rw (e, with_row_same rows i room bytes full) r
      done j h (no n) = rw (with_row_other rows i room bytes full j n) (w.done j (omega arith))

  pub rows_next : RowsPassed R rows₀ (take (word_length * i) rows ++ (bytes ++ drop (word_length * i + word_length - word_length * i) (drop (word_length * i) rows))) (i + 1)
  rows_next = rw (part-written rows i bytes) with-row

-- ---- rows with their numbers

-- R stands between the number of each of the first i rows, the row and the numbers beside it, and the others are as they were
pub record Passed (R : ℕ → List ℕ → ℕ → ℕ → Type 0) (rows₀ indices₀ sizes₀ rows indices sizes : List ℕ) (i : ℕ) : Type 0 where
  pub long : length indices ≡ length indices₀
  pub many : length sizes ≡ length sizes₀
  pub wide : length rows ≡ length rows₀
  pub done : (j : ℕ) → j < i → R j (row_at rows j) (get_or indices j 0) (get_or sizes j 0)
  pub row : (j : ℕ) → i ≤ j → row_at rows j ≡ row_at rows₀ j
  pub index : (j : ℕ) → i ≤ j → get_or indices j 0 ≡ get_or indices₀ j 0
  pub size : (j : ℕ) → i ≤ j → get_or sizes j 0 ≡ get_or sizes₀ j 0

pub passed_none : (R : ℕ → List ℕ → ℕ → ℕ → Type 0) (rows indices sizes : List ℕ) → Passed R rows indices sizes rows indices sizes 0
passed_none R rows indices sizes = record {
  long = refl;
  many = refl;
  wide = refl;
  done = λ j h. absurd (omega arith);
  row = λ j h. refl;
  index = λ j h. refl;
  size = λ j h. refl;
}

-- one row more
module _ (R : ℕ → List ℕ → ℕ → ℕ → Type 0) {rows₀ indices₀ sizes₀ rows indices sizes : List ℕ} {i : ℕ} (w : Passed R rows₀ indices₀ sizes₀ rows indices sizes i)
    (inside : i < length indices) (sized : i < length sizes) (room : word_length * i + word_length ≤ length rows)
    (bytes : List ℕ) (full : length bytes ≡ word_length) (x y : ℕ) (r : R i bytes x y) where
  with-numbers : Passed R rows₀ indices₀ sizes₀ (with_row rows i bytes) (set indices i x) (set sizes i y) (i + 1)
  with-numbers = record {
    long = length-set indices i x ∙ w.long;
    many = length-set sizes i y ∙ w.many;
    wide = with_row_length rows i room bytes full ∙ w.wide;
    done = λ j h. done j h (ℕ_discrete j i);
    row = λ j h. with_row_other rows i room bytes full j (λ e. omega arith) ∙ w.row j (omega arith);
    index = λ j h. get_or-set_other indices i j x 0 (λ e. omega arith) ∙ w.index j (omega arith);
    size = λ j h. get_or-set_other sizes i j y 0 (λ e. omega arith) ∙ w.size j (omega arith);
  }
    where
      done : (j : ℕ) → j < i + 1 → Dec (j ≡ i) → R j (row_at (with_row rows i bytes) j) (get_or (set indices i x) j 0) (get_or (set sizes i y) j 0)
      done j h (yes e) = rw (e, with_row_same rows i room bytes full, get_or-set_same indices i x 0 inside, get_or-set_same sizes i y 0 sized) r
      done j h (no n) =
          rw (with_row_other rows i room bytes full j n, get_or-set_other indices i j x 0 n, get_or-set_other sizes i j y 0 n) (w.done j (omega arith))

  pub passed-next : Passed R rows₀ indices₀ sizes₀ (take (word_length * i) rows ++ (bytes ++ drop (word_length * i + word_length - word_length * i) (drop (word_length * i) rows)))
      (set indices i x) (set sizes i y) (i + 1)
  passed-next = rw (part-written rows i bytes) with-numbers
