-- The rows that a sum is handed, all of one form, and the list of their words in full: row by row it is each word in full, and rows in full stay.
use Prim.Native.Nat.{ℕ, zero, suc, ◌+◌, ◌-◌, ◌*◌, ◌≤◌, ◌<◌}
use mathlib.Core.Path.{◌≡◌, refl, sym, ap, ap₂, subst, ◌∙◌}
use mathlib.Core.Logic.{◌⊎◌, inl, inr}
use mathlib.Core.Bool.{Bool, true, false, cond, and-eq-true_iff}
use mathlib.Core.List.{List, [], ◌∷◌, ◌++◌}
use native.Mathlib.Decide.{ℕ_discrete}
use native.Mathlib.Nat.{mul-suc, mul-le-mul_left, le_of_suc-le-suc, not-suc-le-zero}
use native.Mathlib.Omega.{arith}
use lib.Dec.{eqb}
use lib.ListN.{length, take, drop, length-append, length-drop, take-append-drop}
use lib.Seq.{length-take-le, take_at, drop_at}
use borrow.Author.Tests.{eq-eqb, ne_eqb}
use Rattle.pauli_word.specs.Limits.{max_sites, plane_length, word_length, old_plane_length, old_length}
use Rattle.pauli_word.specs.Bytes.{clear_from, Bytes, AcceptedWord, EitherLength, filled_up, spread, in_full}
use Rattle.pauli_word.specs.Calls.{clear_above}
use Rattle.pauli_word.proofs.Words.{bytes-append, bytes_take, bytes_drop}
use Rattle.pauli_word.proofs.Forms.{filled-bytes, full_same, full-length}
use Rattle.row_lists.specs.Rows.{max_rows, row_by, row_size, in_full_by, row_at}
use Rattle.row_lists.specs.Checks.{AcceptedRows}
use Rattle.row_lists.proofs.Rows.{first_by, part_by, behind-by, length-by, row_first, row-behind, row-bytes}

-- ---- the bytes of a row

module _ (words rows : ℕ) where
  pub size-full : words ≡ word_length * rows → row_size words rows ≡ word_length
  unfolding row_size
  size-full e = rw (eq-eqb words (word_length * rows) e)

  pub size-old : (words ≡ word_length * rows → ⊥) → row_size words rows ≡ old_length
  unfolding row_size
  size-old n = rw (ne_eqb words (word_length * rows) n)

  pub size-either : EitherLength (row_size words rows)
  size-either = go (ℕ_discrete words (word_length * rows))
    where
      go : Dec (words ≡ word_length * rows) → EitherLength (row_size words rows)
      go (yes e) = inl (size-full e)
      go (no n) = inr (size-old n)

  -- as many bytes as rows of one of the two forms have
  pub size-long : (words ≡ word_length * rows) ⊎ (words ≡ old_length * rows) → words ≡ row_size words rows * rows
  size-long e = go (ℕ_discrete words (word_length * rows)) e
    where
      go : Dec (words ≡ word_length * rows) → (words ≡ word_length * rows) ⊎ (words ≡ old_length * rows) → words ≡ row_size words rows * rows
      go (yes f) e = f ∙ ap (λ (k : ℕ). k * rows) (sym (size-full f))
      go (no h) (inl f) = absurd (h f)
      go (no h) (inr f) = f ∙ ap (λ (k : ℕ). k * rows) (sym (size-old h))

  pub size-told : words ≡ row_size words rows * rows → (words ≡ word_length * rows) ⊎ (words ≡ old_length * rows)
  size-told e = go size-either
    where
      go : EitherLength (row_size words rows) → (words ≡ word_length * rows) ⊎ (words ≡ old_length * rows)
      go (inl f) = inl (e ∙ ap (λ (k : ℕ). k * rows) f)
      go (inr f) = inr (e ∙ ap (λ (k : ℕ). k * rows) f)

-- row i is inside
pub row_inside : (size k : ℕ) (words : List ℕ) → length words ≡ size * k → (i : ℕ) → i < k → size * i + size ≤ length words
row_inside size k words long i h = omega (arith, mul-suc size i, mul-le-mul_left size h)

-- and the part that it is has the length of a word
pub part-either : {size : ℕ} → EitherLength size → (words : List ℕ) (i : ℕ) → size * i + size ≤ length words
    → EitherLength (length (take (size * i + size - size * i) (drop (size * i) words)))
part-either {size} either words i inside = subst EitherLength (sym (ap length (part_by size words i) ∙ length-by size words i inside)) either

-- ---- bytes of a word in full

bytes_full : (bytes : List ℕ) → Bytes bytes → Bytes (in_full bytes)
unfolding in_full
bytes_full bytes small = go (eqb (length bytes) old_length)
  where
    x : List ℕ
    x = filled_up plane_length (take old_plane_length bytes)

    z : List ℕ
    z = filled_up plane_length (drop old_plane_length bytes)

    go : (b : Bool) → Bytes (cond b (spread old_plane_length bytes) bytes)
    go true =
        bytes-append x z
        (filled-bytes plane_length (take old_plane_length bytes) (bytes_take old_plane_length bytes small))
        (filled-bytes plane_length (drop old_plane_length bytes) (bytes_drop old_plane_length bytes small))
    go false = small

-- ---- the list of the words in full

module _ (size : ℕ) where
  -- one row more: the first is there, and those behind it are k
  module _ (k : ℕ) (words : List ℕ) (long : length words ≡ size * suc k) where
    first-inside : size ≤ length words
    first-inside = omega (arith, mul-suc size k)

    first-long : length (take size words) ≡ size
    first-long = length-take-le size words first-inside

    behind-long : length (drop size words) ≡ size * k
    behind-long = omega (arith, mul-suc size k, length-drop size words)

  pub full-bytes : (k : ℕ) (words : List ℕ) → Bytes words → Bytes (in_full_by size k words)
  unfolding in_full_by
  full-bytes zero words small = tt
  full-bytes (suc k) words small =
      bytes-append (in_full (take size words)) (in_full_by size k (drop size words))
      (bytes_full (take size words) (bytes_take size words small))
      (full-bytes k (drop size words) (bytes_drop size words small))

  module _ (either : EitherLength size) where
    first-full : (k : ℕ) (words : List ℕ) → length words ≡ size * suc k → length (in_full (take size words)) ≡ word_length
    first-full k words long = full-length (take size words) (subst EitherLength (sym (first-long k words long)) either)

    pub full-long : (k : ℕ) (words : List ℕ) → length words ≡ size * k → length (in_full_by size k words) ≡ word_length * k
    unfolding in_full_by
    full-long zero words long = refl
    full-long (suc k) words long =
        let rest = full-long k (drop size words) (behind-long k words long) in
        let first = first-full k words long in
        omega (arith, length-append (in_full (take size words)) (in_full_by size k (drop size words)), mul-suc word_length k)

    -- row i is the word of row i in full
    pub full-row : (k : ℕ) (words : List ℕ) → length words ≡ size * k → (i : ℕ) → i < k → row_at (in_full_by size k words) i ≡ in_full (row_by size words i)
    unfolding in_full_by
    full-row zero words long i h = absurd (not-suc-le-zero h)
    full-row (suc k) words long zero h =
        row_first (in_full_by size (suc k) words)
        ∙ take_at (in_full (take size words)) (in_full_by size k (drop size words)) word_length (first-full k words long)
        ∙ ap in_full (sym (first_by size words))
    full-row (suc k) words long (suc i) h =
        sym (row-behind (in_full_by size (suc k) words) i)
        ∙ ap (λ (rows : List ℕ). row_at rows i) (drop_at (in_full (take size words)) (in_full_by size k (drop size words)) word_length (first-full k words long))
        ∙ full-row k (drop size words) (behind-long k words long) i (le_of_suc-le-suc h)
        ∙ ap in_full (behind-by size words i)

    -- rows are accepted of which no word has a bit above
    pub clear-accepted : {n k : ℕ} (words : List ℕ) → length words ≡ size * k → n ≤ max_sites → Bytes words → k ≤ max_rows
        → ((i : ℕ) → i < k → clear_above n (in_full (row_by size words i)) ≡ true) → AcceptedRows n (in_full_by size k words) k
    clear-accepted {n} {k} words long short small few clear = record { few = few; long = full_long; word = word }
      where
        full : List ℕ
        full = in_full_by size k words

        full_long : length full ≡ word_length * k
        full_long = full-long k words long

        word : (i : ℕ) → i < k → AcceptedWord n (row_at full i)
        word i h =
            let bytes = row-bytes full i (full-bytes k words small) (omega (arith, full_long)) in
            let planes =
            (and-eq-true_iff (clear_from n (take plane_length (row_at full i))) (clear_from n (drop plane_length (row_at full i)))).0
            (ap (clear_above n) (full-row k words long i h) ∙ clear i h)
            in
            record { sites = short; long = bytes.0; small = bytes.1; x_clear = planes.0; z_clear = planes.1 }

    -- where the rows are accepted, so is the word of row i in full
    pub row-accepted : {n k : ℕ} {bytes : List ℕ} (words : List ℕ) → length words ≡ size * k → AcceptedRows n (in_full_by size k words) k → (i : ℕ) → i < k
        → bytes ≡ in_full (row_by size words i) → AcceptedWord n bytes
    row-accepted {n} {k} words long ok i h e = subst (AcceptedWord n) (full-row k words long i h ∙ sym e) (ok.word i h)

-- a row of rows in full, as the part that it is, is its word in full
pub full_part : (size : ℕ) → size ≡ word_length → (words : List ℕ) (i : ℕ) → size * i + size ≤ length words
    → take (size * i + size - size * i) (drop (size * i) words) ≡ in_full (row_by size words i)
full_part size e words i inside = part_by size words i ∙ sym (full_same (row_by size words i) (length-by size words i inside ∙ e))

-- ---- rows in full stay

pub full_stays : (k : ℕ) (words : List ℕ) → length words ≡ word_length * k → in_full_by word_length k words ≡ words
unfolding in_full_by
full_stays zero [] long = refl
full_stays zero (x ∷ words) long = absurd (omega arith)
full_stays (suc k) words long =
    ap₂ ◌++◌
    (full_same (take word_length words) (first-long word_length k words long))
    (full_stays k (drop word_length words) (behind-long word_length k words long))
    ∙ take-append-drop word_length words
