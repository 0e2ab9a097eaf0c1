-- What the table of projected sums holds: its words, in rising order, and with each the sums of its kept rows along the two lists.
-- The fact that carries it: what a word comes to is the fold over the kept rows whose representative it is (`contents-of`).
use Prim.Native.Nat.{ℕ, ◌+◌, ◌≤◌, ◌<◌}
use native.Mathlib.Omega.{arith}
use mathlib.Core.Path.{◌≡◌, refl, sym, ◌∙◌, ap, ap₂}
use mathlib.Core.Logic.{◌↔◌, inl, inr}
use mathlib.Core.Bool.{Bool, true, false, ◌&&◌, not}
use mathlib.Core.List.{List, [], ◌∷◌, map, map-map}
use lib.IntN.{ℤ, pos, ◌+ℤ◌, ◌*ℤ◌, *ℤ_comm, zero-*ℤ}
use lib.ListN.{length, get_or, replicate, length-map}
use Rattle.pauli_word.specs.Word.{I, Word, less, same}
use Rattle.action.specs.Lists.{Member, select}
use Rattle.action.specs.Permutation.{Generator, Valid}
use Rattle.action.specs.Orbit.{least}
use Rattle.action.specs.Sector.{keeps}
use Rattle.action.proofs.Lists.{member-map, of-member-map, member-select, of-member-select, length-le}
use Rattle.action.proofs.Canonical.{least-in-orbit, least-length, least-own}
use Rattle.action.proofs.Kept.{keeps-orbit}
use Rattle.keyed.specs.Keyed.{Rising, rising, key_of, contents_of, left_fold, fold_key}
use Rattle.keyed.proofs.Rising.{rising-rising, rising-member, rising_above, rising_no_repeats, of-rising-member}
use Rattle.keyed.proofs.Tables.{map-cong, table-keys, table-value}
use Rattle.keyed.proofs.Commuting.{fold_through, contents-mapped}
use Rattle.keyed.proofs.WordKeys.{word_orders, blank-less}
use Rattle.projection.specs.Projection.{
  Parts,
  no_parts,
  add_parts,
  entry_of,
  turned,
  kept_rows,
  dropped_rows,
  turned_row,
  rows_of,
  sum_along,
  sum_of,
  part_sums,
  projected,
}
use Rattle.projection.proofs.Integers.{product-of-sum}
use Rattle.projection.proofs.Entries.{word-zero-modes}

-- ---- selected members

module _ {A : Type 0} where
  -- two tests, one after the other, are one test
  select-both : (p q : A → Bool) (xs : List A) → select p (select q xs) ≡ select (λ a. q a && p a) xs
  unfolding select
  select-both p q [] = refl
  select-both p q (a ∷ xs) = go (q a) refl (p a) refl (select-both p q xs)
    where
      go : (s : Bool) → q a ≡ s → (t : Bool) → p a ≡ t → select p (select q xs) ≡ select (λ b. q b && p b) xs
          → select p (select q (a ∷ xs)) ≡ select (λ b. q b && p b) (a ∷ xs)
      go true e true f later = rw (e, f) (ap (λ (l : List A). a ∷ l) later)
      go true e false f later = rw (e, f) later
      go false e t f later = rw e later

  -- each member passes a test or fails it
  select-parts : (p : A → Bool) (xs : List A) → length (select p xs) + length (select (λ a. not (p a)) xs) ≡ length xs
  unfolding select
  select-parts p [] = refl
  select-parts p (a ∷ xs) = go (p a) refl (select-parts p xs)
    where
      go : (t : Bool) → p a ≡ t → length (select p xs) + length (select (λ b. not (p b)) xs) ≡ length xs
          → length (select p (a ∷ xs)) + length (select (λ b. not (p b)) (a ∷ xs)) ≡ length (a ∷ xs)
      go true e later = rw e (omega arith)
      go false e later = rw e (omega arith)

  member-some : (a : A) (xs : List A) → Member a xs → 0 < length xs
  member-some a [] m = absurd m
  member-some a (b ∷ xs) m = omega arith

-- ---- counts

-- each row is kept or dropped
pub counts-add :
    {C : Type 0} (gs : List Generator) (ks : List ℤ) (rows : List (Word × C))
    → length (kept_rows gs ks rows) + length (dropped_rows gs ks rows) ≡ length rows
unfolding kept_rows dropped_rows
counts-add gs ks rows = select-parts (λ row. keeps gs ks row.0) rows

-- the rows of a word are some of all rows
pub rows_few : {C : Type 0} (gs : List Generator) (ks : List ℤ) (v : Word) (rows : List (Word × C)) → length (rows_of gs ks v rows) ≤ length rows
unfolding rows_of
rows_few gs ks v rows = omega (arith, select-parts (λ row. keeps gs ks row.0 && same (least gs row.0) v) rows)

-- ---- modes that are all 0

-- rows add their coefficients, each times the number at entry 0
sum-zero_modes :
    (gs : List Generator) (ks : List ℤ) → ((k : ℤ) → Member k ks → k ≡ pos 0)
    → (numbers : List ℤ) (rows : List (Word × ℤ)) → sum_along numbers gs ks rows ≡ get_or numbers 0 (pos 0) *ℤ sum_of rows
unfolding sum_along sum_of
sum-zero_modes gs ks zeros numbers rows =
    ap (left_fold ◌+ℤ◌ (pos 0))
    (map-cong (λ row. row.1 *ℤ get_or numbers (entry_of gs ks row.0) (pos 0)) (λ row. times row.1) rows
    (λ row m. ap (λ (e : ℕ). row.1 *ℤ get_or numbers e (pos 0)) (word-zero-modes gs ks zeros row.0))
    ∙ sym (map-map times (λ row. row.1) rows))
    ∙ ap (λ (z : ℤ). left_fold ◌+ℤ◌ z (map times (map (λ row. row.1) rows))) (sym (zero-*ℤ (get_or numbers 0 (pos 0))))
    ∙ sym (fold_through ◌+ℤ◌ ◌+ℤ◌ times times (λ s x. product-of-sum x (get_or numbers 0 (pos 0)) s) (pos 0) (map (λ row. row.1) rows))
    ∙ *ℤ_comm (sum_of rows) (get_or numbers 0 (pos 0))
  where
    times : ℤ → ℤ
    times x = x *ℤ get_or numbers 0 (pos 0)

-- ---- the table

module _ (cosines sines : List ℤ) (gs : List Generator) (ks : List ℤ) (rows : List (Word × ℤ)) where
  abbrev row_of : Word × ℤ → Word × Parts
  row_of = turned_row cosines sines gs ks

  abbrev input : List (Word × Parts)
  input = map row_of (kept_rows gs ks rows)

  abbrev table : List (Word × Parts)
  table = projected cosines sines gs ks rows

  -- ---- the words

  table-words : map key_of table ≡ rising less (map key_of input)
  unfolding projected
  table-words = table-keys part_sums input

  -- the words stand in rising order
  pub projected-rising : Rising less (map key_of table)
  projected-rising = rw table-words (rising-rising less (map key_of input))

  -- v is the representative of a kept row
  abbrev Represents : Word → Type 0
  Represents v = (row : Word × ℤ) × Member row rows × (keeps gs ks row.0 ≡ true) × (v ≡ least gs row.0)

  input-words : (v : Word) → Member v (map key_of input) ↔ Represents v
  unfolding turned_row kept_rows
  input-words v = (there, back)
    where
      there : Member v (map key_of input) → Represents v
      there m =
          let (made, n, e) = of-member-map key_of input v m in
          let (row, l, f) = of-member-map row_of (kept_rows gs ks rows) made n in
          let (k, kept) = of-member-select (λ row. keeps gs ks row.0) rows row l in
          (row, k, kept, e ∙ ap key_of f)

      back : Represents v → Member v (map key_of input)
      back r =
          let (row, m, kept, e) = r in
          rw e
          (member-map key_of input (row_of row)
          (member-map row_of (kept_rows gs ks rows) row (member-select (λ row. keeps gs ks row.0) rows row m kept)))

  -- ---- the sums

  -- what a row adds
  abbrev adds : Word × ℤ → Parts
  adds row = turned cosines sines (entry_of gs ks row.0) row.1

  contents-of : (v : Word) → contents_of part_sums v input ≡ map adds (rows_of gs ks v rows)
  unfolding turned_row rows_of kept_rows
  contents-of v =
      contents-mapped part_sums v row_of (kept_rows gs ks rows)
      ∙ ap (map adds) (select-both (λ row. same (least gs row.0) v) (λ row. keeps gs ks row.0) rows)

  -- one part of the sum of what rows add
  part-summed :
      (part : Parts → ℤ) → ((p q : Parts) → part (add_parts p q) ≡ part p +ℤ part q) → (xs : List (Word × ℤ))
      → part (left_fold add_parts no_parts (map adds xs)) ≡ left_fold ◌+ℤ◌ (part no_parts) (map (λ row. part (adds row)) xs)
  part-summed part e xs =
      fold_through add_parts ◌+ℤ◌ part part e no_parts (map adds xs) ∙ ap (left_fold ◌+ℤ◌ (part no_parts)) (map-map part adds xs)

  -- the sum of each word is that of its rows, along the cosines and along the sines
  pub projected-sum : (v : Word) (p : Parts) → Member (v, p) table
      → p ≡ (sum_along cosines gs ks (rows_of gs ks v rows), sum_along sines gs ks (rows_of gs ks v rows))
  unfolding projected fold_key sum_along turned
  projected-sum v p m =
      table-value part_sums input v p m
      ∙ ap (left_fold add_parts no_parts) (contents-of v)
      ∙ ap₂ (λ (x y : ℤ). (x, y)) (part-summed (λ q. q.0) (λ p q. refl) (rows_of gs ks v rows))
      (part-summed (λ q. q.1) (λ p q. refl) (rows_of gs ks v rows))

  -- if the modes are all 0 and entry 0 is a unit of cosine and no sine, each word has the sum of the coefficients of its rows, in units
  pub projected-zero-modes :
      ((k : ℤ) → Member k ks → k ≡ pos 0) → (unit : ℤ) → get_or cosines 0 (pos 0) ≡ unit → get_or sines 0 (pos 0) ≡ pos 0
      → (v : Word) (p : Parts) → Member (v, p) table → p ≡ (unit *ℤ sum_of (rows_of gs ks v rows), pos 0)
  projected-zero-modes zeros unit c s v p m =
      let own : List (Word × ℤ) = rows_of gs ks v rows in
      projected-sum v p m
      ∙ ap₂ (λ (x y : ℤ). (x, y)) (sum-zero_modes gs ks zeros cosines own ∙ ap (λ (x : ℤ). x *ℤ sum_of own) c)
      (sum-zero_modes gs ks zeros sines own ∙ ap (λ (x : ℤ). x *ℤ sum_of own) s ∙ zero-*ℤ (sum_of own))

  -- ---- valid generators, and words of their sites

  module _ {n : ℕ} (valid : Valid n gs) (long : (row : Word × ℤ) → Member row rows → length row.0 ≡ n) where
    -- each representative has the letters of the sites
    pub input-long : (v : Word) → Member v (map key_of input) → length v ≡ n
    input-long v m = let (row, l, kept, e) = (input-words v).0 m in ap length e ∙ least-length valid row.0 ∙ long row l

    table-input : (v : Word) → Member v (map key_of table) ↔ Member v (map key_of input)
    table-input v = (
      λ m. of-rising-member less (map key_of input) v (rw table-words at m),
      λ m. rw table-words (rising-member (word_orders n) (map key_of input) input-long v m),
    )

    -- the words are the representatives of the kept rows
    pub projected-words : (v : Word) → Member v (map key_of table) ↔ Represents v
    projected-words v = (λ m. (input-words v).0 ((table-input v).0 m), λ r. (table-input v).1 ((input-words v).1 r))

    -- each word is the least of its own orbit
    pub projected-own : (v : Word) → Member v (map key_of table) → least gs v ≡ v
    projected-own v m =
        let (row, l, kept, e) = (projected-words v).0 m in
        rw e (least-own valid row.0 (long row l))

    -- the modes keep each word
    pub projected-kept : (v : Word) → Member v (map key_of table) → keeps gs ks v ≡ true
    projected-kept v m =
        let (row, l, kept, e) = (projected-words v).0 m in
        rw e (keeps-orbit valid row.0 (long row l) ks (least gs row.0) (least-in-orbit valid row.0) ∙ kept)

    -- each word has the letters of the sites
    pub projected-long : (v : Word) → Member v (map key_of table) → length v ≡ n
    projected-long v m = input-long v ((table-input v).0 m)

    -- the table has no more rows than are kept
    pub projected-few : length table ≤ length (kept_rows gs ks rows)
    projected-few =
        omega (
          arith,
          length-le (map key_of table) (map key_of input) (rising_no_repeats (word_orders n) (map key_of table) projected-rising) (λ v. (table-input v).0),
          length-map table key_of,
          length-map input key_of,
          length-map (kept_rows gs ks rows) row_of,
        )

    -- and none exactly if none is kept
    pub projected-none : (length table ≡ 0) ↔ (length (kept_rows gs ks rows) ≡ 0)
    projected-none = (λ none. go (kept_rows gs ks rows) refl none, λ none. omega (arith, projected-few))
      where
        go : (kept : List (Word × ℤ)) → kept_rows gs ks rows ≡ kept → length table ≡ 0 → length (kept_rows gs ks rows) ≡ 0
        go [] e none = ap length e
        go (row ∷ later) e none =
            let v : Word = (row_of row).0 in
            let some : 0 < length (map key_of table) = member-some v (map key_of table) ((table-input v).1 (rw e (inl refl))) in
            absurd (omega (arith, some, length-map table key_of))

    -- only the first word may be the word of I alone, which is the least
    pub projected-later :
        (first : Word × Parts) (later : List (Word × Parts)) → table ≡ first ∷ later
        → (v : Word) → Member v (map key_of later) → less (replicate n I) v ≡ true
    projected-later first later e v m =
        blank-less n first.0 v (projected-long v (rw e (inr m)))
        (rising_above (word_orders n) first.0 (map key_of later) (rw e at projected-rising) v m)
