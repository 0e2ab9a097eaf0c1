-- The rows turned one after the other, and what the lists hold of them.
-- The fact that carries it: one row more is put behind the kept rows, or is none of them (`next-kept`, `next-dropped`).
use Prim.Native.Nat.{ℕ, ◌+◌, ◌*◌, ◌≤◌, ◌<◌}
use mathlib.Core.Path.{◌≡◌, refl, sym, ap, ◌∙◌}
use mathlib.Core.Bool.{Bool, true, false, cond}
use mathlib.Core.List.{List, [], ◌∷◌, ◌++◌, map, append-nil}
use native.Mathlib.Decide.{ℕ_discrete}
use native.Mathlib.Numerals.{add-one}
use native.Mathlib.Omega.{arith}
use lib.IntN.{ℤ, pos}
use lib.ListN.{length, get_or, set, take, length-append, length-map, length-set, get_or-append}
use lib.Seq.{get_or_at, get_or-set_same, get_or-set_other, take-suc, length-take-le, take_all}
use Rattle.pauli_word.specs.Limits.{plane_length, word_length}
use Rattle.pauli_word.specs.Word.{Word}
use Rattle.pauli_word.specs.Bytes.{letters_in, bytes_of}
use Rattle.pauli_word.proofs.Words.{map-append, encode-length}
use Rattle.action.specs.Lists.{select}
use Rattle.action.specs.Permutation.{Generator}
use Rattle.action.specs.Sector.{keeps}
use Rattle.keyed.specs.Keyed.{renamed}
use Rattle.keyed.proofs.Folds.{select-append}
use Rattle.keyed.proofs.Tables.{get_d_map}
use Rattle.row_lists.specs.Rows.{max_rows, row_at, with_row, rows_in}
use Rattle.row_lists.proofs.Rows.{with_row_length, with_row_same, with_row_other}
use Rattle.row_lists.proofs.RowsIn.{rows-length, rows_at}
use Rattle.projection.specs.Projection.{Parts, no_parts, kept_rows, turned_row}
use Rattle.projection.proofs.Projected.{counts-add}
use Rattle.project.specs.Calls.{input_rows}
use Rattle.project.specs.Rows.{turned_rows, TurnedRows}

-- ---- the input rows

module _ (n : ℕ) (words : List ℕ) (cs : List ℤ) where
  -- row i: the letters of its word, and its coefficient
  abbrev pub row_of : ℕ → Word × ℤ
  row_of i = (letters_in n (row_at words i), get_or cs i (pos 0))

  pub input-length : length (input_rows n words cs) ≡ length cs
  unfolding input_rows
  input-length = length-map (rows_in words cs) (renamed (letters_in n)) ∙ rows-length words cs

  pub input-at : (i : ℕ) (d : Word × ℤ) → i < length cs → get_or (input_rows n words cs) i d ≡ row_of i
  unfolding input_rows
  input-at i d h =
      get_d_map (renamed (letters_in n)) (rows_in words cs) i d ([], pos 0) (omega (arith, rows-length words cs))
      ∙ ap (renamed (letters_in n)) (rows_at words cs i (pos 0) ([], pos 0) h)

  pub input-next : (i : ℕ) → i < length cs → take (i + 1) (input_rows n words cs) ≡ take i (input_rows n words cs) ++ (row_of i ∷ [])
  input-next i h =
      ap (λ (k : ℕ). take k (input_rows n words cs)) (add-one i)
      ∙ take-suc (input_rows n words cs) i (row_of i) (omega (arith, input-length))
      ∙ ap (λ (row : Word × ℤ). take i (input_rows n words cs) ++ (row ∷ [])) (input-at i (row_of i) h)

  pub input-all : (i : ℕ) → length cs ≤ i → take i (input_rows n words cs) ≡ input_rows n words cs
  input-all i h = take_all i (input_rows n words cs) (omega (arith, input-length))

-- ---- one row more

module _ (cosines sines : List ℤ) (gs : List Generator) (ks : List ℤ) (rows : List (Word × ℤ)) (row : Word × ℤ) where
  kept_append : kept_rows gs ks (rows ++ (row ∷ [])) ≡ kept_rows gs ks rows ++ kept_rows gs ks (row ∷ [])
  unfolding kept_rows
  kept_append = select-append (λ r. keeps gs ks r.0) rows (row ∷ [])

  turned-append : turned_rows cosines sines gs ks (rows ++ (row ∷ [])) ≡ turned_rows cosines sines gs ks rows ++ turned_rows cosines sines gs ks (row ∷ [])
  turned-append =
      ap (map (turned_row cosines sines gs ks)) kept_append ∙ map-append (turned_row cosines sines gs ks) (kept_rows gs ks rows) (kept_rows gs ks (row ∷ []))

  pub next-kept : keeps gs ks row.0 ≡ true
      → turned_rows cosines sines gs ks (rows ++ (row ∷ [])) ≡ turned_rows cosines sines gs ks rows ++ (turned_row cosines sines gs ks row ∷ [])
  unfolding kept_rows select
  next-kept k =
      turned-append ∙ ap (λ (b : Bool). turned_rows cosines sines gs ks rows ++ map (turned_row cosines sines gs ks) (cond b (row ∷ []) [])) k

  pub next-dropped : keeps gs ks row.0 ≡ false → turned_rows cosines sines gs ks (rows ++ (row ∷ [])) ≡ turned_rows cosines sines gs ks rows
  unfolding kept_rows select
  next-dropped k =
      turned-append
      ∙ ap (λ (b : Bool). turned_rows cosines sines gs ks rows ++ map (turned_row cosines sines gs ks) (cond b (row ∷ []) [])) k
      ∙ append-nil (turned_rows cosines sines gs ks rows)

-- no more rows are kept than there are
pub turned_few : (cosines sines : List ℤ) (gs : List Generator) (ks : List ℤ) (rows : List (Word × ℤ)) → length (turned_rows cosines sines gs ks rows) ≤ length rows
turned_few cosines sines gs ks rows =
    let e = length-map (kept_rows gs ks rows) (turned_row cosines sines gs ks) in
    omega (arith, counts-add gs ks rows)

-- ---- the lists

pub no_rows : (words : List ℕ) (xs ys : List ℤ) → TurnedRows [] words xs ys
no_rows words xs ys = record { word = λ j h. absurd (omega arith); cosine = λ j h. absurd (omega arith); sine = λ j h. absurd (omega arith) }

module _ {rows : List (Word × Parts)} {words : List ℕ} {xs ys : List ℤ} (held : TurnedRows rows words xs ys) (t : Word × Parts) where
  module _ (room : word_length * length rows + word_length ≤ length words) (room_x : length rows < length xs) (room_y : length rows < length ys)
      (long : length (bytes_of t.0) ≡ word_length) where
    -- what holds of the rows before, and of the one behind them
    put : {A : Type 0} (before now : ℕ → A) (of : Word × Parts → A) → ((j : ℕ) → j < length rows → before j ≡ of (get_or rows j ([], no_parts)))
        → now (length rows) ≡ of t → ((j : ℕ) → (j ≡ length rows → ⊥) → now j ≡ before j)
        → (j : ℕ) → j < length (rows ++ (t ∷ [])) → now j ≡ of (get_or (rows ++ (t ∷ [])) j ([], no_parts))
    put before now of old here others j h = go (ℕ_discrete j (length rows))
      where
        go : Dec (j ≡ length rows) → now j ≡ of (get_or (rows ++ (t ∷ [])) j ([], no_parts))
        go (yes e) = ap now e ∙ here ∙ ap of (sym (get_or_at rows t [] ([], no_parts) j (sym e)))
        go (no n) =
            let l : j < length rows = omega (arith, length-append rows (t ∷ [])) in
            others j n ∙ old j l ∙ ap of (sym (get_or-append rows (t ∷ []) ([], no_parts) j l))

    pub put-row : TurnedRows (rows ++ (t ∷ [])) (with_row words (length rows) (bytes_of t.0)) (set xs (length rows) t.1.0) (set ys (length rows) t.1.1)
    put-row =
        record {
          word =
              put (row_at words) (row_at (with_row words (length rows) (bytes_of t.0))) (λ r. bytes_of r.0) held.word
              (with_row_same words (length rows) room (bytes_of t.0) long) (with_row_other words (length rows) room (bytes_of t.0) long);
          cosine =
              put (λ j. get_or xs j (pos 0)) (λ j. get_or (set xs (length rows) t.1.0) j (pos 0)) (λ r. r.1.0) held.cosine
              (get_or-set_same xs (length rows) t.1.0 (pos 0) room_x) (λ j n. get_or-set_other xs (length rows) j t.1.0 (pos 0) n);
          sine =
              put (λ j. get_or ys j (pos 0)) (λ j. get_or (set ys (length rows) t.1.1) j (pos 0)) (λ r. r.1.1) held.sine
              (get_or-set_same ys (length rows) t.1.1 (pos 0) room_y) (λ j n. get_or-set_other ys (length rows) j t.1.1 (pos 0) n);
        }

-- ---- the loop over the rows

-- the kept rows of the first i, turned
abbrev pub turned_first : ℕ → List Generator → List ℤ → List ℕ → List ℤ → List ℤ → List ℤ → ℕ → List (Word × Parts)
turned_first n gs ks words cs cosines sines i = turned_rows cosines sines gs ks (take i (input_rows n words cs))

-- the kept rows of the first i are turned, and stand in the lists
pub record Turning (n : ℕ) (gs : List Generator) (ks : List ℤ) (words : List ℕ) (cs cosines sines : List ℤ) (i kept : ℕ) (out : List ℕ) (xs ys : List ℤ) : Type 0 where
  pub upto : i ≤ length cs
  pub out_long : length out ≡ word_length * length cs
  pub xs_long : length xs ≡ max_rows
  pub ys_long : length ys ≡ max_rows
  pub many : kept ≡ length (turned_first n gs ks words cs cosines sines i)
  pub held : TurnedRows (turned_first n gs ks words cs cosines sines i) out xs ys

module _ {n : ℕ} {gs : List Generator} {ks : List ℤ} {words : List ℕ} {cs cosines sines : List ℤ} {out : List ℕ} {xs ys : List ℤ} where
  pub turning-start : length out ≡ word_length * length cs → length xs ≡ max_rows → length ys ≡ max_rows → Turning n gs ks words cs cosines sines 0 0 out xs ys
  unfolding kept_rows select
  turning-start long xs_long ys_long =
      record { upto = omega arith; out_long = long; xs_long = xs_long; ys_long = ys_long; many = refl; held = no_rows out xs ys }

  module _ {i kept : ℕ} (t : Turning n gs ks words cs cosines sines i kept out xs ys) where
    pub turning-end : length cs ≤ i
        → (kept ≡ length (turned_rows cosines sines gs ks (input_rows n words cs)))
        × TurnedRows (turned_rows cosines sines gs ks (input_rows n words cs)) out xs ys
    turning-end h =
        let all : take i (input_rows n words cs) ≡ input_rows n words cs = input-all n words cs i h in (
          t.many ∙ ap (λ (rows : List (Word × ℤ)). length (turned_rows cosines sines gs ks rows)) all,
          rw all at t.held,
        )

    module _ (more : i < length cs) (few : length cs ≤ max_rows) where
      kept-before : kept ≤ i
      kept-before =
          let long = length-take-le i (input_rows n words cs) (omega (arith, input-length n words cs)) in
          omega (arith, t.many, turned_few cosines sines gs ks (take i (input_rows n words cs)))

      pub out-room : word_length * kept + word_length ≤ length out
      out-room = omega (arith, t.out_long, kept-before)

      pub kept_small : kept < max_rows
      kept_small = omega (arith, kept-before)

      turning-dropped : keeps gs ks (row_of n words cs i).0 ≡ false → Turning n gs ks words cs cosines sines (i + 1) kept out xs ys
      turning-dropped k =
          let same : turned_first n gs ks words cs cosines sines (i + 1) ≡ turned_first n gs ks words cs cosines sines i =
          ap (turned_rows cosines sines gs ks) (input-next n words cs i more)
          ∙ next-dropped cosines sines gs ks (take i (input_rows n words cs)) (row_of n words cs i) k in
          record {
            upto = omega arith;
            out_long = t.out_long;
            xs_long = t.xs_long;
            ys_long = t.ys_long;
            many = t.many ∙ sym (ap length same);
            held = rw same t.held;
          }

      turning-kept : {bytes : List ℕ} {x y : ℤ} → keeps gs ks (row_of n words cs i).0 ≡ true
          → let row = turned_row cosines sines gs ks (row_of n words cs i) in
          bytes ≡ bytes_of row.0 → x ≡ row.1.0 → y ≡ row.1.1
          → Turning n gs ks words cs cosines sines (i + 1) (kept + 1) (with_row out kept bytes) (set xs kept x) (set ys kept y)
      turning-kept k eb ex ey =
          let row : Word × Parts = turned_row cosines sines gs ks (row_of n words cs i) in
          let before : List (Word × Parts) = turned_first n gs ks words cs cosines sines i in
          let next : turned_first n gs ks words cs cosines sines (i + 1) ≡ before ++ (row ∷ []) =
          ap (turned_rows cosines sines gs ks) (input-next n words cs i more)
          ∙ next-kept cosines sines gs ks (take i (input_rows n words cs)) (row_of n words cs i) k in
          let long : length (bytes_of row.0) ≡ word_length = encode-length plane_length row.0 in
          rw (eb, ex, ey)
          record {
            upto = omega arith;
            out_long = with_row_length out kept out-room (bytes_of row.0) long ∙ t.out_long;
            xs_long = length-set xs kept row.1.0 ∙ t.xs_long;
            ys_long = length-set ys kept row.1.1 ∙ t.ys_long;
            many = omega (arith, t.many, ap length next, length-append before (row ∷ []));
            held =
                rw (next, t.many)
                (put-row t.held row (rw t.many at out-room) (omega (arith, t.xs_long, t.many, kept_small)) (omega (arith, t.ys_long, t.many, kept_small)) long);
          }

      -- the next row, as it is kept or not
      pub turning-next :
          {bytes : List ℕ} {x y : ℤ} {kept' : ℕ} {out' : List ℕ} {xs' ys' : List ℤ} (b : Bool) → b ≡ keeps gs ks (row_of n words cs i).0
          → let row = turned_row cosines sines gs ks (row_of n words cs i) in
          (b ≡ true → (bytes ≡ bytes_of row.0) × (x ≡ row.1.0) × (y ≡ row.1.1))
          → kept' ≡ cond b (kept + 1) kept → out' ≡ cond b (with_row out kept bytes) out → xs' ≡ cond b (set xs kept x) xs → ys' ≡ cond b (set ys kept y) ys
          → Turning n gs ks words cs cosines sines (i + 1) kept' out' xs' ys'
      turning-next true e same ek eo e1 e2 = let (eb, ex, ey) = same refl in rw (ek, eo, e1, e2) (turning-kept (sym e) eb ex ey)
      turning-next false e same ek eo e1 e2 = rw (ek, eo, e1, e2) (turning-dropped (sym e))
