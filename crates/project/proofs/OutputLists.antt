-- The output lists, row by row: the rows of the table, and zeros after them; and where the table ends.
-- The fact that carries it: the list of words is the bytes of the rows, and of words of I alone after them, one after the other (`words-joined`).
use Prim.Native.Nat.{ℕ, zero, suc, ◌+◌, ◌-◌, ◌*◌, ◌≤◌, ◌<◌, suc-le-suc}
use native.Mathlib.Nat.{le_of_suc-le-suc, not-suc-le-zero}
use native.Mathlib.Omega.{arith}
use mathlib.Core.Path.{◌≡◌, refl, sym, ap, ap₂, ◌∙◌}
use mathlib.Core.Logic.{inr}
use mathlib.Core.Bool.{Bool, true, false, false≢true}
use mathlib.Core.List.{List, [], ◌∷◌, ◌++◌, map, map-map, append_assoc}
use lib.Dec.{ltb}
use lib.IntN.{pos}
use lib.ListN.{
  length,
  get_or,
  replicate,
  length-append,
  length-map,
  length-replicate,
  get_or-append,
  get_or-map,
  get_or-replicate,
  replicate-append-replicate,
}
use lib.Seq.{take_at, drop_at, get_or-append-add}
use borrow.Author.Tests.{ltb-true, ltb-false}
use Rattle.pauli_word.specs.Limits.{max_sites, plane_length, word_length}
use Rattle.pauli_word.specs.Word.{I, Word, less}
use Rattle.pauli_word.specs.Bytes.{encode, plane_of, number, bytes_of}
use Rattle.pauli_word.proofs.Words.{encode-length, encode-blank, encoded-decode}
use Rattle.pauli_word.proofs.WordOrder.{less_irrefl}
use Rattle.action.specs.Lists.{Member}
use Rattle.action.proofs.Lists.{member-map, member_at}
use Rattle.keyed.specs.Keyed.{key_of, renamed}
use Rattle.row_lists.specs.Rows.{row_at, join_rows}
use Rattle.row_lists.proofs.Rows.{row-behind}
use Rattle.row_words.specs.Words.{words_filled, filled}
use Rattle.projection.specs.Projection.{Parts, no_parts}
use Rattle.project.specs.Promises.{OutputLists}

-- ---- a list filled up

module _ {R A : Type 0} (part : R → A) (d : R) (k : ℕ) (table : List R) where
  abbrev full : List A
  full = filled (part d) part k table

  full-length : length table ≤ k → length full ≡ k
  full-length h = simp (length-append, length-map, length-replicate) (omega arith)

  full-held : (j : ℕ) → j < length table → get_or full j (part d) ≡ part (get_or table j d)
  full-held j h =
      get_or-append (map part table) (replicate (k - length table) (part d)) (part d) j (rw (length-map table part) h)
      ∙ get_or-map part table j d

  full-blank : (j : ℕ) → length table ≤ j → j < k → get_or full j (part d) ≡ part d
  full-blank j h l =
      let place : length (map part table) + (j - length table) ≡ j = omega (arith, length-map table part) in
      ap (λ (i : ℕ). get_or full i (part d)) (sym place)
      ∙ get_or-append-add (map part table) (replicate (k - length table) (part d)) (j - length table) (part d)
      ∙ get_or-replicate (k - length table) (j - length table) (part d) (part d) (omega arith)

-- ---- rows one after the other

joined_at :
    (rows : List (List ℕ)) (d : List ℕ) → ((i : ℕ) → i < length rows → length (get_or rows i d) ≡ word_length)
    → (j : ℕ) → j < length rows → row_at (join_rows rows) j ≡ get_or rows j d
unfolding join_rows row_at
joined_at [] d long j h = absurd (not-suc-le-zero h)
joined_at (r ∷ rows) d long zero h = take_at r (join_rows rows) word_length (long 0 h)
joined_at (r ∷ rows) d long (suc j) h =
    sym (row-behind (r ++ join_rows rows) j)
    ∙ ap (λ (l : List ℕ). row_at l j) (drop_at r (join_rows rows) word_length (long 0 (omega arith)))
    ∙ joined_at rows d (λ i l. long (suc i) (suc-le-suc l)) j (le_of_suc-le-suc h)

joined-append : (xs ys : List (List ℕ)) → join_rows (xs ++ ys) ≡ join_rows xs ++ join_rows ys
unfolding join_rows
joined-append [] ys = refl
joined-append (x ∷ xs) ys = ap (λ (l : List ℕ). x ++ l) (joined-append xs ys) ∙ sym (append_assoc x (join_rows xs) (join_rows ys))

-- the bytes of a word of no letters, and of one of I alone, are zeros
pub blank-bytes : bytes_of [] ≡ replicate word_length 0
unfolding encode plane_of number
blank-bytes = refl

joined-blank : (n : ℕ) → join_rows (replicate n (bytes_of [])) ≡ replicate (word_length * n) 0
unfolding join_rows
joined-blank zero = refl
joined-blank (suc n) =
    let more : word_length + word_length * n ≡ word_length * suc n = omega arith in
    ap₂ ◌++◌ blank-bytes (joined-blank n) ∙ replicate-append-replicate word_length (word_length * n) 0 ∙ ap (λ (m : ℕ). replicate m 0) more

-- ---- the lists of a table

module _ (k : ℕ) (table : List (Word × Parts)) (few : length table ≤ k) where
  abbrev none : Word × Parts
  none = ([], no_parts)

  abbrev bytes : Word × Parts → List ℕ
  bytes row = bytes_of row.0

  words-joined : words_filled k (map (renamed bytes_of) table) ≡ join_rows (full bytes none k table)
  words-joined =
      let room : word_length * k - word_length * length (map (renamed bytes_of) table) ≡ word_length * (k - length table) =
      omega (arith, length-map table (renamed bytes_of))
      in
      ap₂ (λ (l : List (List ℕ)) (m : ℕ). join_rows l ++ replicate m 0) (map-map key_of (renamed bytes_of) table) room
      ∙ ap (λ (l : List ℕ). join_rows (map bytes table) ++ l) (sym (joined-blank (k - length table)))
      ∙ sym (joined-append (map bytes table) (replicate (k - length table) (bytes_of [])))

  full-long : (j : ℕ) → j < k → length (get_or (full bytes none k table) j (bytes_of [])) ≡ word_length
  full-long j h = go (ltb j (length table)) refl
    where
      go : (b : Bool) → ltb j (length table) ≡ b → length (get_or (full bytes none k table) j (bytes_of [])) ≡ word_length
      go true l = ap length (full-held bytes none k table j (ltb-true j (length table) l)) ∙ encode-length plane_length (get_or table j none).0
      go false l = ap length (full-blank bytes none k table j (ltb-false j (length table) l) h) ∙ encode-length plane_length []

  row_is : (j : ℕ) → j < k → row_at (words_filled k (map (renamed bytes_of) table)) j ≡ get_or (full bytes none k table) j (bytes_of [])
  row_is j h =
      let long = full-length bytes none k table few in
      ap (λ (l : List ℕ). row_at l j) words-joined
      ∙ joined_at (full bytes none k table) (bytes_of []) (λ i l. full-long i (rw long at l)) j (rw long h)

  row-held : (j : ℕ) → j < length table → row_at (words_filled k (map (renamed bytes_of) table)) j ≡ bytes_of (get_or table j none).0
  row-held j h = row_is j (omega arith) ∙ full-held bytes none k table j h

  -- ---- words of n letters, of which only the first may be of I alone

  module _ (n : ℕ) (sites : n ≤ max_sites) (long : (v : Word) → Member v (map key_of table) → length v ≡ n)
      (later : (first : Word × Parts) (rest : List (Word × Parts)) → table ≡ first ∷ rest
      → (v : Word) → Member v (map key_of rest) → less (replicate n I) v ≡ true) where
    -- a word of zeros is of I alone
    letters-blank : (v : Word) → length v ≡ n → bytes_of v ≡ replicate word_length 0 → v ≡ replicate n I
    letters-blank v e z =
        sym (encoded-decode plane_length v e sites refl)
        ∙ encoded-decode plane_length (replicate n I) (length-replicate n I) sites (z ∙ sym (encode-blank plane_length n ∙ blank-bytes))

    word-apart : (rows : List (Word × Parts)) → table ≡ rows → (j : ℕ) → 0 < j → j < length rows
        → bytes_of (get_or rows j none).0 ≡ replicate word_length 0 → ⊥
    word-apart [] e j p h z = not-suc-le-zero h
    word-apart (first ∷ rest) e zero p h z = not-suc-le-zero p
    word-apart (first ∷ rest) e (suc i) p h z =
        let v : Word = (get_or rest i none).0 in
        let m : Member v (map key_of rest) = member-map key_of rest (get_or rest i none) (member_at rest none i (le_of_suc-le-suc h)) in
        let blank : v ≡ replicate n I = letters-blank v (long v (rw e (inr m))) z in
        false≢true (sym (less_irrefl v) ∙ ap (λ (u : Word). less u v) blank ∙ later first rest e v m)

    pub lists-hold :
        OutputLists table k (words_filled k (map (renamed bytes_of) table)) (filled (pos 0) (λ row. row.1.0) k table)
        (filled (pos 0) (λ row. row.1.1) k table)
    lists-hold = record {
      word = row-held;
      cosine = full-held (λ row. row.1.0) none k table;
      sine = full-held (λ row. row.1.1) none k table;
      no_word = λ j h l. row_is j l ∙ full-blank bytes none k table j h l ∙ blank-bytes;
      no_cosine = full-blank (λ row. row.1.0) none k table;
      no_sine = full-blank (λ row. row.1.1) none k table;
      apart = λ j p h z. word-apart table refl j p h (sym (row-held j h) ∙ z);
    }
