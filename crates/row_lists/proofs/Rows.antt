-- Rows of a list: the part that a row is, of any number of bytes; and of words in full, what is at each row once one is written over or two are
-- exchanged.
use Prim.Native.Nat.{ℕ, suc, ◌+◌, ◌-◌, ◌*◌, ◌≤◌}
use mathlib.Core.Path.{◌≡◌, sym, ap, ap₂, ◌∙◌}
use mathlib.Core.Logic.{◌≢◌}
use mathlib.Core.List.{List, ◌++◌, append_assoc}
use native.Mathlib.Decide.{ℕ_discrete}
use native.Mathlib.Nat.{add-sub_cancel_left, mul-zero, mul-suc}
use native.Mathlib.Omega.{arith, ne_cases}
use lib.ListN.{length, take, drop, length-append, length-drop, take-append-drop}
use lib.Seq.{length-take-le, take_at, drop_at, drop-drop, drop-append-le, take-append-le}
use Rattle.pauli_word.specs.Limits.{word_length}
use Rattle.pauli_word.specs.Bytes.{Bytes}
use Rattle.pauli_word.proofs.Words.{bytes_take, bytes_drop}
use Rattle.row_lists.specs.Rows.{row_by, row_at, with_row, rows_swapped}

-- ---- m members from place s on, written over

module _ {A : Type 0} (m s : ℕ) (bs xs : List A) where
  abbrev over : List A
  over = take s xs ++ (bs ++ drop (s + m) xs)

  module _ (long : length bs ≡ m) (room : s + m ≤ length xs) where
    over-length : length over ≡ length xs
    over-length = simp (length-append, length-drop, length-take-le s xs (omega arith)) (omega arith)

    over-same : take m (drop s over) ≡ bs
    over-same =
        rw (drop_at (take s xs) (bs ++ drop (s + m) xs) s (length-take-le s xs (omega arith)), take_at bs (drop (s + m) xs) m long)

    over-after : (t : ℕ) → s + m ≤ t → drop t over ≡ drop t xs
    over-after t h =
        let front : List A = take s xs ++ bs in
        let far : s + m + (t - (s + m)) ≡ t = omega arith in
        let front_long : length front ≡ s + m = simp (length-append, length-take-le s xs (omega arith)) (omega arith) in
        rw (← far, ← drop-drop (t - (s + m)) (s + m) over, ← drop-drop (t - (s + m)) (s + m) xs)
        (ap (drop (t - (s + m))) (ap (drop (s + m)) (sym (append_assoc (take s xs) bs (drop (s + m) xs))) ∙ drop_at front (drop (s + m) xs) (s + m) front_long))

    over-before : (n t : ℕ) → t + n ≤ s → take n (drop t over) ≡ take n (drop t xs)
    over-before n t h = first (bs ++ drop (s + m) xs) ∙ sym (first (drop s xs)) ∙ ap (λ (l : List A). take n (drop t l)) (take-append-drop s xs)
      where
        first : (rest : List A) → take n (drop t (take s xs ++ rest)) ≡ take n (drop t (take s xs))
        first rest =
            let short : length (take s xs) ≡ s = length-take-le s xs (omega arith) in
            rw (drop-append-le t (take s xs) rest (omega arith), take-append-le n (drop t (take s xs)) rest (omega (arith, length-drop t (take s xs))))

-- ---- rows of `size` bytes

pub first_by : (size : ℕ) (words : List ℕ) → row_by size words 0 ≡ take size words
unfolding row_by
first_by size words = ap (λ (k : ℕ). take size (drop k words)) (mul-zero size)

module _ (size : ℕ) (words : List ℕ) (i : ℕ) where
  -- the part of a list from where row i begins to where it ends is row i
  pub part_by : take (size * i + size - size * i) (drop (size * i) words) ≡ row_by size words i
  unfolding row_by
  part_by = ap (λ (k : ℕ). take k (drop (size * i) words)) (add-sub_cancel_left (size * i) size)

  -- the rows behind the first
  pub behind-by : row_by size (drop size words) i ≡ row_by size words (suc i)
  unfolding row_by
  behind-by =
      let one : size + size * i ≡ size * suc i = omega (arith, mul-suc size i) in
      ap (take size) (drop-drop (size * i) size words ∙ ap (λ (k : ℕ). drop k words) one)

  pub length-by : size * i + size ≤ length words → length (row_by size words i) ≡ size
  unfolding row_by
  length-by inside = length-take-le size (drop (size * i) words) (omega (arith, length-drop (size * i) words))

-- ---- rows of words in full

pub row_first : (words : List ℕ) → row_at words 0 ≡ take word_length words
unfolding row_at row_by
row_first words = first_by word_length words

pub part-row : (words : List ℕ) (i : ℕ) → take (word_length * i + word_length - word_length * i) (drop (word_length * i) words) ≡ row_at words i
unfolding row_at row_by
part-row words i = part_by word_length words i

-- and a row written over that part is written over row i
pub part-written : (words : List ℕ) (i : ℕ) (bytes : List ℕ)
    → take (word_length * i) words ++ (bytes ++ drop (word_length * i + word_length - word_length * i) (drop (word_length * i) words)) ≡ with_row words i bytes
unfolding with_row
part-written words i bytes =
    ap (λ (l : List ℕ). take (word_length * i) words ++ (bytes ++ l))
    (ap (λ (k : ℕ). drop k (drop (word_length * i) words)) (add-sub_cancel_left (word_length * i) word_length) ∙ drop-drop word_length (word_length * i) words)

pub row-behind : (words : List ℕ) (i : ℕ) → row_at (drop word_length words) i ≡ row_at words (suc i)
unfolding row_at row_by
row-behind words i = behind-by word_length words i

module _ (words : List ℕ) (row : ℕ) (inside : word_length * row + word_length ≤ length words) where
  pub row-length : length (row_at words row) ≡ word_length
  unfolding row_at row_by
  row-length = length-by word_length words row inside

  module _ (bytes : List ℕ) (long : length bytes ≡ word_length) where
    pub with_row_length : length (with_row words row bytes) ≡ length words
    unfolding with_row
    with_row_length = over-length word_length (word_length * row) bytes words long inside

    pub with_row_same : row_at (with_row words row bytes) row ≡ bytes
    unfolding with_row row_at
    with_row_same = over-same word_length (word_length * row) bytes words long inside

    pub with_row_other : (j : ℕ) → j ≢ row → row_at (with_row words row bytes) j ≡ row_at words j
    unfolding with_row row_at
    with_row_other j apart =
        ne_cases j row (row_at (with_row words row bytes) j ≡ row_at words j) apart
        (λ h. over-before word_length (word_length * row) bytes words long inside word_length (word_length * j) (omega arith))
        (λ h. ap (take word_length) (over-after word_length (word_length * row) bytes words long inside (word_length * j) (omega arith)))

-- the bytes of a word
abbrev pub RowBytes : List ℕ → Type 0
RowBytes b = (length b ≡ word_length) × Bytes b

front_bytes : (words : List ℕ) → Bytes words → word_length ≤ length words → RowBytes (take word_length words)
front_bytes words small l = (length-take-le word_length words l, bytes_take word_length words small)

pub row-bytes : (words : List ℕ) (i : ℕ) → Bytes words → word_length * i + word_length ≤ length words → RowBytes (row_at words i)
unfolding row_at
row-bytes words i small l =
    front_bytes (drop (word_length * i) words) (bytes_drop (word_length * i) words small) (omega (arith, length-drop (word_length * i) words))

-- ---- two exchanged

-- what was at a is at b, what was at b is at a, and the others stay
pub record Exchanged {A : Type 0} (before after : ℕ → A) (a b : ℕ) : Type 0 where
  pub here : after a ≡ before b
  pub there : after b ≡ before a
  pub others : (j : ℕ) → j ≢ a → j ≢ b → after j ≡ before j

-- first a is written over, and then b
written-exchanged :
    {A : Type 0} (before once after : ℕ → A) (a b : ℕ)
    → once a ≡ before b → ((j : ℕ) → j ≢ a → once j ≡ before j) → after b ≡ before a → ((j : ℕ) → j ≢ b → after j ≡ once j)
    → Exchanged before after a b
written-exchanged before once after a b first first_others last last_others =
    record { here = here (ℕ_discrete a b); there = last; others = λ j n m. last_others j m ∙ first_others j n }
  where
    here : Dec (a ≡ b) → after a ≡ before b
    here (yes e) = ap after e ∙ last ∙ ap before e
    here (no n) = last_others a n ∙ first

-- rows read, and written over one after the other
pub rows_swapped_lem :
    (words : List ℕ) (a b : ℕ) {left right once twice : List ℕ}
    → left ≡ row_at words a → right ≡ row_at words b → once ≡ with_row words a right → twice ≡ with_row once b left → twice ≡ rows_swapped words a b
unfolding rows_swapped
rows_swapped_lem words a b l r o t = t ∙ ap₂ (λ (w x : List ℕ). with_row w b x) (o ∙ ap (with_row words a) r) l

module _ (words : List ℕ) (a b : ℕ) (h : word_length * a + word_length ≤ length words) (k : word_length * b + word_length ≤ length words) where
  abbrev once : List ℕ
  once = with_row words a (row_at words b)

  once-length : length once ≡ length words
  once-length = with_row_length words a h (row_at words b) (row-length words b k)

  once-inside : word_length * b + word_length ≤ length once
  once-inside = omega (arith, once-length)

  pub rows_swapped-length : length (rows_swapped words a b) ≡ length words
  unfolding rows_swapped
  rows_swapped-length = with_row_length once b once-inside (row_at words a) (row-length words a h) ∙ once-length

  pub rows_swapped-exchanged : Exchanged (row_at words) (row_at (rows_swapped words a b)) a b
  unfolding rows_swapped
  rows_swapped-exchanged =
      written-exchanged (row_at words) (row_at once) (row_at (rows_swapped words a b)) a b
      (with_row_same words a h (row_at words b) (row-length words b k))
      (with_row_other words a h (row_at words b) (row-length words b k))
      (with_row_same once b once-inside (row_at words a) (row-length words a h))
      (with_row_other once b once-inside (row_at words a) (row-length words a h))
