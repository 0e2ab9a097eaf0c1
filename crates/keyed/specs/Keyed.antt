-- Rows folded by their keys. A row is a key and a content. The table of rows has each key once, in rising order, and with it the fold of the
-- contents of the rows that have this key, in the order of the rows.
use Rattle.std.specs.Prelude.{ℕ, zero, suc, ◌≡◌, Bool, true, false, cond, List, [], ◌∷◌, ◌++◌, map, ltb, eqb, get_or, take, drop}
use Rattle.action.specs.Lists.{below, select}

-- how rows are folded: the order and the equality of keys, what a fold starts from, and how it takes a content
pub record Fold (K C S : Type 0) : Type 0 where
  pub less : K → K → Bool
  pub same : K → K → Bool
  pub start : S
  pub step : S → C → S

-- a strict order, and keys that pass P are equal if neither is less
pub record Orders {K : Type 0} (P : K → Type 0) (less : K → K → Bool) : Type 0 where
  pub irrefl : (a : K) → less a a ≡ false
  pub trans : (a b c : K) → less a b ≡ true → less b c ≡ true → less a c ≡ true
  pub total : (a b : K) → P a → P b → less a b ≡ false → less b a ≡ false → a ≡ b

-- a test of equality
pub record Equality {K : Type 0} (same : K → K → Bool) : Type 0 where
  pub reflexive : (a : K) → same a a ≡ true
  pub equal : (a b : K) → same a b ≡ true → a ≡ b

-- ---- keys in rising order

-- each key less than the next
abbrev pub Rising : {K : Type 0} → (K → K → Bool) → List K → Type 0
Rising less [] = Unit {0}
Rising less (a ∷ []) = Unit {0}
Rising less (a ∷ b ∷ ks) = (less a b ≡ true) × Rising less (b ∷ ks)

-- a key put into its place among keys in rising order; a key that stands there is not put in again
unfoldable pub insert_key : {K : Type 0} → (K → K → Bool) → K → List K → List K
insert_key less k [] = k ∷ []
insert_key less k (j ∷ js) = let later = insert_key less k js in cond (less j k) (j ∷ later) (cond (less k j) (k ∷ j ∷ js) (j ∷ js))

-- keys put in one after the other
unfoldable pub insert_all : {K : Type 0} → (K → K → Bool) → List K → List K → List K
unfolding insert_key
insert_all less js [] = js
insert_all less js (k ∷ ks) = insert_all less (insert_key less k js) ks

-- the different keys of a list, in rising order
unfoldable pub rising : {K : Type 0} → (K → K → Bool) → List K → List K
unfolding insert_all
rising less ks = insert_all less [] ks

-- where a key stands among keys in rising order, or where it would be put in
pub data Slot : Type 0 where
  found : ℕ → Slot
  free : ℕ → Slot

abbrev pub next_slot : Slot → Slot
next_slot (found i) = found (suc i)
next_slot (free i) = free (suc i)

unfoldable pub slot_of : {K : Type 0} → (K → K → Bool) → K → List K → Slot
slot_of less k [] = free 0
slot_of less k (j ∷ js) = let later = next_slot (slot_of less k js) in cond (less j k) later (cond (less k j) (free 0) (found 0))

-- a list with a member put in before place i
abbrev pub insert_at : {A : Type 0} → ℕ → A → List A → List A
insert_at i a xs = take i xs ++ (a ∷ drop i xs)

-- ---- the fold by key

abbrev pub key_of : {K C : Type 0} → K × C → K
key_of row = row.0

-- a row with its key put through a function
abbrev pub renamed : {K J C : Type 0} → (K → J) → K × C → J × C
renamed φ row = (φ row.0, row.1)

-- the contents of the rows with key k, in the order of the rows
unfoldable pub contents_of : {K C S : Type 0} → Fold K C S → K → List (K × C) → List C
unfolding select
contents_of f k rows = map (λ row. row.1) (select (λ row. f.same row.0 k) rows)

-- the left fold of a list
unfoldable pub left_fold : {C S : Type 0} → (S → C → S) → S → List C → S
left_fold step s [] = s
left_fold step s (c ∷ cs) = left_fold step (step s c) cs

-- what key k comes to over rows
unfoldable pub fold_key : {K C S : Type 0} → Fold K C S → K → List (K × C) → S
unfolding left_fold contents_of
fold_key f k rows = left_fold f.step f.start (contents_of f k rows)

-- each key once, in rising order, with what it comes to
unfoldable pub table_of : {K C S : Type 0} → Fold K C S → List (K × C) → List (K × S)
unfolding rising fold_key
table_of f rows = map (λ k. (k, fold_key f k rows)) (rising f.less (map key_of rows))

-- what the key of each row comes to with that row, after the rows that are seen
unfoldable pub running_from : {K C S : Type 0} → Fold K C S → List (K × C) → List (K × C) → List S
unfolding fold_key
running_from f seen [] = []
running_from f seen (row ∷ rows) = let now = seen ++ (row ∷ []) in fold_key f row.0 now ∷ running_from f now rows

-- what the key of each row comes to with that row
abbrev pub running : {K C S : Type 0} → Fold K C S → List (K × C) → List S
running f rows = running_from f [] rows

-- the place of the first member that fails a test
unfoldable pub first_failing : {A : Type 0} → (A → Bool) → List A → ℕ
first_failing p [] = 0
first_failing p (a ∷ xs) = let later = suc (first_failing p xs) in cond (p a) later 0

-- ---- the fold by place: keys that are places of a list

-- a fold whose keys are places
abbrev pub by_place : {C S : Type 0} → S → (S → C → S) → Fold ℕ C S
by_place start step = record { less = ltb; same = eqb; start = start; step = step }

-- the first k contents of a list, each with the place that the other list has for it; d is no content
unfoldable pub placed : {C : Type 0} → C → List ℕ → List C → ℕ → List (ℕ × C)
placed d places cs zero = []
placed d places cs (suc k) = placed d places cs k ++ ((get_or places k 0, get_or cs k d) ∷ [])

-- what each place below n comes to
unfoldable pub place_values : {C S : Type 0} → Fold ℕ C S → ℕ → List (ℕ × C) → List S
unfolding fold_key below
place_values f n rows = map (λ k. fold_key f k rows) (below n)
