-- What a key comes to over rows, as rows are appended, and the first place where a test fails.
-- The fact that carries it: the contents of a key over appended rows are its contents appended (`contents-append`).
use Prim.Native.Nat.{ℕ, zero, suc, ◌≤◌, ◌<◌, suc-le-suc}
use native.Mathlib.Nat.{le_of_suc-le-suc, not-suc-le-zero}
use native.Mathlib.Omega.{arith}
use mathlib.Core.Path.{◌≡◌, refl, sym, ◌∙◌, ap}
use mathlib.Core.Logic.{inl, inr}
use mathlib.Core.Bool.{Bool, true, false, ◌&&◌, cond, false≢true, and-false, and-eq-true_iff}
use mathlib.Core.List.{List, [], ◌∷◌, ◌++◌, map, append-nil}
use lib.ListN.{length, get_or, take, drop, length-map}
use lib.Seq.{append_snoc, split_at, take-suc, length-take-le, get_or_at}
use Rattle.pauli_word.proofs.Words.{map-append}
use Rattle.action.specs.Lists.{Member, select, count, every}
use Rattle.action.proofs.Lists.{every_append, of-member-map, count-pos, count-select}
use Rattle.keyed.specs.Keyed.{Fold, Equality, key_of, contents_of, left_fold, fold_key, running_from, running, first_failing}

-- what holds of no member, and of one member more at the end, holds of every list
module _ {A : Type 0} (Q : List A → Type 0) (next : (xs : List A) (a : A) → Q xs → Q (xs ++ (a ∷ []))) where
  onward : (rest seen : List A) → Q seen → Q (seen ++ rest)
  onward [] seen h = rw (append-nil seen) h
  onward (a ∷ rest) seen h = rw (append_snoc seen a rest) at (onward rest (seen ++ (a ∷ [])) (next seen a h))

  pub by_last : Q [] → (xs : List A) → Q xs
  by_last h xs = onward xs [] h

pub left_fold-append : {C S : Type 0} (step : S → C → S) (s : S) (cs ds : List C) → left_fold step s (cs ++ ds) ≡ left_fold step (left_fold step s cs) ds
unfolding left_fold
left_fold-append step s [] ds = refl
left_fold-append step s (c ∷ cs) ds = left_fold-append step (step s c) cs ds

module _ {A : Type 0} (p : A → Bool) where
  pub select-append : (xs ys : List A) → select p (xs ++ ys) ≡ select p xs ++ select p ys
  unfolding select
  select-append [] ys = refl
  select-append (a ∷ xs) ys = go (p a) (select-append xs ys)
    where
      go : (t : Bool) → select p (xs ++ ys) ≡ select p xs ++ select p ys
          → cond t (a ∷ select p (xs ++ ys)) (select p (xs ++ ys)) ≡ cond t (a ∷ select p xs) (select p xs) ++ select p ys
      go true e = ap (λ (l : List A). a ∷ l) e
      go false e = e

  -- ---- a test of all members, and the first that fails it

  pub every-failing : (xs : List A) (a : A) (ys : List A) → p a ≡ false → every p (xs ++ (a ∷ ys)) ≡ false
  unfolding every
  every-failing xs a ys e = every_append p xs (a ∷ ys) ∙ rw e (and-false (every p xs))

  pub first_failing-at :
      (xs : List A) (a : A) (ys : List A) → every p xs ≡ true → p a ≡ false
      → first_failing p (xs ++ (a ∷ ys)) ≡ length xs
  unfolding first_failing every
  first_failing-at [] a ys h e = rw e
  first_failing-at (b ∷ xs) a ys h e =
      let k = (and-eq-true_iff (p b) (every p xs)).0 h in
      rw k.0 (ap suc (first_failing-at xs a ys k.1 e))

  -- the place is inside, the member there fails, and each member before it passes
  pub first_failing_first :
      (xs : List A) (d : A) → every p xs ≡ false
      → (first_failing p xs < length xs) × (p (get_or xs (first_failing p xs) d) ≡ false)
      × ((j : ℕ) → j < first_failing p xs → p (get_or xs j d) ≡ true)
  unfolding first_failing every
  first_failing_first [] d h = absurd (false≢true (sym h))
  first_failing_first (a ∷ xs) d h = go (p a) refl h (first_failing_first xs d)
    where
      First : List A → ℕ → Type 0
      First ys i = (i < length ys) × (p (get_or ys i d) ≡ false) × ((j : ℕ) → j < i → p (get_or ys j d) ≡ true)

      next : (i : ℕ) → p a ≡ true → First xs i → (j : ℕ) → j < suc i → p (get_or (a ∷ xs) j d) ≡ true
      next i e r zero l = e
      next i e r (suc j) l = r.2 j (le_of_suc-le-suc l)

      go : (t : Bool) → p a ≡ t → (t && every p xs) ≡ false → (every p xs ≡ false → First xs (first_failing p xs))
          → First (a ∷ xs) (cond t (suc (first_failing p xs)) 0)
      go true e f later = let r = later f in (suc-le-suc r.0, r.1, next (first_failing p xs) e r)
      go false e f later = (omega arith, e, λ j l. absurd (not-suc-le-zero l))

-- ---- what a key comes to

pub not_same : {K : Type 0} {same : K → K → Bool} → Equality same → (a b : K) → (a ≡ b → ⊥) → same a b ≡ false
not_same {same = same} q a b n = go (same a b) refl
  where
    go : (t : Bool) → same a b ≡ t → t ≡ false
    go true e = absurd (n (q.equal a b e))
    go false e = refl

module _ {K C S : Type 0} (f : Fold K C S) where
  pub contents-append : (k : K) (xs ys : List (K × C)) → contents_of f k (xs ++ ys) ≡ contents_of f k xs ++ contents_of f k ys
  unfolding contents_of
  contents-append k xs ys =
      let own : K × C → Bool = λ row. f.same row.0 k in
      ap (map (λ (row : K × C). row.1)) (select-append own xs ys)
      ∙ map-append (λ (row : K × C). row.1) (select own xs) (select own ys)

  pub contents-length : (k : K) (rows : List (K × C)) → length (contents_of f k rows) ≡ count (λ row. f.same row.0 k) rows
  unfolding contents_of
  contents-length k rows =
      length-map (select (λ row. f.same row.0 k) rows) (λ row. row.1) ∙ sym (count-select (λ row. f.same row.0 k) rows)

  pub contents-few : (k : K) (rows : List (K × C)) → length (contents_of f k rows) ≤ length rows
  unfolding contents_of select
  contents-few k [] = omega arith
  contents-few k (row ∷ rows) = go (f.same row.0 k) refl (contents-few k rows)
    where
      go : (t : Bool) → f.same row.0 k ≡ t → length (contents_of f k rows) ≤ length rows → length (contents_of f k (row ∷ rows)) ≤ length (row ∷ rows)
      go true e h = rw e (omega arith)
      go false e h = rw e (omega arith)

  pub fold-append : (k : K) (xs ys : List (K × C)) → fold_key f k (xs ++ ys) ≡ left_fold f.step (fold_key f k xs) (contents_of f k ys)
  unfolding fold_key
  fold-append k xs ys =
      ap (left_fold f.step f.start) (contents-append k xs ys)
      ∙ left_fold-append f.step f.start (contents_of f k xs) (contents_of f k ys)

  -- a row with key k, and a row with another key
  module _ (k : K) (rows : List (K × C)) (row : K × C) where
    pub fold_same : f.same row.0 k ≡ true → fold_key f k (rows ++ (row ∷ [])) ≡ f.step (fold_key f k rows) row.1
    unfolding contents_of select left_fold
    fold_same e = fold-append k rows (row ∷ []) ∙ rw e refl

    pub fold-other : f.same row.0 k ≡ false → fold_key f k (rows ++ (row ∷ [])) ≡ fold_key f k rows
    unfolding contents_of select left_fold
    fold-other e = fold-append k rows (row ∷ []) ∙ rw e refl

  module _ (q : Equality f.same) where
    pub fold-own : (rows : List (K × C)) (row : K × C) → fold_key f row.0 (rows ++ (row ∷ [])) ≡ f.step (fold_key f row.0 rows) row.1
    fold-own rows row = fold_same row.0 rows row (q.reflexive row.0)

    pub contents-none : (k : K) (rows : List (K × C)) → (Member k (map key_of rows) → ⊥) → contents_of f k rows ≡ []
    unfolding contents_of select
    contents-none k [] n = refl
    contents-none k (row ∷ rows) n = rw (not_same q row.0 k (λ e. n (inl (sym e)))) (contents-none k rows (λ m. n (inr m)))

    pub fold-none : (k : K) (rows : List (K × C)) → (Member k (map key_of rows) → ⊥) → fold_key f k rows ≡ f.start
    unfolding fold_key left_fold
    fold-none k rows n = ap (left_fold f.step f.start) (contents-none k rows n)

    pub contents-some : (k : K) (rows : List (K × C)) → Member k (map key_of rows) → 0 < length (contents_of f k rows)
    contents-some k rows m =
        let (row, n, e) = of-member-map key_of rows k m in
        rw (contents-length k rows) (count-pos (λ row. f.same row.0 k) rows row n (ap (f.same row.0) e ∙ q.reflexive row.0))

  -- ---- row by row

  running_from-length : (seen rows : List (K × C)) → length (running_from f seen rows) ≡ length rows
  unfolding running_from
  running_from-length seen [] = refl
  running_from-length seen (row ∷ rows) = ap suc (running_from-length (seen ++ (row ∷ [])) rows)

  pub running-length : (rows : List (K × C)) → length (running f rows) ≡ length rows
  running-length = running_from-length []

  pub running_from-append : (seen xs ys : List (K × C)) → running_from f seen (xs ++ ys) ≡ running_from f seen xs ++ running_from f (seen ++ xs) ys
  unfolding running_from
  running_from-append seen [] ys = ap (λ (l : List (K × C)). running_from f l ys) (sym (append-nil seen))
  running_from-append seen (row ∷ xs) ys =
      let now : List (K × C) = seen ++ (row ∷ []) in
      ap (λ (l : List S). fold_key f row.0 now ∷ l)
      (running_from-append now xs ys ∙ ap (λ (l : List (K × C)). running_from f now xs ++ running_from f l ys) (append_snoc seen row xs))

  pub running-split :
      (seen : List (K × C)) (row : K × C) (rest : List (K × C))
      → running f (seen ++ (row ∷ rest))
      ≡ running f seen ++ (fold_key f row.0 (seen ++ (row ∷ [])) ∷ running_from f (seen ++ (row ∷ [])) rest)
  unfolding running_from
  running-split seen row rest = running_from-append [] seen (row ∷ rest)

  pub running-next :
      (seen : List (K × C)) (row : K × C)
      → running f (seen ++ (row ∷ [])) ≡ running f seen ++ (fold_key f row.0 (seen ++ (row ∷ [])) ∷ [])
  unfolding running_from
  running-next seen row = running-split seen row []

  -- what the key of row i comes to over the rows up to and with row i
  pub running-at : (rows : List (K × C)) (i : ℕ) (d : S) (r : K × C) → i < length rows
      → get_or (running f rows) i d ≡ fold_key f (get_or rows i r).0 (take (suc i) rows)
  running-at rows i d r h =
      let row : K × C = get_or rows i r in
      let seen : List (K × C) = take i rows in
      let here : length (running f seen) ≡ i = running-length seen ∙ length-take-le i rows (omega arith) in
      ap (λ (l : List (K × C)). get_or (running f l) i d) (split_at rows i r h)
      ∙ ap (λ (l : List S). get_or l i d) (running-split seen row (drop (suc i) rows))
      ∙ get_or_at (running f seen) (fold_key f row.0 (seen ++ (row ∷ []))) (running_from f (seen ++ (row ∷ [])) (drop (suc i) rows)) d i here
      ∙ ap (fold_key f row.0) (sym (take-suc rows i r h))
