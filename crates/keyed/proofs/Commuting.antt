-- Folds and tables for any key, and any step that commutes with itself: the order of the contents does not matter, and two rows of one key may be one.
-- The fact that carries it: a table is its keys and what each comes to (`table-equal`), and a list in rising order is its members (`rising-unique`).
use mathlib.Core.Path.{◌≡◌, refl, sym, ◌∙◌, ap, ap₂}
use mathlib.Core.Logic.{◌⊎◌, ◌↔◌, inl, inr, ⊎_elim}
use mathlib.Core.Bool.{Bool, true, false, false≢true}
use mathlib.Core.List.{List, [], ◌∷◌, ◌++◌, map, map-map, append_assoc}
use Rattle.pauli_word.proofs.Words.{map-append}
use Rattle.action.specs.Lists.{Member, select}
use Rattle.action.proofs.Lists.{member-append-left, member-append-right, of-member-append}
use Rattle.keyed.specs.Keyed.{Fold, Orders, Rising, rising, key_of, contents_of, left_fold, fold_key, table_of}
use Rattle.keyed.proofs.Rising.{rising-tail, rising-rising, rising-member, rising_above, of-rising-member}
use Rattle.keyed.proofs.Folds.{contents-append}
use Rattle.keyed.proofs.Tables.{map-cong, keys_of, value_of}

-- ---- folds

-- a function that turns one step into another turns the fold into the other's
pub fold_through :
    {C S D T : Type 0} (step : S → C → S) (walk : T → D → T) (h : S → T) (g : C → D) → ((s : S) (c : C) → h (step s c) ≡ walk (h s) (g c))
    → (s : S) (cs : List C) → h (left_fold step s cs) ≡ left_fold walk (h s) (map g cs)
unfolding left_fold
fold_through step walk h g e s [] = refl
fold_through step walk h g e s (c ∷ cs) = fold_through step walk h g e (step s c) cs ∙ ap (λ t. left_fold walk t (map g cs)) (e s c)

module _ {K C S : Type 0} (f : Fold K C S) (k : K) (row : K × C) (rows : List (K × C)) where
  -- a row with key k, and a row with another key
  contents-own : f.same row.0 k ≡ true → contents_of f k (row ∷ rows) ≡ row.1 ∷ contents_of f k rows
  unfolding contents_of select
  contents-own e = rw e refl

  contents-other : f.same row.0 k ≡ false → contents_of f k (row ∷ rows) ≡ contents_of f k rows
  unfolding contents_of select
  contents-other e = rw e refl

module _ {A K C S : Type 0} (f : Fold K C S) (k : K) (g : A → K × C) where
  abbrev Mapped : List A → Type 0
  Mapped xs = contents_of f k (map g xs) ≡ map (λ a. (g a).1) (select (λ a. f.same (g a).0 k) xs)

  -- the contents of a key, of rows that a function makes
  pub contents-mapped : (xs : List A) → Mapped xs
  unfolding contents_of select
  contents-mapped [] = refl
  contents-mapped (a ∷ xs) = go (f.same (g a).0 k) refl (contents-mapped xs)
    where
      go : (t : Bool) → f.same (g a).0 k ≡ t → Mapped xs → Mapped (a ∷ xs)
      go true e later = rw e (ap (λ (l : List C). (g a).1 ∷ l) later)
      go false e later = rw e later

-- a function that turns one step into another turns the table into the other's
module _ {K C S D T : Type 0} (f : Fold K C S) (start : T) (walk : T → D → T) (h : S → T) (g : C → D)
    (starts : h f.start ≡ start) (steps : (s : S) (c : C) → h (f.step s c) ≡ walk (h s) (g c)) where
  abbrev through : Fold K D T
  through = record { less = f.less; same = f.same; start = start; step = walk }

  abbrev carried : K × C → K × D
  carried row = (row.0, g row.1)

  key-through : (k : K) (rows : List (K × C)) → fold_key through k (map carried rows) ≡ h (fold_key f k rows)
  unfolding fold_key contents_of
  key-through k rows =
      ap (left_fold walk start) (contents-mapped through k carried rows ∙ sym (map-map g (λ row. row.1) (select (λ row. f.same row.0 k) rows)))
      ∙ ap (λ (t : T). left_fold walk t (map g (contents_of f k rows))) (sym starts)
      ∙ sym (fold_through f.step walk h g steps f.start (contents_of f k rows))

  pub table-through : (rows : List (K × C)) → table_of through (map carried rows) ≡ map (λ row. (row.0, h row.1)) (table_of f rows)
  unfolding table_of
  table-through rows =
      ap (λ (ks : List K). map (value_of through (map carried rows)) (rising f.less ks)) (map-map key_of carried rows)
      ∙ map-cong (value_of through (map carried rows)) (λ k. (k, h (fold_key f k rows))) (keys_of f rows) (λ k m. ap (λ (t : T). (k, t)) (key-through k rows))
      ∙ sym (map-map (λ row. (row.0, h row.1)) (value_of f rows) (keys_of f rows))

-- ---- keys in rising order

module _ {K : Type 0} {P : K → Type 0} {less : K → K → Bool} (o : Orders P less) where
  -- two lists in rising order with the same members are one
  pub rising-unique :
      (js ks : List K) → Rising less js → Rising less ks → ((a : K) → Member a js → Member a ks) → ((a : K) → Member a ks → Member a js)
      → js ≡ ks
  rising-unique [] [] r s h g = refl
  rising-unique [] (b ∷ ks) r s h g = absurd (g b (inl refl))
  rising-unique (a ∷ js) [] r s h g = absurd (h a (inl refl))
  rising-unique (a ∷ js) (b ∷ ks) r s h g =
      ap₂ ◌∷◌ first
      (rising-unique js ks (rising-tail less a js r) (rising-tail less b ks s)
      (λ c m. behind c b ks (rising_above o a js r c m) first (h c (inr m)))
      (λ c m. behind c a js (rising_above o b ks s c m) (sym first) (g c (inr m))))
    where
      -- a key is not before itself
      never : (c d : K) → less c d ≡ true → c ≡ d → ⊥
      never c d e f = false≢true (sym (o.irrefl d) ∙ rw f at e)

      heads : (a ≡ b) ⊎ Member a ks → (b ≡ a) ⊎ Member b js → a ≡ b
      heads (inl e) n = e
      heads (inr m) (inl e) = sym e
      heads (inr m) (inr n) = absurd (never a a (o.trans a b a (rising_above o a js r b n) (rising_above o b ks s a m)) refl)

      first : a ≡ b
      first = heads (h a (inl refl)) (g b (inl refl))

      behind : (c d : K) {e : K} (ls : List K) → less e c ≡ true → e ≡ d → (c ≡ d) ⊎ Member c ls → Member c ls
      behind c d {e} ls l f (inl i) = absurd (never e c l (f ∙ sym i))
      behind c d ls l f (inr m) = m

module _ {A : Type 0} where
  -- what stands behind a list may be exchanged for what has the member too
  member-behind : (a : A) (xs ys zs : List A) → (Member a ys → Member a zs) → Member a (xs ++ ys) → Member a (xs ++ zs)
  member-behind a [] ys zs h m = h m
  member-behind a (x ∷ xs) ys zs h (inl e) = inl e
  member-behind a (x ∷ xs) ys zs h (inr m) = inr (member-behind a xs ys zs h m)

  -- a member that stands twice may be left out once
  member-twice : (a b : A) (xs ys zs : List A) → Member a (xs ++ (b ∷ (ys ++ (b ∷ zs)))) ↔ Member a (xs ++ (b ∷ (ys ++ zs)))
  member-twice a b xs ys zs = (
    member-behind a xs (b ∷ (ys ++ (b ∷ zs))) (b ∷ (ys ++ zs)) less_one,
    member-behind a xs (b ∷ (ys ++ zs)) (b ∷ (ys ++ (b ∷ zs))) (λ m. ⊎_elim (λ e. inl e) (λ n. inr (member-behind a ys zs (b ∷ zs) (λ l. inr l) n)) m),
  )
    where
      second : Member a ys ⊎ Member a (b ∷ zs) → Member a (b ∷ (ys ++ zs))
      second (inl m) = inr (member-append-left ys zs a m)
      second (inr (inl e)) = inl e
      second (inr (inr m)) = inr (member-append-right ys zs a m)

      less_one : Member a (b ∷ (ys ++ (b ∷ zs))) → Member a (b ∷ (ys ++ zs))
      less_one (inl e) = inl e
      less_one (inr m) = second (of-member-append ys (b ∷ zs) a m)

module _ {K C S : Type 0} {P : K → Type 0} (f : Fold K C S) (o : Orders P f.less) where
  -- rows with the same keys, of which each comes to the same, have one table
  pub table-equal :
      (xs ys : List (K × C)) → ((a : K) → Member a (map key_of xs) → P a) → ((a : K) → Member a (map key_of xs) ↔ Member a (map key_of ys))
      → ((k : K) → fold_key f k xs ≡ fold_key f k ys) → table_of f xs ≡ table_of f ys
  unfolding table_of
  table-equal xs ys ps keys e =
      ap (map (value_of f xs)) one ∙ map-cong (value_of f xs) (value_of f ys) (keys_of f ys) (λ k m. ap (λ (s : S). (k, s)) (e k))
    where
      one : keys_of f xs ≡ keys_of f ys
      one =
          rising-unique o (keys_of f xs) (keys_of f ys) (rising-rising f.less (map key_of xs)) (rising-rising f.less (map key_of ys))
          (λ a m. rising-member o (map key_of ys) (λ b n. ps b ((keys b).1 n)) a ((keys a).0 (of-rising-member f.less (map key_of xs) a m)))
          (λ a m. rising-member o (map key_of xs) ps a ((keys a).1 (of-rising-member f.less (map key_of ys) a m)))

-- ---- a step that commutes with itself

module _ {C S : Type 0} (step : S → C → S) (commutes : (s : S) (c d : C) → step (step s c) d ≡ step (step s d) c) where
  -- a content may be taken first: so the order of the contents does not matter
  pub fold-order : (s : S) (cs : List C) (d : C) (ds : List C) → left_fold step s (cs ++ (d ∷ ds)) ≡ left_fold step (step s d) (cs ++ ds)
  unfolding left_fold
  fold-order s [] d ds = refl
  fold-order s (c ∷ cs) d ds = fold-order (step s c) cs d ds ∙ ap (λ (t : S). left_fold step t (cs ++ ds)) (commutes s c d)

  -- two contents may be one, if the one does what both do
  pub fold-joined :
      (a b c : C) → ((s : S) → step (step s a) b ≡ step s c) → (s : S) (xs ys zs : List C)
      → left_fold step s (xs ++ (a ∷ (ys ++ (b ∷ zs)))) ≡ left_fold step s (xs ++ (c ∷ (ys ++ zs)))
  fold-joined a b c joins s xs ys zs =
      fold-order s xs a (ys ++ (b ∷ zs))
      ∙ rw (← append_assoc xs ys (b ∷ zs))
      (fold-order (step s a) (xs ++ ys) b zs
      ∙ rw (joins s, append_assoc xs ys zs) (sym (fold-order s xs c (ys ++ zs))))

module _ {K C S : Type 0} {P : K → Type 0} (f : Fold K C S) (o : Orders P f.less)
    (commutes : (s : S) (c d : C) → f.step (f.step s c) d ≡ f.step (f.step s d) c) where
  module _ (k : K) (a b c : C) (joins : (s : S) → f.step (f.step s a) b ≡ f.step s c) (xs ys zs : List (K × C)) where
    abbrev parted : List (K × C)
    parted = xs ++ ((k, a) ∷ (ys ++ ((k, b) ∷ zs)))

    abbrev joined : List (K × C)
    joined = xs ++ ((k, c) ∷ (ys ++ zs))

    fold-one : (j : K) → fold_key f j parted ≡ fold_key f j joined
    unfolding fold_key
    fold-one j = go (f.same k j) refl
      where
        of : List (K × C) → List C
        of = contents_of f j

        go : (t : Bool) → f.same k j ≡ t → left_fold f.step f.start (of parted) ≡ left_fold f.step f.start (of joined)
        go true e =
            simp (contents-append f j, contents-own f j)
            (fold-joined f.step commutes a b c joins f.start (of xs) (of ys) (of zs))
        go false e = simp (contents-append f j, contents-other f j)

    -- two rows of one key may be one row, wherever they stand
    pub table-joined : ((j : K) → Member j (map key_of parted) → P j) → table_of f parted ≡ table_of f joined
    table-joined ps =
        table-equal f o parted joined ps (λ j. simp map-append (member-twice j k (map key_of xs) (map key_of ys) (map key_of zs))) fold-one
