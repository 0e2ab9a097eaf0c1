-- The table of rows: its keys, its values, what each key's last row comes to, and the table with its keys renamed.
-- The fact that carries it: a row changes what no other key comes to (`fold-other`).
use Prim.Native.Nat.{ℕ, zero, suc, ◌<◌}
use native.Mathlib.Nat.{le_of_suc-le-suc, not-suc-le-zero}
use mathlib.Core.Path.{◌≡◌, refl, sym, ◌∙◌, ap, ap₂}
use mathlib.Core.Logic.{◌⊎◌, inl, inr, ⊎_elim}
use mathlib.Core.Bool.{Bool, true, false, false≢true}
use mathlib.Core.List.{List, [], ◌∷◌, ◌++◌, map, map-map}
use lib.ListN.{length, get_or, replicate}
use Rattle.pauli_word.proofs.Words.{map-append}
use Rattle.action.specs.Lists.{Member, select}
use Rattle.action.proofs.Lists.{member-map, of-member-map, of-member-append, member-append-left, member-append-right}
use Rattle.keyed.specs.Keyed.{Fold, Equality, rising, renamed, insert_at, key_of, contents_of, fold_key, table_of, running_from, running}
use Rattle.keyed.proofs.Rising.{of-rising-member, rising-renamed}
use Rattle.keyed.proofs.Folds.{by_last, fold-other, running-next}

-- ---- lists with a member for each key

module _ {A B : Type 0} where
  pub map-cong : (g h : A → B) (xs : List A) → ((a : A) → Member a xs → g a ≡ h a) → map g xs ≡ map h xs
  map-cong g h [] e = refl
  map-cong g h (a ∷ xs) e = ap₂ ◌∷◌ (e a (inl refl)) (map-cong g h xs (λ b m. e b (inr m)))

  pub get_d_map : (g : A → B) (xs : List A) (i : ℕ) (d : B) (c : A) → i < length xs → get_or (map g xs) i d ≡ g (get_or xs i c)
  get_d_map g [] i d c l = absurd (not-suc-le-zero l)
  get_d_map g (a ∷ xs) zero d c l = refl
  get_d_map g (a ∷ xs) (suc i) d c l = get_d_map g xs i d c (le_of_suc-le-suc l)

  pub map-replicate : (g : A → B) (n : ℕ) (a : A) → map g (replicate n a) ≡ replicate n (g a)
  map-replicate g zero a = refl
  map-replicate g (suc n) a = ap (λ (l : List B). g a ∷ l) (map-replicate g n a)

  pub map-insert_at : (g : A → B) (i : ℕ) (a : A) (xs : List A) → map g (insert_at i a xs) ≡ insert_at i (g a) (map g xs)
  map-insert_at g zero a xs = refl
  map-insert_at g (suc i) a [] = refl
  map-insert_at g (suc i) a (b ∷ xs) = ap (λ (l : List B). g b ∷ l) (map-insert_at g i a xs)

keys_paired : {K S : Type 0} (g : K → S) (ks : List K) → map key_of (map (λ k. (k, g k)) ks) ≡ ks
keys_paired g [] = refl
keys_paired g (k ∷ ks) = ap (λ (l : List _). k ∷ l) (keys_paired g ks)

keys_next : {K C : Type 0} (rows : List (K × C)) (row : K × C) → map key_of (rows ++ (row ∷ [])) ≡ map key_of rows ++ (row.0 ∷ [])
keys_next rows row = map-append key_of rows (row ∷ [])

-- ---- keys and values

-- the different keys of rows
abbrev pub keys_of : {K C S : Type 0} → Fold K C S → List (K × C) → List K
keys_of f rows = rising f.less (map key_of rows)

-- a key with what it comes to
abbrev pub value_of : {K C S : Type 0} → Fold K C S → List (K × C) → K → K × S
value_of f rows k = (k, fold_key f k rows)

module _ {K C S : Type 0} (f : Fold K C S) where
  pub table-keys : (rows : List (K × C)) → map key_of (table_of f rows) ≡ rising f.less (map key_of rows)
  unfolding table_of
  table-keys rows = keys_paired (λ k. fold_key f k rows) (keys_of f rows)

  pub table-key : (rows : List (K × C)) (k : K) (s : S) → Member (k, s) (table_of f rows) → Member k (map key_of rows)
  table-key rows k s m =
      of-rising-member f.less (map key_of rows) k (rw (table-keys rows) at (member-map key_of (table_of f rows) (k, s) m))

  pub table-value : (rows : List (K × C)) (k : K) (s : S) → Member (k, s) (table_of f rows) → s ≡ fold_key f k rows
  unfolding table_of
  table-value rows k s m =
      let (a, n, e) = of-member-map (value_of f rows) (keys_of f rows) (k, s) m in
      ap (λ (r : K × S). r.1) e ∙ ap (λ (b : K). fold_key f b rows) (sym (ap key_of e))

  module _ (q : Equality f.same) where
    -- a key other than the last row's has a row before it
    key-before :
        (k : K) (rows : List (K × C)) (row : K × C) → f.same row.0 k ≡ false → Member k (map key_of (rows ++ (row ∷ [])))
        → Member k (map key_of rows)
    key-before k rows row e m = go (of-member-append (map key_of rows) (row.0 ∷ []) k (rw (keys_next rows row) at m))
      where
        go : Member k (map key_of rows) ⊎ Member k (row.0 ∷ []) → Member k (map key_of rows)
        go (inl n) = n
        go (inr (inl g)) = absurd (false≢true (sym e ∙ ap (f.same row.0) g ∙ q.reflexive row.0))
        go (inr (inr n)) = absurd n

    -- each key that has a row comes to what its last row comes to
    abbrev LastRunning : K → List (K × C) → Type 0
    LastRunning k rows = Member k (map key_of rows) → Member (fold_key f k rows) (running f rows)

    last-running-next : (k : K) (rows : List (K × C)) (row : K × C) → LastRunning k rows → LastRunning k (rows ++ (row ∷ []))
    last-running-next k rows row later m = rw (running-next f rows row) (go (f.same row.0 k) refl)
      where
        all : List (K × C)
        all = rows ++ (row ∷ [])

        go : (t : Bool) → f.same row.0 k ≡ t → Member (fold_key f k all) (running f rows ++ (fold_key f row.0 all ∷ []))
        go true e =
            member-append-right (running f rows) (fold_key f row.0 all ∷ []) (fold_key f k all)
            (inl (ap (λ (b : K). fold_key f b all) (sym (q.equal row.0 k e))))
        go false e =
            member-append-left (running f rows) (fold_key f row.0 all ∷ []) (fold_key f k all)
            (rw (fold-other f k rows row e) (later (key-before k rows row e m)))

    pub last-running : (k : K) (rows : List (K × C)) → Member k (map key_of rows) → Member (fold_key f k rows) (running f rows)
    last-running k = by_last (LastRunning k) (last-running-next k) (λ m. absurd m)

    pub table-running : (rows : List (K × C)) (k : K) (s : S) → Member (k, s) (table_of f rows) → Member s (running f rows)
    table-running rows k s m = rw (table-value rows k s m) (last-running k rows (table-key rows k s m))

-- ---- keys renamed

keys_renamed : {K J C : Type 0} (φ : K → J) (rows : List (K × C)) → map key_of (map (renamed φ) rows) ≡ map φ (map key_of rows)
keys_renamed φ [] = refl
keys_renamed φ (row ∷ rows) = ap (λ (l : List _). φ row.0 ∷ l) (keys_renamed φ rows)

module _ {K J C S : Type 0} {P : K → Type 0} (φ : K → J) (f : Fold K C S) (g : Fold J C S)
    (starts : g.start ≡ f.start) (steps : g.step ≡ f.step)
    (lesses : (a b : K) → P a → P b → g.less (φ a) (φ b) ≡ f.less a b)
    (sames : (a b : K) → P a → P b → g.same (φ a) (φ b) ≡ f.same a b) where
  contents-renamed :
      (k : K) → P k → (rows : List (K × C)) → ((a : K) → Member a (map key_of rows) → P a)
      → contents_of g (φ k) (map (renamed φ) rows) ≡ contents_of f k rows
  unfolding contents_of select
  contents-renamed k pk [] ps = refl
  contents-renamed k pk (row ∷ rows) ps = go (f.same row.0 k) refl (contents-renamed k pk rows (λ a m. ps a (inr m)))
    where
      e : g.same (φ row.0) (φ k) ≡ f.same row.0 k
      e = sames row.0 k (ps row.0 (inl refl)) pk

      go : (t : Bool) → f.same row.0 k ≡ t → contents_of g (φ k) (map (renamed φ) rows) ≡ contents_of f k rows
          → contents_of g (φ k) (map (renamed φ) (row ∷ rows)) ≡ contents_of f k (row ∷ rows)
      go true h later = rw (e, h) (ap (λ (l : List C). row.1 ∷ l) later)
      go false h later = rw (e, h) later

  pub fold-renamed :
      (k : K) → P k → (rows : List (K × C)) → ((a : K) → Member a (map key_of rows) → P a)
      → fold_key g (φ k) (map (renamed φ) rows) ≡ fold_key f k rows
  unfolding fold_key
  fold-renamed k pk rows ps = rw (starts, steps, contents-renamed k pk rows ps)

  pub table-renamed :
      (rows : List (K × C)) → ((a : K) → Member a (map key_of rows) → P a)
      → table_of g (map (renamed φ) rows) ≡ map (renamed φ) (table_of f rows)
  unfolding table_of
  table-renamed rows ps =
      ap (map (value_of g (map (renamed φ) rows)))
      (ap (rising g.less) (keys_renamed φ rows) ∙ rising-renamed φ f.less g.less lesses (map key_of rows) ps)
      ∙ map-map (value_of g (map (renamed φ) rows)) φ (keys_of f rows)
      ∙ map-cong (λ k. value_of g (map (renamed φ) rows) (φ k)) (λ k. renamed φ (value_of f rows k)) (keys_of f rows)
      (λ k m.
      let n : Member k (map key_of rows) = of-rising-member f.less (map key_of rows) k m in
      ap (λ (s : S). (φ k, s)) (fold-renamed k (ps k n) rows ps))
      ∙ sym (map-map (renamed φ) (value_of f rows) (keys_of f rows))

  running_from-renamed :
      (rows seen : List (K × C)) → ((a : K) → Member a (map key_of seen) → P a) → ((a : K) → Member a (map key_of rows) → P a)
      → running_from g (map (renamed φ) seen) (map (renamed φ) rows) ≡ running_from f seen rows
  unfolding running_from
  running_from-renamed [] seen ss ps = refl
  running_from-renamed (row ∷ rows) seen ss ps =
      rw (← map-append (renamed φ) seen (row ∷ []))
      (ap₂ ◌∷◌ (fold-renamed row.0 (ps row.0 (inl refl)) (seen ++ (row ∷ [])) passing)
      (running_from-renamed rows (seen ++ (row ∷ [])) passing (λ a m. ps a (inr m))))
    where
      one : (a : K) → Member a (row.0 ∷ []) → P a
      one a (inl e) = ps a (inl e)
      one a (inr n) = absurd n

      passing : (a : K) → Member a (map key_of (seen ++ (row ∷ []))) → P a
      passing a m = ⊎_elim (ss a) (one a) (of-member-append (map key_of seen) (row.0 ∷ []) a (rw (keys_next seen row) at m))

  pub running-renamed :
      (rows : List (K × C)) → ((a : K) → Member a (map key_of rows) → P a)
      → running g (map (renamed φ) rows) ≡ running f rows
  running-renamed rows ps = running_from-renamed rows [] (λ a m. absurd m) ps
