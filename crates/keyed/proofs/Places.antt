-- Rows folded by place, in a list that has a value for each place: no rows, one row more, and the fold by keys in rising order that the places stand
-- for. The fact that carries it: places in rising keys are compared as the keys there (`rising-places`), so that places are keys renamed.
use Prim.Native.Nat.{ℕ, zero, suc, ◌+◌, ◌-◌, ◌≤◌, ◌<◌}
use native.Mathlib.Nat.{not-suc-le-zero}
use native.Mathlib.Decide.{ℕ_discrete, dec_lt}
use native.Mathlib.Omega.{arith}
use mathlib.Core.Path.{◌≡◌, refl, sym, ◌∙◌, ap, ap₂}
use mathlib.Core.Logic.{inl, inr, ⊎_elim}
use mathlib.Core.Bool.{Bool, true, false, false≢true}
use mathlib.Core.List.{List, [], ◌∷◌, ◌++◌, map, append_assoc}
use lib.Dec.{ltb, eqb}
use lib.ListN.{length, get_or, set, take, replicate}
use lib.ListN.{length-map, length-append, length-replicate, length-set, get_or-replicate, get_or-append}
use lib.Seq.{get_or-append-add, get_or-set_same, get_or-set_other, get_or-take}
use borrow.Author.Tests.{lt-ltb, le-ltb, eq-eqb, ne_eqb, eqb-true}
use Rattle.pauli_word.proofs.Words.{map-append, map-set}
use Rattle.action.specs.Lists.{Member}
use Rattle.action.proofs.Lists.{of-member-append}
use Rattle.action.proofs.Below.{map-below-at, map-below-length, map-below-of}
use Rattle.keyed.specs.Keyed.{Fold, Orders, Equality, Rising, key_of, renamed, contents_of, left_fold, fold_key, running, by_place, placed, place_values}
use Rattle.keyed.proofs.Rising.{rising-places}
use Rattle.keyed.proofs.Folds.{not_same, fold-own, fold-other, fold-none}
use Rattle.keyed.proofs.Tables.{get_d_map, map-replicate, fold-renamed, running-renamed}

pub place_equality : Equality eqb
place_equality = record { reflexive = λ a. eq-eqb a a refl; equal = eqb-true }

-- ---- a value for each place

module _ {C S : Type 0} (f : Fold ℕ C S) (n : ℕ) where
  pub values_length : (rows : List (ℕ × C)) → length (place_values f n rows) ≡ n
  unfolding place_values
  values_length rows = map-below-length (λ k. fold_key f k rows) n

  pub value-at : (rows : List (ℕ × C)) (d : S) (k : ℕ) → k < n → get_or (place_values f n rows) k d ≡ fold_key f k rows
  unfolding place_values
  value-at rows d k h = map-below-at (λ k. fold_key f k rows) n k d h

  -- a list that has what each place comes to
  pub values-are :
      (rows : List (ℕ × C)) (d : S) (xs : List S) → length xs ≡ n → ((k : ℕ) → k < n → get_or xs k d ≡ fold_key f k rows)
      → xs ≡ place_values f n rows
  unfolding place_values
  values-are rows d xs long at = map-below-of (λ k. fold_key f k rows) n d xs long at

  pub values-start : place_values f n [] ≡ replicate n f.start
  unfolding fold_key contents_of left_fold
  values-start =
      sym
      (values-are [] f.start (replicate n f.start) (length-replicate n f.start) (λ k h. get_or-replicate n k f.start f.start h))

  pub values-next : Equality f.same → (rows : List (ℕ × C)) (p : ℕ) (c : C) (d : S) → p < n
      → set (place_values f n rows) p (f.step (get_or (place_values f n rows) p d) c) ≡ place_values f n (rows ++ ((p, c) ∷ []))
  values-next q rows p c d h =
      values-are (rows ++ ((p, c) ∷ [])) d (set values p new) (length-set values p new ∙ values_length rows) (λ k l. at k l (ℕ_discrete k p))
    where
      values : List S
      values = place_values f n rows

      new : S
      new = f.step (get_or values p d) c

      at : (k : ℕ) → k < n → Dec (k ≡ p) → get_or (set values p new) k d ≡ fold_key f k (rows ++ ((p, c) ∷ []))
      at k l (yes e) =
          rw e
          (get_or-set_same values p new d (rw (values_length rows) h)
          ∙ ap (λ (s : S). f.step s c) (value-at rows d p h)
          ∙ sym (fold-own f q rows (p, c)))
      at k l (no m) =
          get_or-set_other values p k new d m ∙ value-at rows d k l ∙ sym (fold-other f k rows (p, c) (not_same q p k (λ e. m (sym e))))

  -- ---- a part of each value, in a list of its own

  module _ {A : Type 0} (part : S → A) where
    pub parts-length : (rows : List (ℕ × C)) → length (map part (place_values f n rows)) ≡ n
    parts-length rows = length-map (place_values f n rows) part ∙ values_length rows

    pub part_at : (rows : List (ℕ × C)) (e : A) (k : ℕ) → k < n → get_or (map part (place_values f n rows)) k e ≡ part (fold_key f k rows)
    part_at rows e k h =
        get_d_map part (place_values f n rows) k e f.start (rw (values_length rows) h) ∙ ap part (value-at rows f.start k h)

    pub parts-start : map part (place_values f n []) ≡ replicate n (part f.start)
    parts-start = ap (map part) values-start ∙ map-replicate part n f.start

    pub parts_next : Equality f.same → (rows : List (ℕ × C)) (p : ℕ) (c : C) → p < n
        → set (map part (place_values f n rows)) p (part (f.step (fold_key f p rows) c)) ≡ map part (place_values f n (rows ++ ((p, c) ∷ [])))
    parts_next q rows p c h =
        sym (map-set part (place_values f n rows) p (f.step (fold_key f p rows) c))
        ∙ ap (λ (s : S). map part (set (place_values f n rows) p (f.step s c))) (sym (value-at rows f.start p h))
        ∙ ap (map part) (values-next q rows p c f.start h)

-- ---- contents with their places

module _ {C : Type 0} (d : C) (places : List ℕ) (cs : List C) where
  -- row i
  abbrev pub placed_row : ℕ → ℕ × C
  placed_row i = (get_or places i 0, get_or cs i d)

  pub placed-length : (k : ℕ) → length (placed d places cs k) ≡ k
  unfolding placed
  placed-length zero = refl
  placed-length (suc k) = length-append (placed d places cs k) (placed_row k ∷ []) ∙ omega (arith, placed-length k)

  -- the first m contents are enough for the first k rows
  pub placed-take : (m k : ℕ) → k ≤ m → placed d places (take m cs) k ≡ placed d places cs k
  unfolding placed
  placed-take m zero h = refl
  placed-take m (suc k) h =
      ap₂ (λ (rows : List (ℕ × C)) (c : C). rows ++ ((get_or places k 0, c) ∷ [])) (placed-take m k (omega arith)) (get_or-take m cs k d h)

  -- the rows before row i, row i, and those after it
  pub placed-split : (k i : ℕ) → i < k → (rest : List (ℕ × C)) × (placed d places cs k ≡ placed d places cs i ++ (placed_row i ∷ rest))
  unfolding placed
  placed-split zero i h = absurd (not-suc-le-zero h)
  placed-split (suc k) i h = go (ℕ_discrete i k) (placed-split k i)
    where
      go : Dec (i ≡ k) → (i < k → (rest : List (ℕ × C)) × (placed d places cs k ≡ placed d places cs i ++ (placed_row i ∷ rest)))
          → (rest : List (ℕ × C)) × (placed d places cs (suc k) ≡ placed d places cs i ++ (placed_row i ∷ rest))
      go (yes e) earlier = rw e ([], refl)
      go (no n) earlier =
          let (rest, e) = earlier (omega arith) in (
            rest ++ (placed_row k ∷ []),
            ap (λ (l : List (ℕ × C)). l ++ (placed_row k ∷ [])) e ∙ append_assoc (placed d places cs i) (placed_row i ∷ rest) (placed_row k ∷ []),
          )

  -- places below a bound
  pub placed-inside :
      (m k : ℕ) → ((i : ℕ) → i < k → get_or places i 0 < m) → (a : ℕ) → Member a (map key_of (placed d places cs k)) → a < m
  unfolding placed
  placed-inside m zero inside a h = absurd h
  placed-inside m (suc k) inside a h =
      ⊎_elim (placed-inside m k (λ i l. inside i (omega arith)) a) last
      (of-member-append (map key_of (placed d places cs k)) (get_or places k 0 ∷ []) a (rw (map-append key_of (placed d places cs k) (placed_row k ∷ [])) at h))
    where
      last : Member a (get_or places k 0 ∷ []) → a < m
      last (inl e) = rw e (inside k (omega arith))
      last (inr n) = absurd n

-- ---- keys in rising order, and rows at the places of their keys

module _ {K C S : Type 0} {P : K → Type 0} (g : Fold K C S) (o : Orders P g.less) (q : Equality g.same)
    (keys : List K) (d : K) (r : Rising g.less keys) where
  abbrev key_at : ℕ → K
  key_at p = get_or keys p d

  earlier-less : (a b : ℕ) → a < b → b < length keys → g.less (key_at a) (key_at b) ≡ true
  earlier-less = rising-places o keys d r

  later-not-less : (a b : ℕ) → b < a → a < length keys → g.less (key_at a) (key_at b) ≡ false
  later-not-less a b h l = go (g.less (key_at a) (key_at b)) refl
    where
      go : (t : Bool) → g.less (key_at a) (key_at b) ≡ t → t ≡ false
      go true e = absurd (false≢true (sym (o.irrefl (key_at a)) ∙ o.trans (key_at a) (key_at b) (key_at a) e (earlier-less b a h l)))
      go false e = refl

  lesses : (a b : ℕ) → a < length keys → b < length keys → g.less (key_at a) (key_at b) ≡ ltb a b
  lesses a b la lb = go (dec_lt a b) (ℕ_discrete a b)
    where
      go : Dec (a < b) → Dec (a ≡ b) → g.less (key_at a) (key_at b) ≡ ltb a b
      go (yes h) e = earlier-less a b h lb ∙ sym (lt-ltb a b h)
      go (no n) (yes e) = rw e (o.irrefl (key_at b) ∙ sym (le-ltb b b (omega arith)))
      go (no n) (no m) = later-not-less a b (omega (arith, n, m)) la ∙ sym (le-ltb a b (omega (arith, n)))

  -- keys at two places are not equal
  apart : (a b : ℕ) → a < b → b < length keys → key_at a ≡ key_at b → ⊥
  apart a b h l e = false≢true (sym (o.irrefl (key_at b)) ∙ ap (λ (k : K). g.less k (key_at b)) (sym e) ∙ earlier-less a b h l)

  sames : (a b : ℕ) → a < length keys → b < length keys → g.same (key_at a) (key_at b) ≡ eqb a b
  sames a b la lb = go (ℕ_discrete a b) (dec_lt a b)
    where
      go : Dec (a ≡ b) → Dec (a < b) → g.same (key_at a) (key_at b) ≡ eqb a b
      go (yes e) h = rw e (q.reflexive (key_at b) ∙ sym (eq-eqb b b refl))
      go (no n) (yes h) = not_same q (key_at a) (key_at b) (apart a b h lb) ∙ sym (ne_eqb a b n)
      go (no n) (no m) = not_same q (key_at a) (key_at b) (λ e. apart b a (omega (arith, n, m)) la (sym e)) ∙ sym (ne_eqb a b n)

  module _ (rows_p : List (ℕ × C)) (rows : List (K × C)) (named : map (renamed (λ p. get_or keys p d)) rows_p ≡ rows)
      (inside : (a : ℕ) → Member a (map key_of rows_p) → a < length keys) where
    abbrev f : Fold ℕ C S
    f = by_place g.start g.step

    pub running-keys : running (by_place g.start g.step) rows_p ≡ running g rows
    running-keys = sym (running-renamed key_at f g refl refl lesses sames rows_p inside) ∙ ap (running g) named

    fold-keys : (k : ℕ) → k < length keys → fold_key g (key_at k) rows ≡ fold_key f k rows_p
    fold-keys k h = ap (fold_key g (key_at k)) (sym named) ∙ fold-renamed key_at f g refl refl lesses sames k h rows_p inside

    pub values-keys : (n : ℕ) → length keys ≤ n
        → place_values (by_place g.start g.step) n rows_p ≡ map (λ k. fold_key g k rows) keys ++ replicate (n - length keys) g.start
    values-keys n few =
        sym (values-are f n rows_p g.start (front ++ back) long (λ k h. at k h (dec_lt k (length keys))))
      where
        front : List S
        front = map (λ k. fold_key g k rows) keys

        back : List S
        back = replicate (n - length keys) g.start

        front_length : length front ≡ length keys
        front_length = length-map keys (λ k. fold_key g k rows)

        long : length (front ++ back) ≡ n
        long = length-append front back ∙ omega (arith, front_length, length-replicate (n - length keys) g.start)

        at : (k : ℕ) → k < n → Dec (k < length keys) → get_or (front ++ back) k g.start ≡ fold_key f k rows_p
        at k h (yes l) =
            get_or-append front back g.start k (rw front_length l)
            ∙ get_d_map (λ k. fold_key g k rows) keys k g.start d l
            ∙ fold-keys k l
        at k h (no m) =
            let i : ℕ = k - length keys in
            let e : k ≡ length front + i = omega (arith, m, front_length) in
            ap (λ (j : ℕ). get_or (front ++ back) j g.start) e
            ∙ get_or-append-add front back i g.start
            ∙ get_or-replicate (n - length keys) i g.start g.start (omega (arith, m))
            ∙ sym (fold-none f place_equality k rows_p (λ l. m (inside k l)))
