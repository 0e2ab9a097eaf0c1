-- Parts by labels: the generators with labels of two tests that none passes both are put together from those of each, the indices of the whole from theirs,
-- and each part leaves the sites of the others.
use Prim.Native.Nat.{ℕ, zero, suc, ◌+◌, ◌*◌, ◌/◌, ◌%◌, ◌≤◌, ◌<◌}
use mathlib.Core.Path.{◌≡◌, refl, sym, ◌∙◌, ap, subst}
use mathlib.Core.Logic.{◌⊎◌, inl, inr, ⊎_elim}
use mathlib.Core.Bool.{Bool, true, false, ◌&&◌, ◌||◌, not, cond, true≢false, false≢true}
use mathlib.Core.List.{List, [], ◌∷◌}
use native.Mathlib.Nat.{mul-zero, mul-add, zero-mod, zero-div, zero-add, suc-ne-zero, mod-eq_of_lt, mod-lt, mod-add-div, suc_inj}
use native.Mathlib.Omega.{arith}
use borrow.Author.Tests.{eqb-true, eqb-false, ltb-true, eq-eqb, ne_eqb}
use lib.Dec.{eqb, ltb}
use lib.ListN.{length, get_or}
use Rattle.action.specs.Lists.{Member}
use Rattle.action.specs.Permutation.{Generator, target, Valid}
use Rattle.action.specs.Index.{order_of}
use Rattle.action.proofs.Index.{Positive, order_of_positive}
use Rattle.parts.specs.Parts.{Interleaved, none, first, second, joined, of_first, of_second}
use Rattle.parts.specs.Labels.{chosen, spread, Divided}
use Rattle.parts.proofs.Joined.{front-mod, front-div, rest_below, joined-below, joined_le}
use Rattle.parts.proofs.Independent.{Leaves}

-- three tests: one passes exactly if one of the two others does, and no label passes both
pub record Apart (t u v : ℕ → Bool) : Type 0 where
  pub both : (l : ℕ) → t l ≡ (u l || v l)
  pub once : (l : ℕ) → u l ≡ true → v l ≡ true → ⊥

-- ---- the generators

-- one generator more, of the one part, of the other or of none
put : (g : Generator) {ts us vs : List Generator} (x y z : Bool) → x ≡ (y || z) → (y ≡ true → z ≡ true → ⊥) → Interleaved ts us vs
    → Interleaved (cond x (g ∷ ts) ts) (cond y (g ∷ us) us) (cond z (g ∷ vs) vs)
put g true true true e o s = absurd (o refl refl)
put g true true false e o s = first s
put g true false true e o s = second s
put g true false false e o s = absurd (true≢false e)
put g false true z e o s = absurd (false≢true e)
put g false false true e o s = absurd (false≢true e)
put g false false false e o s = s

pub chosen_interleaved : {t u v : ℕ → Bool} → Apart t u v → (ls : List ℕ) (gs : List Generator) → Interleaved (chosen t ls gs) (chosen u ls gs) (chosen v ls gs)
unfolding chosen
chosen_interleaved a [] gs = none
chosen_interleaved a (l ∷ ls) [] = none
chosen_interleaved {t} {u} {v} a (l ∷ ls) (g ∷ gs) = put g (t l) (u l) (v l) (a.both l) (a.once l) (chosen_interleaved a ls gs)

-- ---- the lists beside them

module _ {A : Type 0} where
  put_first : (g : Generator) {ts us vs : List Generator} (x y z : Bool) (e : x ≡ (y || z)) (o : y ≡ true → z ≡ true → ⊥) (s : Interleaved ts us vs) (a : A) (xs : List A)
      → of_first (put g x y z e o s) (cond x (a ∷ xs) xs) ≡ cond y (a ∷ of_first s xs) (of_first s xs)
  unfolding put of_first
  put_first g true true true e o s a xs = absurd (o refl refl)
  put_first g true true false e o s a xs = refl
  put_first g true false true e o s a xs = refl
  put_first g true false false e o s a xs = absurd (true≢false e)
  put_first g false true z e o s a xs = absurd (false≢true e)
  put_first g false false true e o s a xs = absurd (false≢true e)
  put_first g false false false e o s a xs = refl

  put_second : (g : Generator) {ts us vs : List Generator} (x y z : Bool) (e : x ≡ (y || z)) (o : y ≡ true → z ≡ true → ⊥) (s : Interleaved ts us vs) (a : A) (xs : List A)
      → of_second (put g x y z e o s) (cond x (a ∷ xs) xs) ≡ cond z (a ∷ of_second s xs) (of_second s xs)
  unfolding put of_second
  put_second g true true true e o s a xs = absurd (o refl refl)
  put_second g true true false e o s a xs = refl
  put_second g true false true e o s a xs = refl
  put_second g true false false e o s a xs = absurd (true≢false e)
  put_second g false true z e o s a xs = absurd (false≢true e)
  put_second g false false true e o s a xs = absurd (false≢true e)
  put_second g false false false e o s a xs = refl

  -- what is chosen for both belongs to the one or to the other
  pub chosen-first : {t u v : ℕ → Bool} (a : Apart t u v) (ls : List ℕ) (gs : List Generator) (xs : List A) → length gs ≡ length xs
      → of_first (chosen_interleaved a ls gs) (chosen t ls xs) ≡ chosen u ls xs
  unfolding chosen chosen_interleaved of_first
  chosen-first a [] gs xs e = refl
  chosen-first a (l ∷ ls) [] [] e = refl
  chosen-first a (l ∷ ls) [] (x ∷ xs) e = absurd (suc-ne-zero _ (sym e))
  chosen-first a (l ∷ ls) (g ∷ gs) [] e = absurd (suc-ne-zero _ e)
  chosen-first {t} {u} {v} a (l ∷ ls) (g ∷ gs) (x ∷ xs) e =
      put_first g (t l) (u l) (v l) (a.both l) (a.once l) (chosen_interleaved a ls gs) x (chosen t ls xs)
      ∙ ap (λ (r : List A). cond (u l) (x ∷ r) r) (chosen-first a ls gs xs (suc_inj e))

  pub chosen-second : {t u v : ℕ → Bool} (a : Apart t u v) (ls : List ℕ) (gs : List Generator) (xs : List A) → length gs ≡ length xs
      → of_second (chosen_interleaved a ls gs) (chosen t ls xs) ≡ chosen v ls xs
  unfolding chosen chosen_interleaved of_second
  chosen-second a [] gs xs e = refl
  chosen-second a (l ∷ ls) [] [] e = refl
  chosen-second a (l ∷ ls) [] (x ∷ xs) e = absurd (suc-ne-zero _ (sym e))
  chosen-second a (l ∷ ls) (g ∷ gs) [] e = absurd (suc-ne-zero _ e)
  chosen-second {t} {u} {v} a (l ∷ ls) (g ∷ gs) (x ∷ xs) e =
      put_second g (t l) (u l) (v l) (a.both l) (a.once l) (chosen_interleaved a ls gs) x (chosen t ls xs)
      ∙ ap (λ (r : List A). cond (v l) (x ∷ r) r) (chosen-second a ls gs xs (suc_inj e))

-- all of them, and none
pub chosen_all : {A : Type 0} (t : ℕ → Bool) (ls : List ℕ) (xs : List A) → length ls ≡ length xs → ((l : ℕ) → Member l ls → t l ≡ true) → chosen t ls xs ≡ xs
unfolding chosen
chosen_all t [] [] e h = refl
chosen_all t [] (x ∷ xs) e h = absurd (suc-ne-zero _ (sym e))
chosen_all t (l ∷ ls) [] e h = absurd (suc-ne-zero _ e)
chosen_all t (l ∷ ls) (x ∷ xs) e h = rw (h l (inl refl)) (ap (λ (r : List _). x ∷ r) (chosen_all t ls xs (suc_inj e) (λ k m. h k (inr m))))

pub chosen_none : {A : Type 0} (t : ℕ → Bool) (ls : List ℕ) (xs : List A) → ((l : ℕ) → t l ≡ false) → chosen t ls xs ≡ []
unfolding chosen
chosen_none t [] xs h = refl
chosen_none t (l ∷ ls) [] h = refl
chosen_none t (l ∷ ls) (x ∷ xs) h = rw (h l) (chosen_none t ls xs h)

-- orders stay positive
chosen-positive : (t : ℕ → Bool) (ls : List ℕ) (gs : List Generator) → Positive gs → Positive (chosen t ls gs)
unfolding chosen
chosen-positive t [] gs p = tt
chosen-positive t (l ∷ ls) [] p = tt
chosen-positive t (l ∷ ls) (g ∷ gs) p = go (t l) (chosen-positive t ls gs p.1)
  where
    go : (b : Bool) → Positive (chosen t ls gs) → Positive (cond b (g ∷ chosen t ls gs) (chosen t ls gs))
    go true r = (p.0, r)
    go false r = r

-- ---- the indices

joined-put : (g : Generator) {ts us vs : List Generator} (x y z : Bool) (e : x ≡ (y || z)) (o : y ≡ true → z ≡ true → ⊥) (s : Interleaved ts us vs) (t u v : ℕ → ℕ) → 0 < g.order
    → ((i j : ℕ) → t (joined s i j) ≡ u i + v j) → (i j : ℕ)
    → cond x (joined (put g x y z e o s) i j % g.order + g.order * t (joined (put g x y z e o s) i j / g.order)) (g.order * t (joined (put g x y z e o s) i j))
    ≡ cond y (i % g.order + g.order * u (i / g.order)) (g.order * u i) + cond z (j % g.order + g.order * v (j / g.order)) (g.order * v j)
unfolding put joined
joined-put g true true true e o s t u v p h i j = absurd (o refl refl)
joined-put g true true false e o s t u v p h i j =
    let m = g.order in
    rw (front-mod m i (joined s (i / m) j) p, front-div m i (joined s (i / m) j) p, h (i / m) j) (omega (arith, mul-add m (u (i / m)) (v j)))
joined-put g true false true e o s t u v p h i j =
    let m = g.order in
    rw (front-mod m j (joined s i (j / m)) p, front-div m j (joined s i (j / m)) p, h i (j / m)) (omega (arith, mul-add m (u i) (v (j / m))))
joined-put g true false false e o s t u v p h i j = absurd (true≢false e)
joined-put g false true z e o s t u v p h i j = absurd (false≢true e)
joined-put g false false true e o s t u v p h i j = absurd (false≢true e)
joined-put g false false false e o s t u v p h i j = rw (h i j) (mul-add g.order (u i) (v j))

-- digits of both parts are the sum
pub spread-joined : {t u v : ℕ → Bool} (a : Apart t u v) (ls : List ℕ) (gs : List Generator) → Positive gs → (i j : ℕ)
    → spread t ls gs (joined (chosen_interleaved a ls gs) i j) ≡ spread u ls gs i + spread v ls gs j
unfolding spread chosen_interleaved chosen
spread-joined a [] gs p i j = omega arith
spread-joined a (l ∷ ls) [] p i j = omega arith
spread-joined {t} {u} {v} a (l ∷ ls) (g ∷ gs) p i j =
    joined-put g (t l) (u l) (v l) (a.both l) (a.once l) (chosen_interleaved a ls gs) (spread t ls gs) (spread u ls gs) (spread v ls gs) p.0
    (spread-joined a ls gs p.1) i j

-- the digits of all are the index itself
pub spread_all : (t : ℕ → Bool) (ls : List ℕ) (gs : List Generator) → length ls ≡ length gs → Positive gs → ((l : ℕ) → Member l ls → t l ≡ true) → (i : ℕ) → i < order_of gs
    → spread t ls gs i ≡ i
unfolding spread order_of
spread_all t [] [] e p h i l = omega arith
spread_all t [] (g ∷ gs) e p h i l = absurd (suc-ne-zero _ (sym e))
spread_all t (m ∷ ls) [] e p h i l = absurd (suc-ne-zero _ e)
spread_all t (m ∷ ls) (g ∷ gs) e p h i l =
    rw (h m (inl refl), spread_all t ls gs (suc_inj e) p.1 (λ k x. h k (inr x)) (i / g.order) (rest_below g.order (order_of gs) i p.0 l)) (mod-add-div i g.order)

pub spread-zero : (t : ℕ → Bool) (ls : List ℕ) (gs : List Generator) → spread t ls gs 0 ≡ 0
unfolding spread
spread-zero t [] gs = refl
spread-zero t (l ∷ ls) [] = refl
spread-zero t (l ∷ ls) (g ∷ gs) = go (t l) (spread-zero t ls gs)
  where
    go : (b : Bool) → spread t ls gs 0 ≡ 0 → cond b (0 % g.order + g.order * spread t ls gs (0 / g.order)) (g.order * spread t ls gs 0) ≡ 0
    go true r = rw (zero-mod g.order, zero-div g.order, r, mul-zero g.order) (omega arith)
    go false r = rw (r, mul-zero g.order)

-- all labels, those that pass and those that do not
pub all_apart : (t : ℕ → Bool) → Apart (λ l. true) t (λ l. not (t l))
all_apart t = record { both = λ l. all (t l); once = λ l. never (t l) }
  where
    all : (b : Bool) → true ≡ (b || not b)
    all true = refl
    all false = refl

    never : (b : Bool) → b ≡ true → not b ≡ true → ⊥
    never true a c = false≢true c
    never false a c = false≢true a

module _ (t : ℕ → Bool) (ls : List ℕ) (gs : List Generator) (e : length ls ≡ length gs) (p : Positive gs) where
  all-chosen : chosen (λ l. true) ls gs ≡ gs
  all-chosen = chosen_all (λ l. true) ls gs e (λ l m. refl)

  all-positive : Positive (chosen (λ l. true) ls gs)
  all-positive = rw all-chosen p

  -- the index with digits of the chosen alone is joined with 0
  pub spread-index : (i : ℕ) → spread t ls gs i ≡ joined (chosen_interleaved (all_apart t) ls gs) i 0
  spread-index i =
      let s = chosen_interleaved (all_apart t) ls gs in
      let sum : spread t ls gs i ≡ spread t ls gs i + spread (λ l. not (t l)) ls gs 0 = rw (spread-zero (λ l. not (t l)) ls gs) (omega arith) in
      sum
      ∙ sym (spread-joined (all_apart t) ls gs p i 0)
      ∙ spread_all (λ l. true) ls gs e p (λ l m. refl) (joined s i 0) (subst (λ (hs : List Generator). joined s i 0 < order_of hs) all-chosen (joined-below s all-positive i 0))

  -- it is an index of the whole
  pub spread-below : (i : ℕ) → spread t ls gs i < order_of gs
  spread-below i =
      let s = chosen_interleaved (all_apart t) ls gs in
      rw (spread-index i) (subst (λ (hs : List Generator). joined s i 0 < order_of hs) all-chosen (joined-below s all-positive i 0))

  -- the larger index has the larger one
  pub spread-le : (i j : ℕ) → j < order_of (chosen t ls gs) → i ≤ j → spread t ls gs i ≤ spread t ls gs j
  spread-le i j h k =
      let s = chosen_interleaved (all_apart t) ls gs in
      let some = order_of_positive (chosen (λ l. not (t l)) ls gs) (chosen-positive (λ l. not (t l)) ls gs p) in
      rw (spread-index i, spread-index j) (joined_le s all-positive i j 0 0 h some k (omega arith))

-- ---- each part leaves the sites of the others

pub chosen_leaves : (n : ℕ) (t : ℕ → Bool) (p : ℕ → Bool) (gs : List Generator) (ls owners : List ℕ) → Divided n gs ls owners
    → ((l q : ℕ) → t l ≡ true → p q ≡ true → get_or owners q 0 ≡ suc l → ⊥) → Leaves n p (chosen t ls gs)
unfolding chosen
chosen_leaves n t p [] [] owners d apart g m q h e = absurd m
chosen_leaves n t p [] (l ∷ ls) owners d apart g m q h e = absurd m
chosen_leaves n t p (f ∷ gs) [] owners d apart g m q h e = absurd d
chosen_leaves n t p (f ∷ gs) (l ∷ ls) owners d apart g m q h e = go (t l) refl (λ k. chosen_leaves n t p gs ls owners d.1 apart g k q h e) m
  where
    own : t l ≡ true → target f.perm q ≡ q
    own x = ⊎_elim (λ o. absurd (apart l q x e o)) (λ s. s) (d.0 q h)

    go : (b : Bool) → t l ≡ b → (Member g (chosen t ls gs) → target g.perm q ≡ q) → Member g (cond b (f ∷ chosen t ls gs) (chosen t ls gs)) → target g.perm q ≡ q
    go true x rest (inl same) = rw same (own x)
    go true x rest (inr k) = rest k
    go false x rest k = rest k
