-- Pairs of generators that do not commute, searched pair by pair and site by site, where each generator has max_sites places of one list.
-- What carries it: below the site count, a row's target is the number at its place in the list.
use Prim.Native.Nat.{ℕ, zero, suc, ◌+◌, ◌*◌, ◌≤◌, ◌<◌}
use mathlib.Core.Path.{◌≡◌, refl, sym, ap, ◌∙◌}
use mathlib.Core.Bool.{Bool, true, false}
use mathlib.Core.List.{List, [], ◌∷◌, map}
use native.Mathlib.Nat.{zero-add, not-suc-le-zero, le_of_suc-le-suc}
use native.Mathlib.Numerals.{add-one}
use native.Mathlib.Omega.{arith}
use lib.Dec.{eqb}
use lib.ListN.{length, get_or, drop, length-map, drop_of_length-le}
use lib.Seq.{drop-cons, get_or-take, get_or-drop}
use borrow.Author.Tests.{eq-eqb, eqb-true}
use Rattle.action.specs.Lists.{from, below}
use Rattle.action.specs.Permutation.{target, Commute}
use Rattle.action.proofs.Lists.{length-below, member_below, of_member_below, every-intro, every-elim}
use Rattle.pauli_word.specs.Limits.{max_sites}
use Rattle.outcome.specs.declared.Refusal.TheVariants as Refusal
use Rattle.outcome.specs.Outcome.{Check}
use Rattle.permutation.specs.Generators.{fine, broke, or_next, commute_at, with_right, pairs_check, row_at, rows_of}

-- ---- the rows

get_d_map-from : {A : Type 0} (f : ℕ → A) (d : A) (k a i : ℕ) → i < k → get_or (map f (from a k)) i d ≡ f (a + i)
unfolding from
get_d_map-from f d zero a i h = absurd (not-suc-le-zero h)
get_d_map-from f d (suc k) a zero h = ap f (omega arith)
get_d_map-from f d (suc k) a (suc i) h = get_d_map-from f d k (suc a) i (le_of_suc-le-suc h) ∙ ap f (omega arith)

module _ (k n : ℕ) (targets : List ℕ) where
  pub rows-length : length (rows_of k n targets) ≡ k
  unfolding rows_of
  rows-length = length-map (below k) (row_at n targets) ∙ length-below k

  pub row-at : (g : ℕ) → g < k → get_or (rows_of k n targets) g [] ≡ row_at n targets g
  unfolding rows_of below
  row-at g h = get_d_map-from (row_at n targets) [] k 0 g h ∙ ap (row_at n targets) (zero-add g)

  pub rows-cons : (g : ℕ) → g < k → drop g (rows_of k n targets) ≡ row_at n targets g ∷ drop (suc g) (rows_of k n targets)
  rows-cons g h = drop-cons (rows_of k n targets) g [] (omega (arith, rows-length)) ∙ ap (λ (p : List ℕ). p ∷ drop (suc g) (rows_of k n targets)) (row-at g h)

  pub rows-nil : (g : ℕ) → k ≤ g → drop g (rows_of k n targets) ≡ []
  rows-nil g h =
      let short : length (rows_of k n targets) ≤ g = omega (arith, rows-length) in
      drop_of_length-le (rows_of k n targets) short

  -- the check of the pairs whose left generator is l or a later one
  abbrev pub pairs_from : ℕ → Check
  pairs_from l = pairs_check n l (drop l (rows_of k n targets))

  -- the check of generator l with those from r on, and then of the pairs of the later ones
  abbrev pub pair_from : ℕ → ℕ → Check
  pair_from l r = or_next (with_right n l r (row_at n targets l) (drop r (rows_of k n targets))) (pairs_from (l + 1))

  pub pairs-none : (l : ℕ) → k ≤ l → pairs_from l ≡ fine
  unfolding pairs_check
  pairs-none l h = rw (rows-nil l h)

  pub pairs-open : (l : ℕ) → l < k → pairs_from l ≡ pair_from l (l + 1)
  unfolding pairs_check
  pairs-open l h = rw (rows-cons l h, add-one)

  pub pair-none : (l r : ℕ) → k ≤ r → pair_from l r ≡ pairs_from (l + 1)
  unfolding with_right
  pair-none l r h = rw (rows-nil r h)

  pub pair-apart : (l r : ℕ) → r < k → commute_at n (row_at n targets l) (row_at n targets r) ≡ false → pair_from l r ≡ broke (Refusal.NonCommuting l r)
  unfolding with_right
  pair-apart l r h e = rw (rows-cons r h, e)

  pub pair-next : (l r : ℕ) → r < k → commute_at n (row_at n targets l) (row_at n targets r) ≡ true → pair_from l r ≡ pair_from l (r + 1)
  unfolding with_right
  pair-next l r h e = rw (rows-cons r h, e, add-one r)

-- ---- two generators, site by site

module _ (n : ℕ) (f g : List ℕ) where
  pub commute_at_true : Commute n f g → commute_at n f g ≡ true
  unfolding commute_at
  commute_at_true h = every-intro _ (below n) (λ q m. eq-eqb (target f (target g q)) (target g (target f q)) (h q (of_member_below n q m)))

  pub of_commute_at : commute_at n f g ≡ true → Commute n f g
  unfolding commute_at
  of_commute_at e q h =
      eqb-true (target f (target g q)) (target g (target f q))
      (every-elim (λ p. eqb (target f (target g p)) (target g (target f p))) (below n) e q (member_below n q h))

-- at site q generators l and r come to the same in either order
abbrev pub SameAt : List ℕ → ℕ → ℕ → ℕ → Type 0
SameAt targets l r q =
    get_or targets (max_sites * l + get_or targets (max_sites * r + q) 0) 0 ≡ get_or targets (max_sites * r + get_or targets (max_sites * l + q) 0) 0

-- the targets of generator g are among the n sites
abbrev pub Inside : ℕ → List ℕ → ℕ → Type 0
Inside n targets g = (q : ℕ) → q < n → get_or targets (max_sites * g + q) 0 < n

module _ (n : ℕ) (targets : List ℕ) where
  pub row_target : (g q : ℕ) → q < n → target (row_at n targets g) q ≡ get_or targets (max_sites * g + q) 0
  row_target g q h = get_or-take n (drop (max_sites * g) targets) q 0 h ∙ get_or-drop (max_sites * g) targets q 0

  row-twice :
      (l r q : ℕ) → Inside n targets r → q < n
      → target (row_at n targets l) (target (row_at n targets r) q) ≡ get_or targets (max_sites * l + get_or targets (max_sites * r + q) 0) 0
  row-twice l r q h k = ap (target (row_at n targets l)) (row_target r q k) ∙ row_target l (get_or targets (max_sites * r + q) 0) (h q k)

  module _ (l r : ℕ) (left : Inside n targets l) (right : Inside n targets r) where
    pub rows-commute : ((q : ℕ) → q < n → SameAt targets l r q) → commute_at n (row_at n targets l) (row_at n targets r) ≡ true
    rows-commute h =
        commute_at_true n (row_at n targets l) (row_at n targets r)
        (λ q k. row-twice l r q right k ∙ h q k ∙ sym (row-twice r l q left k))

    pub rows_apart : (q : ℕ) → q < n → (SameAt targets l r q → ⊥) → commute_at n (row_at n targets l) (row_at n targets r) ≡ false
    rows_apart q h d = go (commute_at n (row_at n targets l) (row_at n targets r)) refl
      where
        go : (b : Bool) → commute_at n (row_at n targets l) (row_at n targets r) ≡ b → b ≡ false
        go true e =
            absurd (d (sym (row-twice l r q right h) ∙ of_commute_at n (row_at n targets l) (row_at n targets r) e q h ∙ row-twice r l q left h))
        go false e = refl
