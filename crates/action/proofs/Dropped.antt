-- What drops a word: the modes do not keep it exactly if some index breaks it, and the first index that does drops it.
-- What carries it: the first index that breaks the word breaks it (`first_passes`), and none that breaks it is smaller (`first-least`).
use Prim.Native.Nat.{ℕ, ◌≤◌, ◌<◌}
use native.Mathlib.Nat.{eq-or-lt_of_le}
use native.Mathlib.Omega.{arith}
use mathlib.Core.Path.{◌≡◌, refl, sym, ◌∙◌, ap, subst}
use mathlib.Core.Logic.{◌↔◌, ⊎_elim}
use mathlib.Core.Bool.{Bool, true, false, ◌||◌, ◌&&◌, not, false≢true}
use mathlib.Core.List.{List}
use lib.IntN.{ℤ}
use borrow.Author.Tests.{eqb-true, eqb-false, ne_eqb, not-false}
use Rattle.pauli_word.specs.Word.{Word}
use Rattle.action.specs.Lists.{below}
use Rattle.action.specs.Permutation.{Generator}
use Rattle.action.specs.Index.{order_of, digits}
use Rattle.action.specs.Orbit.{fixes}
use Rattle.action.specs.Sector.{numerator, trivial, keeps, breaks, dropped_by, Drops}
use Rattle.action.proofs.Lists.{member_below, of_member_below, every-elim, every-false, first_passes, first_least}

-- an index breaks the word exactly if it asks something of the modes that they do not grant
broken_by : (f t : Bool) → (f && not t) ≡ not (not f || t)
broken_by true true = refl
broken_by true false = refl
broken_by false t = refl

both : (f t : Bool) → (f && not t) ≡ true → (f ≡ true) × (t ≡ false)
both true false e = (refl, refl)
both true true e = absurd (false≢true e)
both false t e = absurd (false≢true e)

false_by : (b : Bool) → (b ≡ true → ⊥) → b ≡ false
false_by true h = absurd (h refl)
false_by false h = refl

module _ (gs : List Generator) (ks : List ℤ) (w : Word) where
  -- ---- an index that breaks the word

  module _ (i : ℕ) where
    pub breaks-test : breaks gs ks w i ≡ not (not (fixes gs w i) || trivial gs ks i)
    unfolding breaks
    breaks-test = broken_by (fixes gs w i) (trivial gs ks i)

    pub breaks-elim : breaks gs ks w i ≡ true → (fixes gs w i ≡ true) × (numerator gs ks (digits gs i) ≡ 0 → ⊥)
    unfolding breaks trivial
    breaks-elim e = let (f, t) = both (fixes gs w i) (trivial gs ks i) e in (f, eqb-false (numerator gs ks (digits gs i)) 0 t)

    pub breaks-intro : fixes gs w i ≡ true → (numerator gs ks (digits gs i) ≡ 0 → ⊥) → breaks gs ks w i ≡ true
    unfolding breaks trivial
    breaks-intro f n = rw (f, ne_eqb (numerator gs ks (digits gs i)) 0 n)

    pub unbroken-elim : breaks gs ks w i ≡ false → fixes gs w i ≡ true → numerator gs ks (digits gs i) ≡ 0
    unfolding breaks trivial
    unbroken-elim e f = eqb-true (numerator gs ks (digits gs i)) 0 (not-false (trivial gs ks i) (rw f at e))

    pub unbroken-intro : (fixes gs w i ≡ true → numerator gs ks (digits gs i) ≡ 0) → breaks gs ks w i ≡ false
    unbroken-intro h = false_by (breaks gs ks w i) (λ e. let (f, n) = breaks-elim e in n (h f))

    pub keeps-broken : i < order_of gs → breaks gs ks w i ≡ true → keeps gs ks w ≡ false
    unfolding keeps
    keeps-broken inside e = go (keeps gs ks w) refl
      where
        go : (b : Bool) → keeps gs ks w ≡ b → b ≡ false
        go true h = absurd (false≢true (ap not (sym (every-elim _ (below (order_of gs)) h i (member_below (order_of gs) i inside))) ∙ sym breaks-test ∙ e))
        go false h = refl

  pub some-breaks : keeps gs ks w ≡ false → (i : ℕ) × (i < order_of gs) × (breaks gs ks w i ≡ true)
  unfolding keeps
  some-breaks e =
      let (i, m, t) = every-false (λ i. not (fixes gs w i) || trivial gs ks i) (below (order_of gs)) e in
      (i, of_member_below (order_of gs) i m, breaks-test i ∙ ap not t)

  -- ---- the first of them

  pub dropped-least : (i : ℕ) → i < order_of gs → breaks gs ks w i ≡ true → dropped_by gs ks w ≤ i
  unfolding dropped_by
  dropped-least = first_least 0 (breaks gs ks w) (order_of gs)

  pub dropped-breaks : keeps gs ks w ≡ false → (dropped_by gs ks w < order_of gs) × (breaks gs ks w (dropped_by gs ks w) ≡ true)
  unfolding dropped_by
  dropped-breaks e =
      let (i, inside, b) = some-breaks e in (
        omega (arith, inside, dropped-least i inside b),
        first_passes 0 (breaks gs ks w) (below (order_of gs)) i (member_below (order_of gs) i inside) b,
      )

  pub dropped-is : (i : ℕ) → i < order_of gs → breaks gs ks w i ≡ true → ((j : ℕ) → j < i → breaks gs ks w j ≡ false) → dropped_by gs ks w ≡ i
  dropped-is i inside b none =
      ⊎_elim (λ e. e)
      (λ h. absurd (false≢true (sym (none (dropped_by gs ks w) h) ∙ (dropped-breaks (keeps-broken i inside b)).1)))
      (eq-or-lt_of_le (dropped-least i inside b))

  -- ---- what drops the word

  drops : keeps gs ks w ≡ false → Drops gs ks w (dropped_by gs ks w)
  drops e =
      let (inside, b) = dropped-breaks e in
      let (f, n) = breaks-elim (dropped_by gs ks w) b in
      record {
        inside = inside;
        fixed = f;
        phased = n;
        none_earlier = λ j h.
            unbroken-elim j (false_by (breaks gs ks w j) (λ t. let k = dropped-least j (omega (arith, h, inside)) t in omega (arith, h, k)));
      }

  of-drops : (i : ℕ) → Drops gs ks w i → (keeps gs ks w ≡ false) × (dropped_by gs ks w ≡ i)
  of-drops i d =
      let b = breaks-intro i d.fixed d.phased in
      (keeps-broken i d.inside b, dropped-is i d.inside b (λ j h. unbroken-intro j (d.none_earlier j h)))

module _ (gs : List Generator) (w : Word) (ks : List ℤ) where
  pub keeps-unless : (keeps gs ks w ≡ false) ↔ ((i : ℕ) × (i < order_of gs) × (fixes gs w i ≡ true) × (numerator gs ks (digits gs i) ≡ 0 → ⊥))
  keeps-unless = (
    λ e. let (i, inside, b) = some-breaks gs ks w e in let (f, n) = breaks-elim gs ks w i b in (i, inside, f, n),
    λ (h : (i : ℕ) × (i < order_of gs) × (fixes gs w i ≡ true) × (numerator gs ks (digits gs i) ≡ 0 → ⊥)).
        keeps-broken gs ks w h.0 h.1 (breaks-intro gs ks w h.0 h.2 h.3),
  )

  pub drops-exactly : (i : ℕ) → Drops gs ks w i ↔ ((keeps gs ks w ≡ false) × (dropped_by gs ks w ≡ i))
  drops-exactly i = (
    of-drops gs ks w i,
    λ (h : (keeps gs ks w ≡ false) × (dropped_by gs ks w ≡ i)). subst (Drops gs ks w) h.1 (drops gs ks w h.0),
  )
