-- Striking out candidates bit by bit: those whose first bits are the least of all become those whose first bits and one more are.
use Prim.Native.Nat.{ℕ, suc, ◌<◌, ◌≤◌}
use mathlib.Core.Path.{◌≡◌, refl, sym, ap, ◌∙◌, subst}
use mathlib.Core.Bool.{Bool, true, false, ◌&&◌, not, true≢false, false≢true}
use native.Mathlib.Omega.{arith}
use lib.Dec.{ltb, eqb}
use borrow.Author.Tests.{ltb-true, lt-ltb, eqb-true}
use Rattle.packed.specs.Packed.{LessAt}
use Rattle.cyclic.proofs.BitOrder.{by_equal, by_order, less-longer}
use Rattle.grid.specs.Candidates.{Left}

-- where a bit is set without another, it is set and the other is not
both_first : (a b : Bool) → (a && not b) ≡ true → a ≡ true
both_first true b e = refl
both_first false b e = e

both_second : (a b : Bool) → (a && not b) ≡ true → b ≡ false
both_second true true e = sym e
both_second true false e = refl
both_second false b e = absurd (false≢true e)

-- a set bit that is not without another
without_other : (a b : Bool) → a ≡ true → (a && not b) ≡ false → b ≡ true
without_other true true e f = refl
without_other true false e f = sym f
without_other false b e f = absurd (false≢true e)

-- a set bit that another does not meet
meets_none : (a b : Bool) → a ≡ true → (a && b) ≡ false → b ≡ false
meets_none true b e f = f
meets_none false b e f = absurd (false≢true e)

-- before any bit is read all are left
pub left-start : {o : ℕ} {F : ℕ → ℕ → Bool} {S : ℕ → Bool} → 0 < o → ((k : ℕ) → S k ≡ ltb k o) → Left o F 0 S
left-start {o} h e = record {
  inside = λ k s. ltb-true k o (sym (e k) ∙ s);
  some = (0, e 0 ∙ lt-ltb 0 o h);
  ties = λ j k a b p l. absurd (omega arith);
  rest = λ j k a l b. absurd (true≢false (sym (lt-ltb k o l) ∙ sym (e k) ∙ b));
}

-- bits in which those left agree leave the same
pub left_agree : {o : ℕ} {F : ℕ → ℕ → Bool} {t : ℕ} {S : ℕ → Bool} {u : ℕ} → Left o F t S → t ≤ u
    → ((p : ℕ) → t ≤ p → p < u → (j k : ℕ) → S j ≡ true → S k ≡ true → F j p ≡ F k p) → Left o F u S
left_agree {o} {F} {t} {S} {u} l h e = record {
  inside = l.inside;
  some = l.some;
  ties = λ j k a b p g. by_order t p (λ m. e p m g j k a b) (l.ties j k a b p);
  rest = λ j k a m b. less-longer t u (F j) (F k) h (l.rest j k a m b);
}

-- one bit more, in which those left agree
left-next : {o : ℕ} {F : ℕ → ℕ → Bool} {t : ℕ} {S : ℕ → Bool} → Left o F t S → ((j k : ℕ) → S j ≡ true → S k ≡ true → F j t ≡ F k t) → Left o F (suc t) S
left-next {o} {F} {t} {S} l e =
    left_agree l (omega arith) (λ p a b j k x y. subst (λ (q : ℕ). F j q ≡ F k q) (omega arith) (e j k x y))

module _ {o : ℕ} {F : ℕ → ℕ → Bool} {t : ℕ} {S M : ℕ → Bool} (l : Left o F t S) (m : (k : ℕ) → k < o → M k ≡ F k t) where
  -- some of those left have no bit here: these stay
  pub left_struck : {T : ℕ → Bool} → ((k : ℕ) → T k ≡ (S k && not (M k))) → (k : ℕ) → T k ≡ true → Left o F (suc t) T
  left_struck {T} e k₀ e₀ = record {
    inside = λ k a. l.inside k (old k a);
    some = (k₀, e₀);
    ties = λ j k a b p g. by_equal p t
        (λ d. subst (λ (q : ℕ). F j q ≡ F k q) (sym d) (zero j a ∙ sym (zero k b)))
        (λ d. l.ties j k (old j a) (old k b) p (omega arith));
    rest = λ j k a g b. apart j k a g b (S k) refl;
  }
    where
      old : (k : ℕ) → T k ≡ true → S k ≡ true
      old k a = both_first (S k) (M k) (sym (e k) ∙ a)

      zero : (k : ℕ) → T k ≡ true → F k t ≡ false
      zero k a = sym (m k (l.inside k (old k a))) ∙ both_second (S k) (M k) (sym (e k) ∙ a)

      apart : (j k : ℕ) → T j ≡ true → k < o → T k ≡ false → (s : Bool) → S k ≡ s → LessAt (suc t) (F j) (F k)
      apart j k a g b true s =
          (t, omega arith, l.ties j k (old j a) s, zero j a, sym (m k g) ∙ without_other (S k) (M k) s (sym (e k) ∙ b))
      apart j k a g b false s = less-longer t (suc t) (F j) (F k) (omega arith) (l.rest j k (old j a) g s)

  -- all of those left have a bit here: all stay
  pub left_none : ((k : ℕ) → (S k && not (M k)) ≡ false) → Left o F (suc t) S
  left_none e = left-next l (λ j k a b. one j a ∙ sym (one k b))
    where
      one : (k : ℕ) → S k ≡ true → F k t ≡ true
      one k a = sym (m k (l.inside k a)) ∙ without_other (S k) (M k) a (e k)

  -- none of those left has a bit here: all stay
  pub left-all : ((k : ℕ) → (S k && M k) ≡ false) → Left o F (suc t) S
  left-all e = left-next l (λ j k a b. zero j a ∙ sym (zero k b))
    where
      zero : (k : ℕ) → S k ≡ true → F k t ≡ false
      zero k a = sym (m k (l.inside k a)) ∙ meets_none (S k) (M k) a (e k)

module _ {o : ℕ} {F : ℕ → ℕ → Bool} {t : ℕ} {S : ℕ → Bool} (l : Left o F t S) where
  -- bits that are alike for all candidates strike out none
  pub left-alike : {u : ℕ} → t ≤ u → ((p : ℕ) → t ≤ p → p < u → (j k : ℕ) → j < o → k < o → F j p ≡ F k p) → Left o F u S
  left-alike h e = left_agree l h (λ p a b j k x y. e p a b j k (l.inside j x) (l.inside k y))

  -- where one is left it stays
  pub left_alone : {u : ℕ} → t ≤ u → (k : ℕ) → ((j : ℕ) → S j ≡ eqb j k) → Left o F u S
  left_alone h k e =
      left_agree l h (λ p a b i j x y. subst (λ (q : ℕ). F i p ≡ F q p) (same i x ∙ sym (same j y)) refl)
    where
      same : (j : ℕ) → S j ≡ true → j ≡ k
      same j x = eqb-true j k (sym (e j) ∙ x)

  -- the same set
  pub left_by : {T : ℕ → Bool} → ((k : ℕ) → T k ≡ S k) → Left o F t T
  left_by {T} e = record {
    inside = λ k a. l.inside k (sym (e k) ∙ a);
    some = (l.some.0, e l.some.0 ∙ l.some.1);
    ties = λ j k a b. l.ties j k (sym (e j) ∙ a) (sym (e k) ∙ b);
    rest = λ j k a g b. l.rest j k (sym (e j) ∙ a) g (sym (e k) ∙ b);
  }
