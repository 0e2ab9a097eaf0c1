-- The mode lists that keep a word are as many as the words of its orbit, and they keep every word of the orbit.
-- What carries it: the mode lists that are trivial on the fixing indices, times these, are as many as the group has elements (`annihilators`),
-- and so are the words of the orbit (`orbit-stabilizer`).
use Prim.Native.Nat.{ℕ, ◌*◌, ◌%◌, ◌<◌}
use native.Mathlib.Nat.{eq_of_mul-eq-mul_right}
use mathlib.Core.Path.{◌≡◌, refl, sym, ◌∙◌, ap, ap₂, fun_ext}
use mathlib.Core.Bool.{Bool, true, ◌||◌, not}
use mathlib.Core.List.{List}
use lib.Dec.{eqb}
use lib.IntN.{ℤ}
use lib.ListN.{length}
use Rattle.pauli_word.specs.Word.{Word}
use Rattle.action.specs.Lists.{below, Member, count, every}
use Rattle.action.specs.Permutation.{Generator, Valid}
use Rattle.action.specs.Index.{order_of, digits, index, Digits}
use Rattle.action.specs.Orbit.{is_in, orbit, fixes, fixing}
use Rattle.action.specs.Sector.{modulus, phases, numerator, trivial, keeps}
use Rattle.action.specs.Count.{all_modes, kept_lists}
use Rattle.action.proofs.Lists.{member_below, of_member_below, no_repeats_below, every-intro, every-elim, count-select, count-cong, count_bijection, bool_ext}
use Rattle.action.proofs.Index.{Positive, valid_positive, order_of_positive, digits_proper, index_below, index-digits, digits-index, index-add}
use Rattle.action.proofs.Stabilizer.{fixes-zero, fixes-add, fixes-orbit, fixing-positive, orbit-stabilizer}
use Rattle.action.proofs.Annihilators.{all_digits, member_all_digits, of_member_all_digits, no_repeats_all_digits, Closed, annihilators}
use Rattle.action.proofs.Characters.{modulus_divides, modulus-positive}

-- a test of the indices below the order is a test of the digit lists

module _ (gs : List Generator) (p : Positive gs) (t : ℕ → Bool) (s : List ℕ → Bool) (same : (cs : List ℕ) → Digits gs cs → t (index gs cs) ≡ s cs) where
  same_digits : (i : ℕ) → i < order_of gs → s (digits gs i) ≡ t i
  same_digits i h = sym (same (digits gs i) (digits_proper gs p i)) ∙ ap t (index-digits gs p i h)

  every-digits : every t (below (order_of gs)) ≡ every s (all_digits gs)
  every-digits =
      bool_ext (every t (below (order_of gs))) (every s (all_digits gs))
      (λ e. every-intro s (all_digits gs) (λ cs m.
      let d : Digits gs cs = of_member_all_digits gs cs m in
      sym (same cs d) ∙ every-elim t (below (order_of gs)) e (index gs cs) (member_below (order_of gs) (index gs cs) (index_below gs cs d))))
      (λ e. every-intro t (below (order_of gs)) (λ i m.
      sym (same_digits i (of_member_below (order_of gs) i m))
      ∙ every-elim s (all_digits gs) e (digits gs i) (member_all_digits gs (digits gs i) (digits_proper gs p i))))

  count-digits : count t (below (order_of gs)) ≡ count s (all_digits gs)
  count-digits =
      count_bijection (below (order_of gs)) (all_digits gs) t s (digits gs) (index gs) (no_repeats_below (order_of gs)) (no_repeats_all_digits gs)
      (λ i m e.
      let h : i < order_of gs = of_member_below (order_of gs) i m in
      (member_all_digits gs (digits gs i) (digits_proper gs p i), same_digits i h ∙ e, index-digits gs p i h))
      (λ cs m e.
      let d : Digits gs cs = of_member_all_digits gs cs m in
      (member_below (order_of gs) (index gs cs) (index_below gs cs d), same cs d ∙ e, digits-index gs p cs d))

module _ {n : ℕ} {gs : List Generator} (v : Valid n gs) (w : Word) (e : length w ≡ n) where
  -- the words of one orbit are kept by the same mode lists
  pub keeps-orbit : (ks : List ℤ) (u : Word) → is_in u (orbit gs w) ≡ true → keeps gs ks u ≡ keeps gs ks w
  unfolding keeps
  keeps-orbit ks u h =
      ap (λ (f : ℕ → Bool). every (λ i. not (f i) || trivial gs ks i) (below (order_of gs))) (fun_ext (fixes-orbit v w e u h))

  p : Positive gs
  p = valid_positive v

  -- whether digits fix the word
  fixed : List ℕ → Bool
  fixed cs = fixes gs w (index gs cs)

  fixed-closed : Closed gs fixed
  unfolding fixed
  fixed-closed = record {
    zeros-in = ap (fixes gs w) (index-digits gs p 0 (order_of_positive gs p)) ∙ fixes-zero gs w;
    add-in = λ cs ds h k f g. ap (fixes gs w) (index-add gs p cs ds h k) ∙ fixes-add v w e (index gs cs) (index gs ds) f g;
  }

  keeps-digits : (ks : List ℤ) → keeps gs ks w ≡ every (λ cs. not (fixed cs) || eqb (phases (modulus gs) gs ks cs % modulus gs) 0) (all_digits gs)
  unfolding keeps trivial numerator fixed
  keeps-digits ks =
      every-digits gs p _ _ (λ cs d. ap (λ (x : List ℕ). not (fixed cs) || eqb (phases (modulus gs) gs ks x % modulus gs) 0) (digits-index gs p cs d))

  count-keeps : count (λ ks. keeps gs ks w) (all_modes gs) ≡ length (orbit gs w)
  unfolding fixing fixed
  count-keeps =
      eq_of_mul-eq-mul_right (length (fixing gs w)) (fixing-positive v w) (count (λ ks. keeps gs ks w) (all_modes gs)) (length (orbit gs w))
      (ap₂ ◌*◌
      (count-cong _ _ (all_modes gs) (λ ks m. keeps-digits ks))
      (sym (count-select (fixes gs w) (below (order_of gs))) ∙ count-digits gs p (fixes gs w) fixed (λ cs d. refl))
      ∙ annihilators (modulus gs) gs fixed (modulus-positive gs p) (modulus_divides gs p) fixed-closed
      ∙ orbit-stabilizer v w e)

  -- by any test that says which mode lists keep the word
  pub kept-lists :
      (kept : List ℤ → Word → Bool) → ((ks : List ℤ) → Member ks (all_modes gs) → kept ks w ≡ keeps gs ks w)
      → kept_lists kept gs w ≡ length (orbit gs w)
  unfolding kept_lists
  kept-lists kept h = count-cong _ _ (all_modes gs) h ∙ count-keeps
