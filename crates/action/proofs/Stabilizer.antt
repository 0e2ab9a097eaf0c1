-- Orbit and stabilizer: the order of the group is the size of a word's orbit times the number of indices that fix the word.
-- What carries it: the indices that reach a given word of the orbit are the fixing ones, each shifted by one index that reaches it, so that each
-- word of the orbit is reached equally often.
use Prim.Native.Nat.{ℕ, ◌+◌, ◌*◌, ◌%◌, ◌<◌}
use mathlib.Core.Path.{◌≡◌, refl, sym, ◌∙◌, ap}
use mathlib.Core.Logic.{◌↔◌, inl, inr}
use mathlib.Core.Bool.{Bool, true, false, cond, false≢true}
use mathlib.Core.List.{List, [], ◌∷◌}
use native.Mathlib.Nat.{div-eq_of_eq-mul_left, mul-mod_left, mul-one, zero-lt-suc}
use native.Mathlib.Omega.{arith}
use lib.ListN.{length}
use Rattle.pauli_word.specs.Word.{Word, same}
use Rattle.pauli_word.proofs.WordOrder.{same_refl, same_eq}
use Rattle.action.specs.Lists.{below, Member, count, NoRepeats}
use Rattle.action.specs.Permutation.{Generator, Valid}
use Rattle.action.specs.Index.{order_of, add, inverse}
use Rattle.action.specs.Orbit.{reach, orbit_list, is_in, orbit, fixes, fixing, orbit_size}
use Rattle.action.proofs.Lists.{member_below, of_member_below, no_repeats_below, length-below, member-select, of-member-select, no_repeats_select, total-cong, total-const, total-count-swap, count-select, count_bijection, bool_ext}
use Rattle.action.proofs.Index.{valid_positive, order_of_positive, add-below, add-undo, add-redo}
use Rattle.action.proofs.Reach.{reach-zero, reach-add, reach-comm, reach-inverse}
use Rattle.action.proofs.Canonical.{is_in_intro, is_in_elim, no_repeats_once, orbit_intro, orbit_elim, orbit-length, orbit-symmetric}

-- two tests that pass together are the same

length-positive : {A : Type 0} (a : A) (xs : List A) → Member a xs → 0 < length xs
length-positive a [] m = absurd m
length-positive a (b ∷ xs) m = zero-lt-suc (length xs)

-- among words without repeats one is a given member

count_none : (u : Word) (ws : List Word) → (Member u ws → ⊥) → count (same u) ws ≡ 0
unfolding count
count_none u [] h = refl
count_none u (w ∷ ws) h = go (same u w) refl (count_none u ws (λ m. h (inr m)))
  where
    go : (b : Bool) → same u w ≡ b → count (same u) ws ≡ 0 → cond b 1 0 + count (same u) ws ≡ 0
    go true t k = absurd (h (inl (same_eq u w t)))
    go false t k = omega arith

pub count_one : (u : Word) (ws : List Word) → NoRepeats ws → Member u ws → count (same u) ws ≡ 1
unfolding count
count_one u [] r m = absurd m
count_one u (w ∷ ws) r m = go (same u w) refl m (count_one u ws r.1)
  where
    go : (b : Bool) → same u w ≡ b → Member u (w ∷ ws) → (Member u ws → count (same u) ws ≡ 1) → cond b 1 0 + count (same u) ws ≡ 1
    go true t m later = omega (arith, count_none u ws (λ k. r.0 (rw (← same_eq u w t) k)))
    go false t (inl e) later = absurd (false≢true (sym t ∙ rw e (same_refl w)))
    go false t (inr k) later = omega (arith, later k)

-- the indices that fix a word

pub fixes_intro : (gs : List Generator) (w : Word) (i : ℕ) → reach gs i w ≡ w → fixes gs w i ≡ true
unfolding fixes
fixes_intro gs w i h = ap (λ (u : Word). same u w) h ∙ same_refl w

pub fixes_elim : (gs : List Generator) (w : Word) (i : ℕ) → fixes gs w i ≡ true → reach gs i w ≡ w
unfolding fixes
fixes_elim gs w i h = same_eq (reach gs i w) w h

pub fixes-zero : (gs : List Generator) (w : Word) → fixes gs w 0 ≡ true
fixes-zero gs w = fixes_intro gs w 0 (reach-zero gs w)

pub fixing_all : (gs : List Generator) (w : Word) (i : ℕ) → Member i (fixing gs w) ↔ ((i < order_of gs) × (reach gs i w ≡ w))
unfolding fixing
fixing_all gs w i = (there, back)
  where
    there : Member i (fixing gs w) → (i < order_of gs) × (reach gs i w ≡ w)
    there m = let (k, e) = of-member-select (fixes gs w) (below (order_of gs)) i m in (of_member_below (order_of gs) i k, fixes_elim gs w i e)

    back : (i < order_of gs) × (reach gs i w ≡ w) → Member i (fixing gs w)
    back h = member-select (fixes gs w) (below (order_of gs)) i (member_below (order_of gs) i h.0) (fixes_intro gs w i h.1)

pub fixing_no_repeats : (gs : List Generator) (w : Word) → NoRepeats (fixing gs w)
unfolding fixing
fixing_no_repeats gs w = no_repeats_select (fixes gs w) (below (order_of gs)) (no_repeats_below (order_of gs))

pub orbit_no_repeats : (gs : List Generator) (w : Word) → NoRepeats (orbit gs w)
unfolding orbit
orbit_no_repeats gs w = no_repeats_once (orbit_list gs w)

pub fixing-positive : {n : ℕ} {gs : List Generator} → Valid n gs → (w : Word) → 0 < length (fixing gs w)
fixing-positive {gs = gs} v w = length-positive 0 (fixing gs w) ((fixing_all gs w 0).1 (order_of_positive gs (valid_positive v), reach-zero gs w))

module _ {n : ℕ} {gs : List Generator} (v : Valid n gs) (w : Word) (e : length w ≡ n) where
  pub fixes-add : (i j : ℕ) → fixes gs w i ≡ true → fixes gs w j ≡ true → fixes gs w (add gs i j) ≡ true
  fixes-add i j h k =
      fixes_intro gs w (add gs i j) (reach-add v i j w e ∙ ap (reach gs j) (fixes_elim gs w i h) ∙ fixes_elim gs w j k)

  pub fixes-inverse : (i : ℕ) → fixes gs w i ≡ true → fixes gs w (inverse gs i) ≡ true
  fixes-inverse i h =
      fixes_intro gs w (inverse gs i) (ap (reach gs (inverse gs i)) (sym (fixes_elim gs w i h)) ∙ reach-inverse v i w e)

  fixes-along : (u : Word) → is_in u (orbit gs w) ≡ true → (i : ℕ) → fixes gs w i ≡ true → fixes gs u i ≡ true
  fixes-along u h i k =
      let (j, l, a) = orbit_elim gs w u h in
      fixes_intro gs u i (ap (reach gs i) a ∙ reach-comm v i j w e ∙ ap (reach gs j) (fixes_elim gs w i k) ∙ sym a)

  -- each word of the orbit is reached as often as the word itself
  pub count-reaching : (u : Word) → is_in u (orbit gs w) ≡ true → count (λ i. same (reach gs i w) u) (below (order_of gs)) ≡ length (fixing gs w)
  unfolding fixing
  count-reaching u h =
      count_bijection (below N) (below N) (λ i. same (reach gs i w) u) (fixes gs w) (λ i. add gs i (inverse gs k)) (λ i. add gs i k)
      (no_repeats_below N) (no_repeats_below N) there back
      ∙ count-select (fixes gs w) (below N)
    where
      N : ℕ
      N = order_of gs

      k : ℕ
      k = (orbit_elim gs w u h).0

      reaches : u ≡ reach gs k w
      reaches = (orbit_elim gs w u h).2

      there :
          (i : ℕ) → Member i (below N) → same (reach gs i w) u ≡ true
          → Member (add gs i (inverse gs k)) (below N) × (fixes gs w (add gs i (inverse gs k)) ≡ true) × (add gs (add gs i (inverse gs k)) k ≡ i)
      there i m t = (
        member_below N (add gs i (inverse gs k)) (add-below gs (valid_positive v) i (inverse gs k)),
        fixes_intro gs w (add gs i (inverse gs k))
            (reach-add v i (inverse gs k) w e ∙ ap (reach gs (inverse gs k)) (same_eq (reach gs i w) u t ∙ reaches) ∙ reach-inverse v k w e),
        add-redo gs (valid_positive v) i k (of_member_below N i m),
      )

      back :
          (i : ℕ) → Member i (below N) → fixes gs w i ≡ true
          → Member (add gs i k) (below N) × (same (reach gs (add gs i k) w) u ≡ true) × (add gs (add gs i k) (inverse gs k) ≡ i)
      back i m t = (
        member_below N (add gs i k) (add-below gs (valid_positive v) i k),
        ap (λ (x : Word). same x u) (reach-add v i k w e ∙ ap (reach gs k) (fixes_elim gs w i t) ∙ sym reaches) ∙ same_refl u,
        add-undo gs (valid_positive v) i k (of_member_below N i m),
      )

  -- the pairs of an index and the word that it reaches, counted by indices and by words
  pub orbit-stabilizer : order_of gs ≡ length (orbit gs w) * length (fixing gs w)
  orbit-stabilizer =
      sym (length-below N)
      ∙ sym (mul-one (length (below N)))
      ∙ sym (total-const 1 (below N))
      ∙ total-cong (λ i. 1) (λ i. count (λ u. same (reach gs i w) u) (orbit gs w)) (below N) (λ i m. sym (one i m))
      ∙ total-count-swap (λ i u. same (reach gs i w) u) (below N) (orbit gs w)
      ∙ total-cong (λ u. count (λ i. same (reach gs i w) u) (below N)) (λ u. length (fixing gs w)) (orbit gs w) (λ u m. count-reaching u (is_in_intro u (orbit gs w) m))
      ∙ total-const (length (fixing gs w)) (orbit gs w)
    where
      N : ℕ
      N = order_of gs

      one : (i : ℕ) → Member i (below N) → count (λ u. same (reach gs i w) u) (orbit gs w) ≡ 1
      one i m =
          count_one (reach gs i w) (orbit gs w) (orbit_no_repeats gs w)
          (is_in_elim (reach gs i w) (orbit gs w) (orbit_intro gs w i (of_member_below N i m)))

  pub orbit_size_is : orbit_size gs w ≡ length (orbit gs w)
  unfolding orbit_size
  orbit_size_is = div-eq_of_eq-mul_left (fixing-positive v w) orbit-stabilizer

  pub fixing-divides : order_of gs % length (fixing gs w) ≡ 0
  fixing-divides = rw orbit-stabilizer (mul-mod_left (length (orbit gs w)) (length (fixing gs w)))

-- the words of one orbit are fixed by the same indices
pub fixes-orbit :
    {n : ℕ} {gs : List Generator} → Valid n gs → (w : Word) → length w ≡ n → (u : Word) → is_in u (orbit gs w) ≡ true → (i : ℕ)
    → fixes gs u i ≡ fixes gs w i
fixes-orbit {gs = gs} v w e u h i =
    bool_ext (fixes gs u i) (fixes gs w i)
    (fixes-along v u (orbit-length gs w u h ∙ e) w (orbit-symmetric v w e u h) i)
    (fixes-along v w e u h i)
