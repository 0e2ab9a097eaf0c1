-- Nothing is lost: the pairs of a reduced mode list and a representative of n letters that it keeps are as many as the words of n letters, 4 ^ n.
-- What carries it: a representative is kept by as many mode lists as its orbit has words (`kept-lists`), and every word of n letters is in the
-- orbit of exactly one representative, its least word.
use Prim.Native.Nat.{ℕ, zero, suc, ◌*◌, ◌^◌}
use native.Mathlib.Nat.{mul-one, pow-succ', suc_inj, suc-ne-zero}
use native.Mathlib.Omega.{arith}
use mathlib.Core.Path.{◌≡◌, refl, sym, ◌∙◌, ap}
use mathlib.Core.Logic.{◌↔◌, inl, inr}
use mathlib.Core.Bool.{Bool, true}
use mathlib.Core.List.{List, [], ◌∷◌, map}
use lib.IntN.{ℤ, pos}
use lib.ListN.{length, replicate}
use Rattle.pauli_word.specs.Word.{Letter, I, X, Y, Z, Word, same_letter, same}
use Rattle.pauli_word.proofs.WordOrder.{same_refl, same_eq}
use Rattle.action.specs.Arithmetic.{product}
use Rattle.action.specs.Lists.{below, Member, count, NoRepeats}
use Rattle.action.specs.Permutation.{Generator, Valid}
use Rattle.action.specs.Orbit.{is_in, orbit, least, is_representative}
use Rattle.action.specs.Sector.{keeps}
use Rattle.action.specs.Count.{all_words, all_modes, representatives, kept_lists, kept_pairs}
use Rattle.action.proofs.Lists.{Chosen, no_repeats_below, of-member-map, no_repeats_map, member-select, of-member-select, no_repeats_select, member-choices, of-member-choices, no_repeats_choices, length-choices, total-cong, total-const, total-count-swap, count-true, count-pos, count_bijection}
use Rattle.action.proofs.Canonical.{is_in_intro, is_in_elim, orbit-length, least-length, least-same, least-own, orbit-of-least}
use Rattle.action.proofs.Stabilizer.{count_one, orbit_no_repeats}
use Rattle.action.proofs.Kept.{kept-lists}

-- the words of n letters

abbrev letters : List Letter
letters = I ∷ X ∷ Y ∷ Z ∷ []

letters_all : (a : Letter) → Member a letters
letters_all I = inl refl
letters_all X = inr (inl refl)
letters_all Y = inr (inr (inl refl))
letters_all Z = inr (inr (inr (inl refl)))

-- a letter that is the same as none of a list is no member
letter-fresh : (a : Letter) (xs : List Letter) → same_letter a a ≡ true → count (same_letter a) xs ≡ 0 → Member a xs → ⊥
letter-fresh a xs r none m = omega (arith, count-pos (same_letter a) xs a m r)

letters_no_repeats : NoRepeats letters
unfolding count
letters_no_repeats =
    (letter-fresh I (X ∷ Y ∷ Z ∷ []) refl refl, (letter-fresh X (Y ∷ Z ∷ []) refl refl, (letter-fresh Y (Z ∷ []) refl refl, (λ m. m, tt))))

member_replicate : {A : Type 0} (n : ℕ) (a b : A) → Member b (replicate n a) → b ≡ a
member_replicate zero a b m = absurd m
member_replicate (suc n) a b (inl e) = e
member_replicate (suc n) a b (inr m) = member_replicate n a b m

pub words_no_repeats : (n : ℕ) → NoRepeats (all_words n)
unfolding all_words
words_no_repeats n = no_repeats_choices (replicate n letters) (λ c m. rw (member_replicate n letters c m) letters_no_repeats)

pub words_all : (n : ℕ) (w : Word) → length w ≡ n → Member w (all_words n)
unfolding all_words
words_all n w h = member-choices (replicate n letters) w (chosen n w h)
  where
    chosen : (n : ℕ) (w : Word) → length w ≡ n → Chosen w (replicate n letters)
    chosen zero [] h = tt
    chosen zero (a ∷ w) h = absurd (suc-ne-zero (length w) h)
    chosen (suc n) [] h = absurd (suc-ne-zero n (sym h))
    chosen (suc n) (a ∷ w) h = (letters_all a, chosen n w (suc_inj h))

pub words_long : (n : ℕ) (w : Word) → Member w (all_words n) → length w ≡ n
unfolding all_words
words_long n w m = long n w (of-member-choices (replicate n letters) w m)
  where
    long : (n : ℕ) (w : Word) → Chosen w (replicate n letters) → length w ≡ n
    long zero [] h = refl
    long zero (a ∷ w) h = absurd h
    long (suc n) [] h = absurd h
    long (suc n) (a ∷ w) h = ap suc (long n w h.1)

pub words_count : (n : ℕ) → length (all_words n) ≡ 4 ^ n
unfolding all_words product
words_count n = length-choices (replicate n letters) ∙ power n
  where
    power : (n : ℕ) → product (map length (replicate n letters)) ≡ 4 ^ n
    power zero = refl
    power (suc n) = ap (λ (x : ℕ). 4 * x) (power n) ∙ sym (pow-succ' 4 n)

-- the mode lists

pub modes_no_repeats : (gs : List Generator) → NoRepeats (all_modes gs)
unfolding all_modes
modes_no_repeats gs = no_repeats_choices (map (λ g. map pos (below g.order)) gs) each
  where
    each : (c : List ℤ) → Member c (map (λ g. map pos (below g.order)) gs) → NoRepeats c
    each c m =
        let (g, k, e) = of-member-map (λ g. map pos (below g.order)) gs c m in
        rw e (no_repeats_map pos (below g.order) (λ a b h l e. cc) (no_repeats_below g.order))

-- the representatives

pub representatives_all : (gs : List Generator) (n : ℕ) (r : Word) → Member r (representatives gs n) ↔ ((length r ≡ n) × (least gs r ≡ r))
unfolding representatives is_representative
representatives_all gs n r = (there, back)
  where
    there : Member r (representatives gs n) → (length r ≡ n) × (least gs r ≡ r)
    there m = let (k, e) = of-member-select (is_representative gs) (all_words n) r m in (words_long n r k, same_eq (least gs r) r e)

    back : (length r ≡ n) × (least gs r ≡ r) → Member r (representatives gs n)
    back h = member-select (is_representative gs) (all_words n) r (words_all n r h.0) (ap (λ (u : Word). same u r) h.1 ∙ same_refl r)

pub representatives_no_repeats : (gs : List Generator) (n : ℕ) → NoRepeats (representatives gs n)
unfolding representatives
representatives_no_repeats gs n = no_repeats_select (is_representative gs) (all_words n) (words_no_repeats n)

module _ {n : ℕ} {gs : List Generator} (v : Valid n gs) where
  least-listed : (w : Word) → Member w (all_words n) → Member (least gs w) (representatives gs n)
  least-listed w m =
      let e : length w ≡ n = words_long n w m in
      (representatives_all gs n (least gs w)).1 (least-length v w ∙ e, least-own v w e)

  -- the orbit of a representative is the words that have it as their least word
  orbit-count : (r : Word) → Member r (representatives gs n) → length (orbit gs r) ≡ count (λ w. same (least gs w) r) (all_words n)
  orbit-count r m =
      sym (count-true (orbit gs r))
      ∙ count_bijection (orbit gs r) (all_words n) (λ u. true) (λ w. same (least gs w) r) (λ u. u) (λ w. w) (orbit_no_repeats gs r)
      (words_no_repeats n) there back
    where
      long : length r ≡ n
      long = ((representatives_all gs n r).0 m).0

      own : least gs r ≡ r
      own = ((representatives_all gs n r).0 m).1

      there : (u : Word) → Member u (orbit gs r) → true ≡ true → Member u (all_words n) × (same (least gs u) r ≡ true) × (u ≡ u)
      there u k t =
          let h : is_in u (orbit gs r) ≡ true = is_in_intro u (orbit gs r) k in
          (words_all n u (orbit-length gs r u h ∙ long), ap (λ (x : Word). same x r) (least-same v r long u h ∙ own) ∙ same_refl r, refl)

      back : (w : Word) → Member w (all_words n) → same (least gs w) r ≡ true → Member w (orbit gs r) × (true ≡ true) × (w ≡ w)
      back w k t =
          (is_in_elim w (orbit gs r) (orbit-of-least v r long w (words_long n w k) (same_eq (least gs w) r t ∙ sym own)), refl, refl)

  -- by any test that says which mode lists keep a word
  pub kept-pairs :
      (kept : List ℤ → Word → Bool)
      → ((w : Word) (ks : List ℤ) → length w ≡ n → Member ks (all_modes gs) → kept ks w ≡ keeps gs ks w)
      → kept_pairs kept gs n ≡ 4 ^ n
  unfolding kept_pairs representatives
  kept-pairs kept h =
      total-cong (kept_lists kept gs) (λ r. count (λ w. same (least gs w) r) (all_words n)) (representatives gs n) each
      ∙ total-count-swap (λ r w. same (least gs w) r) (representatives gs n) (all_words n)
      ∙ total-cong (λ w. count (same (least gs w)) (representatives gs n)) (λ w. 1) (all_words n)
      (λ w m. count_one (least gs w) (representatives gs n) (representatives_no_repeats gs n) (least-listed w m))
      ∙ total-const 1 (all_words n)
      ∙ mul-one (length (all_words n))
      ∙ words_count n
    where
      each : (r : Word) → Member r (representatives gs n) → kept_lists kept gs r ≡ count (λ w. same (least gs w) r) (all_words n)
      each r m =
          let long : length r ≡ n = ((representatives_all gs n r).0 m).0 in
          kept-lists v r long kept (λ ks k. h r ks long k) ∙ orbit-count r m
