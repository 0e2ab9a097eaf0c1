-- What the checks of a word come to, rule by rule, and that a word which passes them is accepted.
use Prim.Native.Nat.{ℕ, ◌/◌, ◌<◌, ◌≤◌}
use mathlib.Core.Path.{◌≡◌, refl, sym, ap, ◌∙◌}
use mathlib.Core.Logic.{inl, inr}
use mathlib.Core.Bool.{Bool, true, false, ◌&&◌, ◌||◌, and-eq-true_iff}
use mathlib.Core.List.{List, [], ◌∷◌}
use native.Mathlib.Decide.{ℕ_discrete}
use native.Mathlib.Omega.{arith}
use lib.Dec.{eqb, ltb}
use lib.ListN.{length, take, drop}
use borrow.Author.Tests.{lt-ltb, le-ltb, eq-eqb, ne_eqb, ltb-false, eqb-true, not-false}
use Rattle.outcome.specs.declared.Refusal.TheVariants as Refusal
use Rattle.outcome.specs.Outcome.{answer, verdict, refusal_of}
use Rattle.outcome.proofs.Outcomes.{verdict-fine}
use Rattle.pauli_word.specs.Limits.{max_sites, plane_length, word_length, old_plane_length, old_sites, old_length}
use Rattle.pauli_word.specs.Bytes.{clear_from, Bytes, EitherLength, EitherWord, in_full}
use Rattle.pauli_word.specs.Calls.{word_checks, clear_above, either_length, past_old, site_count, word_size, old_size, bit_above, compare_checks}
use Rattle.pauli_word.proofs.Forms.{full_same, either-length, either-accepted, full-clear}

-- ---- the tests of a length

pub either_true : (k : ℕ) → EitherLength k → either_length k ≡ true
unfolding either_length
either_true k (inl e) = simp (eq-eqb k word_length e)
either_true k (inr e) = rw (ne_eqb k word_length (λ w. omega arith), eq-eqb k old_length e)

pub either-told : (k : ℕ) → either_length k ≡ true → EitherLength k
unfolding either_length
either-told k e = go (ℕ_discrete k word_length)
  where
    go : Dec (k ≡ word_length) → EitherLength k
    go (yes w) = inl w
    go (no d) = inr (eqb-true k old_length (sym (ap (λ (b : Bool). b || eqb k old_length) (ne_eqb k word_length d)) ∙ e))

-- a word in full is none of the old form
pub past_full : (n k : ℕ) → k ≡ word_length → past_old n k ≡ false
unfolding past_old
past_full n k e = rw (ne_eqb k old_length (λ old. omega arith))

-- one of the old form has few sites, or is past it
pub past_few : (n k : ℕ) → n ≤ old_sites → past_old n k ≡ false
unfolding past_old
past_few n k h = go (eqb k old_length)
  where
    go : (b : Bool) → (b && ltb old_sites n) ≡ false
    go true = le-ltb old_sites n h
    go false = refl

few_old : (n k : ℕ) → k ≡ old_length → past_old n k ≡ false → n ≤ old_sites
unfolding past_old
few_old n k e p = ltb-false old_sites n (sym (ap (λ (b : Bool). b && ltb old_sites n) (eq-eqb k old_length e)) ∙ p)

-- ---- the checks of one word

module _ (n : ℕ) (bytes : List ℕ) where
  pub too-many-sites : max_sites < n → verdict (word_checks n bytes) ≡ refusal_of Refusal.TooManySites
  too-many-sites h = simp (lt-ltb max_sites n h)

  module _ (few : n ≤ max_sites) where
    pub other_length : either_length (length bytes) ≡ false → verdict (word_checks n bytes) ≡ refusal_of Refusal.WordLength
    other_length e = simp (le-ltb max_sites n few, e)

    module _ (either : either_length (length bytes) ≡ true) where
      pub past-old : past_old n (length bytes) ≡ true → verdict (word_checks n bytes) ≡ refusal_of Refusal.OldWordSites
      past-old p = simp (le-ltb max_sites n few, either, p)

      module _ (fits : past_old n (length bytes) ≡ false) where
        pub bit-above : clear_above n (in_full bytes) ≡ false → verdict (word_checks n bytes) ≡ refusal_of Refusal.BitAboveSites
        bit-above above = simp (le-ltb max_sites n few, either, fits, above)

        pub passes : clear_above n (in_full bytes) ≡ true → verdict (word_checks n bytes) ≡ answer tt
        passes clear = simp (le-ltb max_sites n few, either, fits, clear)

-- ---- a word that passes is accepted, and an accepted word passes

module _ (n : ℕ) (bytes : List ℕ) where
  -- by the tests of its length, of 36 and of 17
  pub accepted-by : n ≤ max_sites → EitherLength (length bytes) → past_old n (length bytes) ≡ false → clear_above n (in_full bytes) ≡ true
      → Bytes bytes → EitherWord n bytes
  accepted-by few (inl e) p c small =
      let (x, z) = (and-eq-true_iff (clear_from n (take plane_length bytes)) (clear_from n (drop plane_length bytes))).0 (sym (ap (clear_above n) (full_same bytes e)) ∙ c) in
      inl (record { sites = few; long = e; small = small; x_clear = x; z_clear = z })
  accepted-by few (inr e) p c small =
      let (x, z) =
      (and-eq-true_iff (clear_from n (take old_plane_length bytes)) (clear_from n (drop old_plane_length bytes))).0
      (ap (λ (h : ℕ). clear_from n (take h bytes) && clear_from n (drop h bytes)) (old-half e) ∙ sym (full-clear bytes (inr e) n) ∙ c)
      in
      inr (record { sites = few_old n (length bytes) e p; long = e; small = small; x_clear = x; z_clear = z })
    where
      old-half : length bytes ≡ old_length → old_plane_length ≡ length bytes / 2
      old-half l = omega arith

  pub accepted : verdict (word_checks n bytes) ≡ answer tt → Bytes bytes → EitherWord n bytes
  accepted e small =
      let one = verdict-fine (site_count n) (word_size bytes ∷ old_size n bytes ∷ bit_above n bytes ∷ []) e in
      let size = verdict-fine (word_size bytes) (old_size n bytes ∷ bit_above n bytes ∷ []) one.1 in
      let old = verdict-fine (old_size n bytes) (bit_above n bytes ∷ []) size.1 in
      let above = verdict-fine (bit_above n bytes) [] old.1 in
      accepted-by (ltb-false max_sites n one.0) (either-told (length bytes) (not-false _ size.0)) old.0 (not-false _ above.0) small

  pub accepted-few : EitherWord n bytes → n ≤ max_sites
  accepted-few (inl ok) = ok.sites
  accepted-few (inr ok) = omega (arith, ok.sites)

  pub accepted-fits : EitherWord n bytes → past_old n (length bytes) ≡ false
  accepted-fits (inl ok) = past_full n (length bytes) ok.long
  accepted-fits (inr ok) = past_few n (length bytes) ok.sites

  pub accepted-clear : EitherWord n bytes → clear_above n (in_full bytes) ≡ true
  accepted-clear ok =
      let full = either-accepted n bytes ok in
      (and-eq-true_iff (clear_from n (take plane_length (in_full bytes))) (clear_from n (drop plane_length (in_full bytes)))).1 (full.x_clear, full.z_clear)

  pub accepted-passes : EitherWord n bytes → verdict (word_checks n bytes) ≡ answer tt
  accepted-passes ok =
      passes n bytes (accepted-few ok) (either_true (length bytes) (either-length n bytes ok)) (accepted-fits ok) (accepted-clear ok)

-- ---- two words, compared: 1, then 15 of either, then 36 of either, then 17 of either

module _ (n : ℕ) (a b : List ℕ) where
  pub compare-many : max_sites < n → verdict (compare_checks n a b) ≡ refusal_of Refusal.TooManySites
  compare-many h = simp (lt-ltb max_sites n h)

  module _ (few : n ≤ max_sites) where
    pub compare-first : either_length (length a) ≡ false → verdict (compare_checks n a b) ≡ refusal_of Refusal.WordLength
    compare-first e = simp (le-ltb max_sites n few, e)

    module _ (la : either_length (length a) ≡ true) where
      pub compare-second : either_length (length b) ≡ false → verdict (compare_checks n a b) ≡ refusal_of Refusal.WordLength
      compare-second e = simp (le-ltb max_sites n few, la, e)

      module _ (lb : either_length (length b) ≡ true) where
        pub compare-old : past_old n (length a) ≡ true → verdict (compare_checks n a b) ≡ refusal_of Refusal.OldWordSites
        compare-old p = simp (le-ltb max_sites n few, la, lb, p)

        module _ (fa : past_old n (length a) ≡ false) where
          pub compare-old-second : past_old n (length b) ≡ true → verdict (compare_checks n a b) ≡ refusal_of Refusal.OldWordSites
          compare-old-second p = simp (le-ltb max_sites n few, la, lb, fa, p)

          -- what is left: 17 of the one and of the other
          pub compare-left : past_old n (length b) ≡ false → verdict (compare_checks n a b) ≡ verdict (bit_above n a ∷ bit_above n b ∷ [])
          compare-left fb = simp (le-ltb max_sites n few, la, lb, fa, fb)

-- words that pass are both accepted
pub compare_accepted : (n : ℕ) (a b : List ℕ) → verdict (compare_checks n a b) ≡ answer tt → Bytes a → Bytes b → EitherWord n a × EitherWord n b
compare_accepted n a b e small small' =
    let one = verdict-fine (site_count n) (word_size a ∷ word_size b ∷ old_size n a ∷ old_size n b ∷ bit_above n a ∷ bit_above n b ∷ []) e in
    let first = verdict-fine (word_size a) (word_size b ∷ old_size n a ∷ old_size n b ∷ bit_above n a ∷ bit_above n b ∷ []) one.1 in
    let second = verdict-fine (word_size b) (old_size n a ∷ old_size n b ∷ bit_above n a ∷ bit_above n b ∷ []) first.1 in
    let third = verdict-fine (old_size n a) (old_size n b ∷ bit_above n a ∷ bit_above n b ∷ []) second.1 in
    let fourth = verdict-fine (old_size n b) (bit_above n a ∷ bit_above n b ∷ []) third.1 in
    let above = verdict-fine (bit_above n a) (bit_above n b ∷ []) fourth.1 in
    let last = verdict-fine (bit_above n b) [] above.1 in
    let few = ltb-false max_sites n one.0 in (
      accepted-by n a few (either-told (length a) (not-false _ first.0)) third.0 (not-false _ above.0) small,
      accepted-by n b few (either-told (length b) (not-false _ second.0)) fourth.0 (not-false _ last.0) small',
    )
