-- What the checks of a group value and a word come to, rule by rule, and what checks that pass have shown.
-- What carries it: the first rule that is broken decides, and a pass breaks none.
use Prim.Native.Nat.{ℕ, ◌<◌, ◌≤◌}
use mathlib.Core.Path.{◌≡◌, refl, sym, ap, subst, ◌∙◌}
use mathlib.Core.Bool.{true, false, not}
use mathlib.Core.List.{List, [], ◌∷◌}
use lib.Dec.{ltb, eqb}
use lib.ListN.{length}
use borrow.Author.Tests.{lt-ltb, le-ltb, ltb-false, eq-eqb, ne_eqb, eqb-true, not-false}
use Rattle.outcome.specs.declared.Refusal.TheVariants as Refusal
use Rattle.outcome.specs.Outcome.{answer, refusal_of, verdict, Check}
use Rattle.outcome.proofs.Outcomes.{verdict-fine}
use Rattle.pauli_word.specs.Limits.{max_sites}
use Rattle.pauli_word.specs.Bytes.{Bytes, AcceptedWord, EitherLength, EitherWord, in_full}
use Rattle.pauli_word.specs.Calls.{site_count, word_size, old_size, bit_above, clear_above, either_length, past_old}
use Rattle.pauli_word.proofs.Forms.{either-length, either-accepted}
use Rattle.pauli_word.proofs.Outcomes.{forms-full}
use Rattle.pauli_word.proofs.Checks.{either_true, either-told, accepted-by, accepted-fits, accepted-clear}
use Rattle.permutation.specs.Limits.{max_generators, target_places}
use Rattle.group.specs.declared.Group.{Group}
use Rattle.group.specs.Value.{is_group, notAGroup, AcceptedGroup}
use Rattle.group.proofs.Accepted.{accepted-by as group-accepted-by}
use Rattle.orbit.specs.Calls.{other_sites, word_call_checks}

-- ---- 1, 14, 15, 36, 16, 17

module _ (g : Group) (n : ℕ) (bytes : List ℕ) where
  pub group-many : max_sites < g.sites → verdict (word_call_checks g n bytes) ≡ refusal_of Refusal.TooManySites
  group-many h = simp (lt-ltb max_sites g.sites h)

  module _ (few : g.sites ≤ max_sites) where
    pub word-many : max_sites < n → verdict (word_call_checks g n bytes) ≡ refusal_of Refusal.TooManySites
    word-many h = simp (le-ltb max_sites g.sites few, lt-ltb max_sites n h)

    module _ (short : n ≤ max_sites) where
      pub group-other : is_group g ≡ false → verdict (word_call_checks g n bytes) ≡ refusal_of Refusal.InvalidValue
      group-other e = simp (le-ltb max_sites g.sites few, le-ltb max_sites n short, e)

      module _ (one : is_group g ≡ true) where
        pub other_length : either_length (length bytes) ≡ false → verdict (word_call_checks g n bytes) ≡ refusal_of Refusal.WordLength
        other_length e = simp (le-ltb max_sites g.sites few, le-ltb max_sites n short, one, e)

        module _ (either : either_length (length bytes) ≡ true) where
          pub past-old : past_old n (length bytes) ≡ true → verdict (word_call_checks g n bytes) ≡ refusal_of Refusal.OldWordSites
          past-old p = simp (le-ltb max_sites g.sites few, le-ltb max_sites n short, one, either, p)

          module _ (fits : past_old n (length bytes) ≡ false) where
            pub other-sites : (n ≡ g.sites → ⊥) → verdict (word_call_checks g n bytes) ≡ refusal_of Refusal.OtherSites
            other-sites h = simp (le-ltb max_sites g.sites few, le-ltb max_sites n short, one, either, fits, ne_eqb n g.sites h)

            module _ (same : n ≡ g.sites) where
              pub bit-above : clear_above n (in_full bytes) ≡ false → verdict (word_call_checks g n bytes) ≡ refusal_of Refusal.BitAboveSites
              bit-above e = simp (le-ltb max_sites g.sites few, le-ltb max_sites n short, one, either, fits, eq-eqb n g.sites same, e)

              pub word-passes : clear_above n (in_full bytes) ≡ true → verdict (word_call_checks g n bytes) ≡ answer tt
              word-passes e = simp (le-ltb max_sites g.sites few, le-ltb max_sites n short, one, either, fits, eq-eqb n g.sites same, e)

-- ---- what a pass has shown

module _ (g : Group) (n : ℕ) (bytes : List ℕ) (pass : verdict (word_call_checks g n bytes) ≡ answer tt) where
  -- the checks after each, from 1 on
  abbrev after16 : List Check
  after16 = bit_above n bytes ∷ []

  abbrev after36 : List Check
  after36 = other_sites g n ∷ after16

  abbrev after15 : List Check
  after15 = old_size n bytes ∷ after36

  abbrev after14 : List Check
  after14 = word_size bytes ∷ after15

  abbrev after1 : List Check
  after1 = notAGroup g ∷ after14

  one : (ltb max_sites g.sites ≡ false) × (verdict (site_count n ∷ after1) ≡ answer tt)
  one = verdict-fine (site_count g.sites) (site_count n ∷ after1) pass

  few : (ltb max_sites n ≡ false) × (verdict after1 ≡ answer tt)
  few = verdict-fine (site_count n) after1 one.1

  fourteen : (not (is_group g) ≡ false) × (verdict after14 ≡ answer tt)
  fourteen = verdict-fine (notAGroup g) after14 few.1

  fifteen : (not (either_length (length bytes)) ≡ false) × (verdict after15 ≡ answer tt)
  fifteen = verdict-fine (word_size bytes) after15 fourteen.1

  thirty-six : (past_old n (length bytes) ≡ false) × (verdict after36 ≡ answer tt)
  thirty-six = verdict-fine (old_size n bytes) after36 fifteen.1

  sixteen : (not (eqb n g.sites) ≡ false) × (verdict after16 ≡ answer tt)
  sixteen = verdict-fine (other_sites g n) after16 thirty-six.1

  pub call-group : length g.targets ≡ target_places → length g.orders ≡ max_generators → AcceptedGroup g
  call-group targets orders = group-accepted-by g targets orders one.0 fourteen.0

  pub call-sites : n ≡ g.sites
  call-sites = eqb-true n g.sites (not-false (eqb n g.sites) sixteen.0)

  pub call_long : EitherLength (length bytes)
  call_long = either-told (length bytes) (not-false (either_length (length bytes)) fifteen.0)

  pub call_fits : past_old n (length bytes) ≡ false
  call_fits = thirty-six.0

  pub call-word : Bytes bytes → EitherWord g.sites bytes
  call-word small =
      subst (λ (k : ℕ). EitherWord k bytes) call-sites
      (accepted-by n bytes (ltb-false max_sites n few.0) call_long call_fits
      (not-false (clear_above n (in_full bytes)) (verdict-fine (bit_above n bytes) [] sixteen.1).0) small)

-- ---- an accepted group and an accepted word of its sites pass

pub word_call_passes :
    (g : Group) → AcceptedGroup g → (bytes : List ℕ) → EitherWord g.sites bytes → verdict (word_call_checks g g.sites bytes) ≡ answer tt
word_call_passes g ok bytes word =
    word-passes g g.sites bytes ok.few ok.few ok.is_one (either_true (length bytes) (either-length g.sites bytes word))
    (accepted-fits g.sites bytes word) refl (accepted-clear g.sites bytes word)

-- ---- a word of the old form with no more sites than that form has is checked as the word in full is

pub checks_full :
    (g : Group) (n : ℕ) (bytes : List ℕ) → past_old n (length bytes) ≡ false → word_call_checks g n (in_full bytes) ≡ word_call_checks g n bytes
checks_full g n bytes fits = let same = forms-full n bytes fits in rw (same.0, same.1, same.2)

-- ---- a word that passes, in full: it is accepted, and passes with the group's own site count

module _ (g : Group) (n : ℕ) (bytes : List ℕ) (pass : verdict (word_call_checks g n bytes) ≡ answer tt) where
  pub full-passes : verdict (word_call_checks g g.sites (in_full bytes)) ≡ answer tt
  full-passes =
      ap (λ (m : ℕ). verdict (word_call_checks g m (in_full bytes))) (sym (call-sites g n bytes pass))
      ∙ ap verdict (checks_full g n bytes (call_fits g n bytes pass))
      ∙ pass

  pub full-word : Bytes bytes → AcceptedWord g.sites (in_full bytes)
  full-word small = either-accepted g.sites bytes (call-word g n bytes pass small)
