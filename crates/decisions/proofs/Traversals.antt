-- One traversal of the indices: what an index does to a word, by the bytes that it reaches, and how many of the indices so far fix the word.
-- What carries it: the numbers below i + 1 are those below i, and i (`below_next`), so that the test of index i takes what is known of the indices
-- below i to those below i + 1 (`passed-moves`, `passed-fixes`), or shows that the modes drop the word (`placed-broken`).
use Rattle.std.specs.declared.cmp.Ordering.{Ordering}
use Rattle.std.specs.declared.cmp.Ordering.TheVariants.{Equal}
use Prim.Native.Nat.{ℕ, ◌+◌, ◌≤◌, ◌<◌, ◌/◌}
use mathlib.Core.Path.{◌≡◌, refl, sym, ap, ◌∙◌}
use mathlib.Core.Logic.{⊎_elim}
use mathlib.Core.Bool.{Bool, true, false, ◌||◌, not, cond}
use mathlib.Core.List.{List, [], ◌∷◌, ◌++◌}
use native.Mathlib.Omega.{arith}
use lib.IntN.{ℤ}
use lib.ListN.{length}
use Rattle.pauli_word.specs.Limits.{plane_length}
use Rattle.pauli_word.specs.Word.{Word, same}
use Rattle.pauli_word.specs.Bytes.{plane_bits, AcceptedWord, letters_in, bytes_of}
use Rattle.pauli_word.specs.Calls.{order_of_bits}
use Rattle.pauli_word.proofs.Words.{decode-length, encoded-decode}
use Rattle.action.specs.Lists.{from, below, Member, count, every}
use Rattle.action.specs.Permutation.{Generator, Valid}
use Rattle.action.specs.Index.{order_of, inverse}
use Rattle.action.specs.Orbit.{reach, least, forward, fixes, fixing, index_back, orbit_size}
use Rattle.action.specs.Sector.{trivial, keeps, breaks, dropped_by}
use Rattle.action.proofs.Lists.{member_below, length-below, of-member-append, every-intro, every-elim, count-select, count-append}
use Rattle.action.proofs.Dropped.{breaks-test, keeps-broken, dropped-is}
use Rattle.action.proofs.Reach.{reach-length}
use Rattle.action.proofs.Stabilizer.{fixing-positive}
use Rattle.elements.specs.HeldGroup.{generators_in, Tables}
use Rattle.elements.proofs.Orbits.{below_next, walk-accepted}
use Rattle.elements.proofs.LeastSoFar.{same_taken, same_left}
use Rattle.row_lists.specs.Rows.{no_word}
use Rattle.decisions.specs.declared.placement.Placement.{Placement}
use Rattle.decisions.specs.declared.placement.Placement.TheVariants as Placement
use Rattle.decisions.specs.declared.stabilizer.Test.{Test}
use Rattle.decisions.specs.declared.stabilizer.Test.TheVariants as Test
use Rattle.decisions.specs.Decisions.{Decision, kept, dropped, Row, decision, row_word}
use Rattle.decisions.specs.Placements.{test_of, placement_of}
use Rattle.decisions.proofs.Placing.{drops-placed, drops-word}

-- ---- tests of the numbers below i + 1

count_few : {A : Type 0} (p : A → Bool) (xs : List A) → count p xs ≤ length xs
unfolding count
count_few p [] = omega arith
count_few p (a ∷ xs) = go (p a) (count_few p xs)
  where
    go : (b : Bool) → count p xs ≤ length xs → cond b 1 0 + count p xs ≤ length (a ∷ xs)
    go true h = omega arith
    go false h = omega arith

module _ (p : ℕ → Bool) (i : ℕ) where
  pub count_next : count p (below (i + 1)) ≡ count p (below i) + cond (p i) 1 0
  unfolding count
  count_next = ap (count p) (below_next i) ∙ count-append p (below i) (i ∷ []) ∙ omega arith

  every-next : every p (below i) ≡ true → p i ≡ true → every p (below (i + 1)) ≡ true
  every-next h k = rw (below_next i) (every-intro p (below i ++ (i ∷ [])) each)
    where
      last : (j : ℕ) → Member j (i ∷ []) → p j ≡ true
      last j m = ⊎_elim (λ e. ap p e ∙ k) (λ z. absurd z) m

      each : (j : ℕ) → Member j (below i ++ (i ∷ [])) → p j ≡ true
      each j m = ⊎_elim (every-elim p (below i) h j) (last j) (of-member-append (below i) (i ∷ []) j m)

-- ---- what an index does to a word

module _ (gs : List Generator) (ks : List ℤ) (w : Word) (i : ℕ) where
  pub test-moves : fixes gs w i ≡ false → Test.Moves ≡ test_of gs ks w i
  test-moves f = rw f

  pub test-fixes : fixes gs w i ≡ true → trivial gs ks i ≡ true → Test.Fixes ≡ test_of gs ks w i
  test-fixes f t = rw (f, t)

  pub test-breaks : fixes gs w i ≡ true → trivial gs ks i ≡ false → Test.Breaks ≡ test_of gs ks w i
  test-breaks f t = rw (f, t)

  of-moves : test_of gs ks w i ≡ Test.Moves → fixes gs w i ≡ false
  of-moves = go (fixes gs w i) (trivial gs ks i)
    where
      go : (f t : Bool) → cond f (cond t Test.Fixes Test.Breaks) Test.Moves ≡ Test.Moves → f ≡ false
      go true true e = let z : ◌≡◌ {A = ℕ} 0 1 = cc in absurd (omega arith)
      go true false e = let z : ◌≡◌ {A = ℕ} 0 1 = cc in absurd (omega arith)
      go false t e = refl

  of-fixes : test_of gs ks w i ≡ Test.Fixes → (fixes gs w i ≡ true) × (trivial gs ks i ≡ true)
  of-fixes = go (fixes gs w i) (trivial gs ks i)
    where
      go : (f t : Bool) → cond f (cond t Test.Fixes Test.Breaks) Test.Moves ≡ Test.Fixes → (f ≡ true) × (t ≡ true)
      go true true e = (refl, refl)
      go true false e = let z : ◌≡◌ {A = ℕ} 0 1 = cc in absurd (omega arith)
      go false t e = let z : ◌≡◌ {A = ℕ} 0 1 = cc in absurd (omega arith)

  of-breaks : test_of gs ks w i ≡ Test.Breaks → (fixes gs w i ≡ true) × (trivial gs ks i ≡ false)
  of-breaks = go (fixes gs w i) (trivial gs ks i)
    where
      go : (f t : Bool) → cond f (cond t Test.Fixes Test.Breaks) Test.Moves ≡ Test.Breaks → (f ≡ true) × (t ≡ false)
      go true true e = let z : ◌≡◌ {A = ℕ} 0 1 = cc in absurd (omega arith)
      go true false e = (refl, refl)
      go false t e = let z : ◌≡◌ {A = ℕ} 0 1 = cc in absurd (omega arith)

-- comparing the bytes that an index reaches with the word's says whether it fixes the word
module _ {k n : ℕ} {targets orders : List ℕ} (t : Tables k n targets orders) {word : List ℕ} (ok : AcceptedWord n word)
    (i : ℕ) {here : List ℕ} (e : here ≡ bytes_of (reach (generators_in k n targets orders) i (letters_in n word)))
    {o : Ordering} (eo : o ≡ order_of_bits (plane_bits here) (plane_bits word)) where
  abbrev gs : List Generator
  gs = generators_in k n targets orders

  abbrev w : Word
  w = letters_in n word

  accepted : AcceptedWord n here
  accepted = walk-accepted t w (decode-length ok) i e

  reached : same (letters_in n here) w ≡ fixes gs w i
  unfolding fixes
  reached = ap (λ (u : Word). same u w) (encoded-decode plane_length (reach gs i w) (reach-length gs i w ∙ decode-length ok) t.sites e)

  pub bytes-fixed : o ≡ Equal → fixes gs w i ≡ true
  bytes-fixed h = sym reached ∙ same_taken accepted ok eo h

  pub bytes-moved : (o ≡ Equal → ⊥) → fixes gs w i ≡ false
  bytes-moved h = sym reached ∙ same_left accepted ok eo h

-- ---- the indices so far

-- k of the indices below i fix the word, and each of those has numerator 0
abbrev pub Passed : List Generator → List ℤ → Word → ℕ → ℕ → Type 0
Passed gs ks w i k = (k ≡ count (fixes gs w) (below i)) × (every (λ j. not (fixes gs w j) || trivial gs ks j) (below i) ≡ true)

module _ (gs : List Generator) (ks : List ℤ) (w : Word) where
  pub passed_start : Passed gs ks w 0 0
  unfolding below from count every
  passed_start = (refl, refl)

  module _ (i : ℕ) {k : ℕ} (p : Passed gs ks w i k) where
    pub passed-few : k ≤ i
    passed-few = omega (arith, p.0, count_few (fixes gs w) (below i), length-below i)

    -- m of the indices below i + 1 fix the word
    pub passed-moves : {m : ℕ} → test_of gs ks w i ≡ Test.Moves → m ≡ k → Passed gs ks w (i + 1) m
    passed-moves e same =
        let f : fixes gs w i ≡ false = of-moves gs ks w i e in (
          same ∙ p.0 ∙ sym (count_next (fixes gs w) i ∙ rw f (omega arith)),
          every-next (λ j. not (fixes gs w j) || trivial gs ks j) i p.1 (rw f),
        )

    pub passed-fixes : {m : ℕ} → test_of gs ks w i ≡ Test.Fixes → m ≡ k + 1 → Passed gs ks w (i + 1) m
    passed-fixes e more =
        let (f, t) = of-fixes gs ks w i e in (
          more ∙ ap (λ (j : ℕ). j + 1) p.0 ∙ sym (count_next (fixes gs w) i ∙ rw f),
          every-next (λ j. not (fixes gs w j) || trivial gs ks j) i p.1 (rw (f, t)),
        )

    -- after the last index
    module _ (e : i ≡ order_of gs) where
      all-kept : keeps gs ks w ≡ true
      unfolding keeps
      all-kept = rw (← e) p.1

      all-fixing : k ≡ length (fixing gs w)
      unfolding fixing
      all-fixing = p.0 ∙ count-select (fixes gs w) (below i) ∙ rw e

      pub fixing-some : {n : ℕ} → Valid n gs → 0 < k
      fixing-some v = rw all-fixing (fixing-positive v w)

      -- by the inverse of the index that reaches the least word, and by the order
      pub placed-kept : {j b o : ℕ} → j ≡ forward gs w → b ≡ inverse gs j → o ≡ order_of gs → Placement.Kept b (o / k) ≡ placement_of (decision gs ks w)
      unfolding decision index_back orbit_size
      placed-kept h back order = rw (all-kept, back, h, order, all-fixing)

      pub word_kept : bytes_of (least gs w) ≡ row_word (decision gs ks w)
      unfolding decision
      word_kept = rw all-kept

    -- the first index that breaks the word
    module _ (inside : i < order_of gs) (e : test_of gs ks w i ≡ Test.Breaks) where
      broken : breaks gs ks w i ≡ true
      unfolding breaks
      broken = let (f, t) = of-breaks gs ks w i e in rw (f, t)

      none : (j : ℕ) → j < i → breaks gs ks w j ≡ false
      none j h = breaks-test gs ks w j ∙ ap not (every-elim _ (below i) p.1 j (member_below i j h))

      pub placed-broken : Placement.Dropped i ≡ placement_of (decision gs ks w)
      placed-broken = drops-placed gs ks w (keeps-broken gs ks w i inside broken) (dropped-is gs ks w i inside broken none)

      pub word-broken : no_word ≡ row_word (decision gs ks w)
      word-broken = drops-word gs ks w (keeps-broken gs ks w i inside broken)

-- ---- what the numbers of a decision say of it

module _ (d : Decision Row) where
  pub placed-dropped : {i : ℕ} → placement_of d ≡ Placement.Dropped i → d ≡ dropped i
  placed-dropped {i} e = go d e
    where
      go : (x : Decision Row) → placement_of x ≡ Placement.Dropped i → x ≡ dropped i
      go (kept r) h = let z : ◌≡◌ {A = ℕ} 0 1 = cc in absurd (omega arith)
      go (dropped j) h = cc

  pub placed_row : {i size : ℕ} → placement_of d ≡ Placement.Kept i size → (r : Row) × (d ≡ kept r) × (r.index ≡ i) × (r.size ≡ size)
  placed_row {i} {size} e = go d e
    where
      go : (x : Decision Row) → placement_of x ≡ Placement.Kept i size → (r : Row) × (x ≡ kept r) × (r.index ≡ i) × (r.size ≡ size)
      go (kept r) h = (r, refl, cc, cc)
      go (dropped j) h = let z : ◌≡◌ {A = ℕ} 0 1 = cc in absurd (omega arith)

  -- beside a dropped word stand zeros
  pub placed-zeros : {i : ℕ} → placement_of d ≡ Placement.Dropped i → no_word ≡ row_word d
  placed-zeros e = ap row_word (sym (placed-dropped e))

-- beside a kept word stands the least word
pub placed-least : (gs : List Generator) (ks : List ℤ) (w : Word) {i size : ℕ} → placement_of (decision gs ks w) ≡ Placement.Kept i size
    → bytes_of (least gs w) ≡ row_word (decision gs ks w)
unfolding decision
placed-least gs ks w {i} {size} =
    go (keeps gs ks w) (record { word = least gs w; index = index_back gs w; size = orbit_size gs w }) (dropped_by gs ks w) refl
  where
    go : (b : Bool) (r : Row) (j : ℕ) → r.word ≡ least gs w → placement_of (cond b (kept r) (dropped j)) ≡ Placement.Kept i size
        → bytes_of (least gs w) ≡ row_word (cond b (kept r) (dropped j))
    go true r j h e = ap bytes_of (sym h)
    go false r j h e = let z : ◌≡◌ {A = ℕ} 0 1 = cc in absurd (omega arith)
