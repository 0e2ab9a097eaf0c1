-- The checks of the lists of a sum, rule by rule: the lists' lengths, and then the rows one after the other, each by its own rules; and what a
-- pass has shown. The contents and the rule of a content are any.
-- The fact that carries it: the checks from row i on are those of row i, and then those from the next row on (`checks-next`).
use Prim.Native.Nat.{ℕ, zero, suc, ◌+◌, ◌*◌, ◌/◌, ◌%◌, ◌≤◌, ◌<◌}
use mathlib.Core.Path.{◌≡◌, refl, sym, ap, ◌∙◌}
use mathlib.Core.Logic.{◌⊎◌, inl, inr}
use mathlib.Core.Bool.{Bool, true, false, ◌&&◌, ◌||◌, and-eq-true_iff, and-false, and-true, or-true}
use mathlib.Core.List.{List, [], ◌∷◌}
use native.Mathlib.Decide.{ℕ_discrete}
use native.Mathlib.Numerals.{add-one}
use native.Mathlib.Omega.{arith}
use lib.Dec.{eqb}
use lib.ListN.{length, get_or, drop, drop_of_length-le}
use lib.Seq.{drop-cons}
use borrow.Author.Tests.{lt-ltb, le-ltb, ltb-false, eq-eqb, ne_eqb, eqb-true, not-false}
use Rattle.outcome.specs.declared.Refusal.{Refusal}
use Rattle.outcome.specs.Outcome.{Outcome, answer, refused, refusal_of, verdict, given, Check}
use Rattle.outcome.proofs.Outcomes.{refused_apart, verdict-fine, verdict-append, front_refused}
use Rattle.pauli_word.specs.Limits.{max_sites, word_length, old_length}
use Rattle.pauli_word.specs.Bytes.{Bytes, EitherLength, in_full}
use Rattle.pauli_word.specs.Calls.{clear_above, past_old}
use Rattle.row_lists.specs.Rows.{max_rows, row_by, row_size, in_full_by, rows_in, rows_in_full}
use Rattle.row_lists.specs.Checks.{rows_agree, other_rows, many_rows, old_rows, bit_above_sites, row_rules, row_checks, list_checks, AcceptedRows}
use Rattle.row_lists.proofs.RowsIn.{rows-length, rows_at}
use Rattle.row_lists.proofs.InFull.{size-either, size-long, size-told, full-row, clear-accepted}

-- ---- the lists' lengths

-- what lists that pass have shown
pub record Agreeing (n words rows leasts first second : ℕ) : Type 0 where
  pub words_long : words ≡ row_size words rows * rows
  pub fits : past_old n (row_size words rows) ≡ false
  pub leasts_long : leasts ≡ word_length * rows
  pub first_long : first ≡ rows
  pub second_long : second ≡ rows
  pub few : rows ≤ max_rows

-- as many bytes as rows of one of the two forms have
abbrev pub words_agree : ℕ → ℕ → Bool
words_agree words rows = eqb words (word_length * rows) || eqb words (old_length * rows)

module _ (words rows : ℕ) where
  words-full : words ≡ word_length * rows → words_agree words rows ≡ true
  words-full e = rw (eq-eqb words (word_length * rows) e)

  words-old : (words ≡ word_length * rows → ⊥) → words_agree words rows ≡ eqb words (old_length * rows)
  words-old h = rw (ne_eqb words (word_length * rows) h)

  words-told : words_agree words rows ≡ true → words ≡ row_size words rows * rows
  words-told e = size-long words rows (go (ℕ_discrete words (word_length * rows)))
    where
      go : Dec (words ≡ word_length * rows) → (words ≡ word_length * rows) ⊎ (words ≡ old_length * rows)
      go (yes f) = inl f
      go (no h) = inr (eqb-true words (old_length * rows) (sym (words-old h) ∙ e))

  pub words-agree : words ≡ row_size words rows * rows → words_agree words rows ≡ true
  words-agree e = go (size-told words rows e)
    where
      go : (words ≡ word_length * rows) ⊎ (words ≡ old_length * rows) → words_agree words rows ≡ true
      go (inl f) = words-full f
      go (inr f) = ap (λ (b : Bool). eqb words (word_length * rows) || b) (eq-eqb words (old_length * rows) f) ∙ or-true (eqb words (word_length * rows))

module _ (words rows leasts first second : ℕ) where
  pub leasts-disagree : (leasts ≡ word_length * rows → ⊥) → false ≡ rows_agree words rows leasts first second
  leasts-disagree h = sym (simp (ne_eqb leasts (word_length * rows) h, and-false))

  pub first-disagree : (first ≡ rows → ⊥) → false ≡ rows_agree words rows leasts first second
  first-disagree h = sym (simp (ne_eqb first rows h, and-false))

  pub second-disagree : (second ≡ rows → ⊥) → false ≡ rows_agree words rows leasts first second
  second-disagree h = sym (simp (ne_eqb second rows h, and-false))

  module _ (l : leasts ≡ word_length * rows) (f : first ≡ rows) (s : second ≡ rows) where
    words-decide : rows_agree words rows leasts first second ≡ words_agree words rows
    words-decide = simp (eq-eqb leasts (word_length * rows) l, eq-eqb first rows f, eq-eqb second rows s, and-true)

    pub full-agree : words ≡ word_length * rows → true ≡ rows_agree words rows leasts first second
    full-agree e = sym (words-decide ∙ words-full words rows e)

    module _ (h : words ≡ word_length * rows → ⊥) where
      pub neither-agree : (words ≡ old_length * rows → ⊥) → false ≡ rows_agree words rows leasts first second
      neither-agree k = sym (words-decide ∙ words-old words rows h ∙ ne_eqb words (old_length * rows) k)

      pub old-decides : words % old_length ≡ 0 → eqb (words / old_length) rows ≡ rows_agree words rows leasts first second
      old-decides e = go (ℕ_discrete (words / old_length) rows) ∙ sym (words-decide ∙ words-old words rows h)
        where
          go : Dec (words / old_length ≡ rows) → eqb (words / old_length) rows ≡ eqb words (old_length * rows)
          go (yes k) = eq-eqb (words / old_length) rows k ∙ sym (eq-eqb words (old_length * rows) (omega arith))
          go (no k) = ne_eqb (words / old_length) rows k ∙ sym (ne_eqb words (old_length * rows) (λ d. k (omega arith)))

-- 22, 23, 36
module _ (n words rows leasts first second : ℕ) where
  abbrev pub length_checks : List Check
  length_checks = other_rows words rows leasts first second ∷ many_rows rows ∷ old_rows n words rows ∷ []

  pub lengths-disagree : rows_agree words rows leasts first second ≡ false → verdict length_checks ≡ refusal_of Refusal.SumLists
  lengths-disagree e = rw e

  module _ (e : rows_agree words rows leasts first second ≡ true) where
    pub lengths-many : max_rows < rows → verdict length_checks ≡ refusal_of Refusal.TooManyRows
    lengths-many h = rw (e, lt-ltb max_rows rows h)

    module _ (few : rows ≤ max_rows) where
      pub lengths-old : past_old n (row_size words rows) ≡ true → verdict length_checks ≡ refusal_of Refusal.OldWordSites
      lengths-old p = rw (e, le-ltb max_rows rows few, p)

      pub lengths-pass : past_old n (row_size words rows) ≡ false → verdict length_checks ≡ answer tt
      lengths-pass p = rw (e, le-ltb max_rows rows few, p)

  pub lengths-agree : verdict length_checks ≡ answer tt → Agreeing n words rows leasts first second
  lengths-agree e =
      let one = verdict-fine (other_rows words rows leasts first second) (many_rows rows ∷ old_rows n words rows ∷ []) e in
      let two = verdict-fine (many_rows rows) (old_rows n words rows ∷ []) one.1 in
      let w = words_agree words rows in
      let l = eqb leasts (word_length * rows) in
      let f = eqb first rows in
      let four = (and-eq-true_iff (w && l && f) (eqb second rows)).0 (not-false (rows_agree words rows leasts first second) one.0) in
      let three = (and-eq-true_iff (w && l) f).0 four.0 in
      let both = (and-eq-true_iff w l).0 three.0 in
      record {
        words_long = words-told words rows both.0;
        fits = (verdict-fine (old_rows n words rows) [] two.1).0;
        leasts_long = eqb-true leasts (word_length * rows) both.1;
        first_long = eqb-true first rows three.1;
        second_long = eqb-true second rows four.1;
        few = ltb-false max_rows rows two.0;
      }

-- the rows are of one of the two forms, by the size that the code has found
pub agreed_size : {n words rows leasts first second size : ℕ} → Agreeing n words rows leasts first second → size ≡ row_size words rows
    → EitherLength size × (words ≡ size * rows)
agreed_size {words} {rows} ok e = rw e (size-either words rows, ok.words_long)

-- ---- one row: its word, and then its content

module _ (n i : ℕ) (bytes : List ℕ) where
  pub row-clear : clear_above n bytes ≡ true → verdict (bit_above_sites n i bytes ∷ []) ≡ answer tt
  row-clear e = rw e

  pub row-above : clear_above n bytes ≡ false → verdict (bit_above_sites n i bytes ∷ []) ≡ refusal_of (Refusal.RowBitAboveSites i)
  row-above e = rw e

  module _ (own : Check) where
    pub own-refused : (why : Refusal) → verdict (bit_above_sites n i bytes ∷ []) ≡ refusal_of why → verdict (row_rules n i bytes own) ≡ refusal_of why
    own-refused = front_refused (bit_above_sites n i bytes ∷ []) (own ∷ [])

    pub own-decides : verdict (bit_above_sites n i bytes ∷ []) ≡ answer tt → verdict (row_rules n i bytes own) ≡ verdict (own ∷ [])
    own-decides e =
        verdict-append (bit_above_sites n i bytes ∷ []) (own ∷ []) ∙ ap (λ (v : Outcome (Unit {0})). given v (verdict (own ∷ []))) e

-- ---- the rows, one after the other

-- an answer after checks: they pass, and it is what comes after them
pub given-answered : {A : Type 0} (v : Outcome (Unit {0})) (o : Outcome A) (a : A) → given v o ≡ answer a → (v ≡ answer tt) × (o ≡ answer a)
given-answered (refused k vs) o a e = absurd (refused_apart k vs a e)
given-answered (answer t) o a e = (refl, e)

module _ {C : Type 0} (own : ℕ → C → Check) (d : C) (n size : ℕ) (words : List ℕ) (cs : List C) (either : EitherLength size) (long : length words ≡ size * length cs) where
  -- the words in full
  abbrev full : List ℕ
  full = in_full_by size (length cs) words

  -- what the checks of row i come to, and those of the rows from row i on
  abbrev pub own_verdict : ℕ → Outcome (Unit {0})
  own_verdict i = verdict (row_rules n i (in_full (row_by size words i)) (own i (get_or cs i d)))

  abbrev pub rest_verdict : ℕ → Outcome (Unit {0})
  rest_verdict i = verdict (row_checks own n i (drop i (rows_in full cs)))

  full_at : (i : ℕ) → i < length cs → get_or (rows_in full cs) i ([], d) ≡ (in_full (row_by size words i), get_or cs i d)
  full_at i h =
      rows_at full cs i d ([], d) h ∙ ap (λ (bytes : List ℕ). (bytes, get_or cs i d)) (full-row size either (length cs) words long i h)

  module _ (i : ℕ) where
    checks-next : i < length cs → rest_verdict i ≡ given (own_verdict i) (rest_verdict (suc i))
    checks-next h =
        ap (λ (rows : List (List ℕ × C)). verdict (row_checks own n i rows))
        (drop-cons (rows_in full cs) i ([], d) (omega (arith, rows-length full cs))
        ∙ ap (λ (row : List ℕ × C). row ∷ drop (suc i) (rows_in full cs)) (full_at i h))
        ∙ verdict-append (row_rules n i (in_full (row_by size words i)) (own i (get_or cs i d))) (row_checks own n (suc i) (drop (suc i) (rows_in full cs)))

    checks-by : {v : Outcome (Unit {0})} → i < length cs → own_verdict i ≡ v → rest_verdict i ≡ given v (rest_verdict (suc i))
    checks-by h e = checks-next h ∙ ap (λ (v : Outcome (Unit {0})). given v (rest_verdict (suc i))) e

    pub checks-refused : (why : Refusal) → i < length cs → own_verdict i ≡ refusal_of why → rest_verdict i ≡ refusal_of why
    checks-refused why h e = checks-by h e

    pub checks-pass : i < length cs → own_verdict i ≡ answer tt → rest_verdict i ≡ rest_verdict (i + 1)
    checks-pass h e = checks-by h e ∙ ap rest_verdict (sym (add-one i))

    pub checks-end : length cs ≤ i → rest_verdict i ≡ answer tt
    checks-end h =
        ap (λ (rows : List (List ℕ × C)). verdict (row_checks own n i rows))
        (drop_of_length-le (rows_in full cs) {i = i} (omega (arith, rows-length full cs)))

  -- ---- rows that pass

  module _ (pass : verdict (row_checks own n 0 (rows_in full cs)) ≡ answer tt) where
    own-and-rest : (i : ℕ) → i < length cs → rest_verdict i ≡ answer tt → (own_verdict i ≡ answer tt) × (rest_verdict (suc i) ≡ answer tt)
    own-and-rest i h e = given-answered (own_verdict i) (rest_verdict (suc i)) tt (sym (checks-next i h) ∙ e)

    rest-passes : (i : ℕ) → i ≤ length cs → rest_verdict i ≡ answer tt
    rest-passes zero h = pass
    rest-passes (suc i) h = (own-and-rest i h (rest-passes i (omega arith))).1

    own-passes : (i : ℕ) → i < length cs → own_verdict i ≡ answer tt
    own-passes i h = (own-and-rest i h (rest-passes i (omega arith))).0

    -- no bit of a row's word is above, and the rule of each content is kept
    word-fine : (i : ℕ) → i < length cs → clear_above n (in_full (row_by size words i)) ≡ true
    word-fine i h =
        not-false (clear_above n (in_full (row_by size words i)))
        (verdict-fine (bit_above_sites n i (in_full (row_by size words i))) (own i (get_or cs i d) ∷ []) (own-passes i h)).0

    pub own-fine : (i : ℕ) → i < length cs → (own i (get_or cs i d)).broken ≡ false
    own-fine i h =
        let word = verdict-fine (bit_above_sites n i (in_full (row_by size words i))) (own i (get_or cs i d) ∷ []) (own-passes i h) in
        (verdict-fine (own i (get_or cs i d)) [] word.1).0

    pub accepted-rows : n ≤ max_sites → Bytes words → length cs ≤ max_rows → AcceptedRows n full (length cs)
    accepted-rows short small few = clear-accepted size either words long short small few word-fine

-- ---- 22, 23, 36, and then the rows

module _ {C : Type 0} (own : ℕ → C → Check) (n : ℕ) (words : List ℕ) (cs : List C) (a b c : ℕ) where
  abbrev lengths : List Check
  lengths = length_checks n (length words) (length cs) a b c

  abbrev rows : List Check
  rows = row_checks own n 0 (rows_in (rows_in_full (length cs) words) cs)

  pub lists-refused : (why : Refusal) → verdict lengths ≡ refusal_of why → verdict (list_checks own n words cs a b c) ≡ refusal_of why
  lists-refused = front_refused lengths rows

  -- by the size that the code has found
  pub lists-rows : {size : ℕ} → size ≡ row_size (length words) (length cs) → verdict lengths ≡ answer tt
      → verdict (list_checks own n words cs a b c) ≡ verdict (row_checks own n 0 (rows_in (in_full_by size (length cs) words) cs))
  lists-rows e pass = rw e (verdict-append lengths rows ∙ ap (λ (v : Outcome (Unit {0})). given v (verdict rows)) pass)

  pub lists-fine : verdict (list_checks own n words cs a b c) ≡ answer tt → Agreeing n (length words) (length cs) a b c × (verdict rows ≡ answer tt)
  lists-fine e =
      let both = given-answered (verdict lengths) (verdict rows) tt (sym (verdict-append lengths rows) ∙ e) in
      (lengths-agree n (length words) (length cs) a b c both.0, both.1)
