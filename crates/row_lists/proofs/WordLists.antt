-- The checks of the lists of a call on rows of words alone, rule by rule: the lists' lengths, and then 17 of the rows one after the other; and what
-- a pass has shown.
-- The fact that carries it: the checks from row i on are that of row i, and then those from the next row on (`words-next`).
use Prim.Native.Nat.{ℕ, zero, suc, ◌+◌, ◌-◌, ◌*◌, ◌≤◌, ◌<◌}
use mathlib.Core.Path.{◌≡◌, sym, ap, ◌∙◌}
use mathlib.Core.Bool.{true}
use mathlib.Core.List.{List, [], ◌∷◌}
use native.Mathlib.Nat.{sub-zero}
use native.Mathlib.Numerals.{add-one}
use native.Mathlib.Omega.{arith}
use lib.ListN.{length}
use borrow.Author.Tests.{not-false}
use Rattle.outcome.specs.declared.Refusal.{Refusal}
use Rattle.outcome.specs.Outcome.{Outcome, answer, refusal_of, verdict, given, Check}
use Rattle.outcome.proofs.Outcomes.{verdict-fine, verdict-append, front_refused}
use Rattle.pauli_word.specs.Limits.{max_sites}
use Rattle.pauli_word.specs.Bytes.{Bytes, EitherLength, in_full}
use Rattle.pauli_word.specs.Calls.{clear_above}
use Rattle.row_lists.specs.Rows.{row_by, row_size, in_full_by, row_at, rows_in_full}
use Rattle.row_lists.specs.Checks.{bit_above_sites, bits_above_sites, word_list_checks, AcceptedRows}
use Rattle.row_lists.proofs.InFull.{size-either, full-row, clear-accepted}
use Rattle.row_lists.proofs.ListChecks.{Agreeing, length_checks, lengths-agree, given-answered}

-- ---- the rows, one after the other

module _ (n size k : ℕ) (words : List ℕ) (either : EitherLength size) (long : length words ≡ size * k) where
  -- the words in full
  abbrev full : List ℕ
  full = in_full_by size k words

  -- what the check of row i comes to, and those of the rows from row i on
  abbrev pub word_verdict : ℕ → Outcome (Unit {0})
  word_verdict i = verdict (bit_above_sites n i (in_full (row_by size words i)) ∷ [])

  abbrev pub words_verdict : ℕ → Outcome (Unit {0})
  words_verdict i = verdict (bits_above_sites n full i (k - i))

  -- from row 0 on they are the checks of all rows
  pub words-start : verdict (bits_above_sites n full 0 k) ≡ words_verdict 0
  words-start = ap (λ (m : ℕ). verdict (bits_above_sites n full 0 m)) (sym (sub-zero k))

  module _ (i : ℕ) where
    words-next : i < k → words_verdict i ≡ given (word_verdict i) (words_verdict (suc i))
    words-next h =
        let more : k - i ≡ suc (k - suc i) = omega arith in
        ap (λ (m : ℕ). verdict (bits_above_sites n full i m)) more
        ∙ verdict-append (bit_above_sites n i (row_at full i) ∷ []) (bits_above_sites n full (suc i) (k - suc i))
        ∙ ap (λ (bytes : List ℕ). given (verdict (bit_above_sites n i bytes ∷ [])) (words_verdict (suc i))) (full-row size either k words long i h)

    words-by : {v : Outcome (Unit {0})} → i < k → word_verdict i ≡ v → words_verdict i ≡ given v (words_verdict (suc i))
    words-by h e = words-next h ∙ ap (λ (v : Outcome (Unit {0})). given v (words_verdict (suc i))) e

    -- a row that is refused decides
    pub words-refused : (why : Refusal) → i < k → word_verdict i ≡ refusal_of why → words_verdict i ≡ refusal_of why
    words-refused why h e = words-by h e

    -- after a row that passes the next ones decide
    pub words-pass : i < k → word_verdict i ≡ answer tt → words_verdict i ≡ words_verdict (i + 1)
    words-pass h e = words-by h e ∙ ap words_verdict (sym (add-one i))

    -- past the last row all have passed
    pub words-end : k ≤ i → words_verdict i ≡ answer tt
    words-end h = let none : k - i ≡ 0 = omega arith in ap (λ (m : ℕ). verdict (bits_above_sites n full i m)) none

  -- ---- rows that pass

  module _ (pass : verdict (bits_above_sites n full 0 k) ≡ answer tt) where
    own-and-rest : (i : ℕ) → i < k → words_verdict i ≡ answer tt → (word_verdict i ≡ answer tt) × (words_verdict (suc i) ≡ answer tt)
    own-and-rest i h e = given-answered (word_verdict i) (words_verdict (suc i)) tt (sym (words-next i h) ∙ e)

    rest-passes : (i : ℕ) → i ≤ k → words_verdict i ≡ answer tt
    rest-passes zero h = sym words-start ∙ pass
    rest-passes (suc i) h = (own-and-rest i h (rest-passes i (omega arith))).1

    -- no word has a bit above
    pub words-clear : (i : ℕ) → i < k → clear_above n (in_full (row_by size words i)) ≡ true
    words-clear i h =
        not-false (clear_above n (in_full (row_by size words i)))
        (verdict-fine (bit_above_sites n i (in_full (row_by size words i))) [] (own-and-rest i h (rest-passes i (omega arith))).0).0

-- ---- 22, 23, 36, and then the rows

module _ (n : ℕ) (words : List ℕ) (k a b c : ℕ) where
  abbrev lengths : List Check
  lengths = length_checks n (length words) k a b c

  abbrev bits : List Check
  bits = bits_above_sites n (rows_in_full k words) 0 k

  -- lengths that are refused decide
  pub word-lists-refused : (why : Refusal) → verdict lengths ≡ refusal_of why → verdict (word_list_checks n words k a b c) ≡ refusal_of why
  word-lists-refused = front_refused lengths bits

  -- past them the rows do, by the size that the code has found
  pub word-lists-rows : {size : ℕ} → size ≡ row_size (length words) k → verdict lengths ≡ answer tt
      → verdict (word_list_checks n words k a b c) ≡ verdict (bits_above_sites n (in_full_by size k words) 0 k)
  word-lists-rows e pass = rw e (verdict-append lengths bits ∙ ap (λ (v : Outcome (Unit {0})). given v (verdict bits)) pass)

  -- what lists that pass have shown: their lengths agree, no word has a bit above, and the rows are accepted
  module _ (pass : verdict (word_list_checks n words k a b c) ≡ answer tt) where
    parted : (verdict lengths ≡ answer tt) × (verdict bits ≡ answer tt)
    parted = given-answered (verdict lengths) (verdict bits) tt (sym (verdict-append lengths bits) ∙ pass)

    pub word-lists-agree : Agreeing n (length words) k a b c
    word-lists-agree = lengths-agree n (length words) k a b c parted.0

    pub word-lists-clear : (i : ℕ) → i < k → clear_above n (in_full (row_by (row_size (length words) k) words i)) ≡ true
    word-lists-clear = words-clear n (row_size (length words) k) k words (size-either (length words) k) word-lists-agree.words_long parted.1

    pub word-lists-accepted : n ≤ max_sites → Bytes words → AcceptedRows n (rows_in_full k words) k
    word-lists-accepted short small =
        clear-accepted (row_size (length words) k) (size-either (length words) k) words word-lists-agree.words_long short small
        word-lists-agree.few word-lists-clear
