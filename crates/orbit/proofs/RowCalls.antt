-- The call on rows of words: its checks, what a pass has shown, and what it comes to where it is refused and where it answers; and that each row is
-- answered as the call on one word answers it.
-- What carries it: the value's checks come first, and then those of the lists (`WordLists` of row_lists), which test of each row what the call on one
-- word tests.
use Prim.Native.Nat.{ℕ, ◌<◌}
use mathlib.Core.Path.{◌≡◌, refl, sym, ap, subst, ◌∙◌}
use mathlib.Core.List.{List, [], ◌++◌}
use lib.ListN.{length, get_or}
use Rattle.outcome.specs.declared.Refusal.{Refusal}
use Rattle.outcome.specs.Outcome.{Outcome, answer, refusal_of, verdict, given, Check}
use Rattle.outcome.proofs.Outcomes.{verdict-append, front_refused, call-refused, call-answers, unless_answer}
use Rattle.pauli_word.specs.Word.{Word}
use Rattle.pauli_word.specs.Bytes.{Bytes, EitherLength, letters_in, word_in}
use Rattle.pauli_word.specs.Calls.{past_old}
use Rattle.pauli_word.proofs.Checks.{either_true}
use Rattle.action.proofs.Below.{map-below-at, map-below-length}
use Rattle.group.specs.declared.Group.{Group}
use Rattle.group.specs.Value.{generators_of}
use Rattle.group.specs.Calls.{value_checks}
use Rattle.group.proofs.Accepted.{value_fine}
use Rattle.row_lists.specs.Rows.{row_by, row_size, rows_in_full}
use Rattle.row_lists.specs.Checks.{word_list_checks, AcceptedRows}
use Rattle.row_lists.proofs.Rows.{length-by}
use Rattle.row_lists.proofs.InFull.{size-either, row_inside, full-row}
use Rattle.row_lists.proofs.ListChecks.{Agreeing, given-answered}
use Rattle.row_lists.proofs.WordLists.{word-lists-agree, word-lists-clear, word-lists-accepted}
use Rattle.least_words.specs.Rows.{row_letters, least_with_index, answered_rows}
use Rattle.orbit.specs.Calls.{word_call_checks, with_index_outcome}
use Rattle.orbit.specs.Words.{words_checks, words_outcome}
use Rattle.orbit.proofs.WordCalls.{word-passes}

-- ---- checks of a value, and then of lists of rows

module _ (g : Group) (more : List Check) where
  -- a value that is refused decides
  pub value-refused : (why : Refusal) → verdict (value_checks g) ≡ refusal_of why → verdict (value_checks g ++ more) ≡ refusal_of why
  value-refused = front_refused (value_checks g) more

  -- past it the others do
  pub value-past : verdict (value_checks g) ≡ answer tt → verdict (value_checks g ++ more) ≡ verdict more
  value-past e = verdict-append (value_checks g) more ∙ ap (λ (v : Outcome (Unit {0})). given v (verdict more)) e

  -- where all pass, the value's do and the others do
  pub value-parted : verdict (value_checks g ++ more) ≡ answer tt → (verdict (value_checks g) ≡ answer tt) × (verdict more ≡ answer tt)
  value-parted pass = given-answered (verdict (value_checks g)) (verdict more) tt (sym (verdict-append (value_checks g) more) ∙ pass)

-- ---- a row of lists that pass, as it is handed: the call on one word accepts it

module _ (g : Group) (value : verdict (value_checks g) ≡ answer tt) (words : List ℕ) (k a b c : ℕ)
    (lists : verdict (word_list_checks g.sites words k a b c) ≡ answer tt) (i : ℕ) (h : i < k) where
  -- row i as it is handed, in either form
  abbrev handed : List ℕ
  handed = row_by (row_size (length words) k) words i

  agree : Agreeing g.sites (length words) k a b c
  agree = word-lists-agree g.sites words k a b c lists

  handed-length : length handed ≡ row_size (length words) k
  handed-length = length-by (row_size (length words) k) words i (row_inside (row_size (length words) k) k words agree.words_long i h)

  pub row-passes : verdict (word_call_checks g g.sites handed) ≡ answer tt
  row-passes =
      let (few, one) = value_fine g value in
      word-passes g g.sites handed few few one
      (either_true (length handed) (subst EitherLength (sym handed-length) (size-either (length words) k)))
      (ap (past_old g.sites) handed-length ∙ agree.fits) refl
      (word-lists-clear g.sites words k a b c lists i h)

  -- and its letters are those of row i in full
  pub row-letters : row_letters g.sites (rows_in_full k words) i ≡ word_in g.sites handed
  row-letters = ap (letters_in g.sites) (full-row (row_size (length words) k) (size-either (length words) k) k words agree.words_long i h)

-- ---- the call

module _ (g : Group) (words : List ℕ) (k a : ℕ) where
  pub words-refused : (why : Refusal) → verdict (words_checks g words k a) ≡ refusal_of why → words_outcome g words k a ≡ refusal_of why
  unfolding words_outcome
  words-refused = call-refused (words_checks g words k a) (answer (answered_rows (generators_of g) g.sites (rows_in_full k words) k))

  module _ (pass : verdict (words_checks g words k a) ≡ answer tt) where
    parted : (verdict (value_checks g) ≡ answer tt) × (verdict (word_list_checks g.sites words k a k k) ≡ answer tt)
    parted = value-parted g (word_list_checks g.sites words k a k k) pass

    pub passed-value : verdict (value_checks g) ≡ answer tt
    passed-value = parted.0

    pub passed-lengths : Agreeing g.sites (length words) k a k k
    passed-lengths = word-lists-agree g.sites words k a k k parted.1

    pub passed-rows : Bytes words → AcceptedRows g.sites (rows_in_full k words) k
    passed-rows = word-lists-accepted g.sites words k a k k parted.1 (value_fine g passed-value).0

    pub words-answer : words_outcome g words k a ≡ answer (answered_rows (generators_of g) g.sites (rows_in_full k words) k)
    unfolding words_outcome
    words-answer = call-answers (words_checks g words k a) (answer (answered_rows (generators_of g) g.sites (rows_in_full k words) k)) pass

  -- ---- where it answers

  module _ (rows : List (Word × ℕ)) (e : words_outcome g words k a ≡ answer rows) where
    told : (verdict (words_checks g words k a) ≡ answer tt) × (answered_rows (generators_of g) g.sites (rows_in_full k words) k ≡ rows)
    unfolding words_outcome
    told = unless_answer (words_checks g words k a) (answered_rows (generators_of g) g.sites (rows_in_full k words) k) rows e

    pub rows_all : length rows ≡ k
    unfolding answered_rows
    rows_all = ap length (sym told.1) ∙ map-below-length _ k

    pub row-alone : (i : ℕ) → i < k → with_index_outcome g g.sites (row_by (row_size (length words) k) words i) ≡ answer (get_or rows i ([], 0))
    unfolding with_index_outcome answered_rows
    row-alone i h =
        let (value, lists) = parted told.0 in
        let row = row_by (row_size (length words) k) words i in
        call-answers (word_call_checks g g.sites row) (answer (least_with_index (generators_of g) (word_in g.sites row)))
        (row-passes g value words k a k k lists i h)
        ∙ ap (λ (w : Word). answer (least_with_index (generators_of g) w)) (sym (row-letters g value words k a k k lists i h))
        ∙ ap answer
        (sym (map-below-at (λ j. least_with_index (generators_of g) (row_letters g.sites (rows_in_full k words) j)) k i ([], 0) h)
        ∙ ap (λ (l : List (Word × ℕ)). get_or l i ([], 0)) told.1)
