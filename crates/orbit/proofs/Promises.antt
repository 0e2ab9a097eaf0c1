-- What is promised of the calls by their outcomes: each statement is followed by the law that shows it.
--
-- 1 What stands beside a refusal, 2 Acceptance, 3 The least word and its index, 4 The walk, 5 Either form, 6 Many words, 7 There and back. A word is
-- accepted in either form: in full, or of the old form with no more sites than that form has (`EitherWord`); word_in has its letters.
use Prim.Native.Nat.{ℕ, suc, ◌≤◌, ◌<◌, min}
use mathlib.Core.Path.{◌≡◌, sym, ap, ◌∙◌}
use mathlib.Core.Logic.{inl}
use mathlib.Core.Bool.{true, false}
use mathlib.Core.List.{List, [], map}
use native.Mathlib.Omega.{arith}
use lib.ListN.{length, get_or}
use Rattle.outcome.specs.Outcome.{answer, verdict}
use Rattle.outcome.proofs.Outcomes.{call-answers}
use Rattle.pauli_word.specs.Limits.{word_length}
use Rattle.pauli_word.specs.Word.{Word}
use Rattle.pauli_word.specs.Bytes.{bytes_of, Bytes, EitherWord, in_full, word_in}
use Rattle.pauli_word.specs.Calls.{past_old}
use Rattle.pauli_word.proofs.Words.{decode-length}
use Rattle.pauli_word.proofs.Forms.{either-accepted}
use Rattle.action.specs.Permutation.{Generator, Valid}
use Rattle.action.specs.Index.{order_of, digits, add}
use Rattle.action.specs.Orbit.{reach, orbit_list, least, forward, index_back}
use Rattle.action.proofs.Theorems as Action
use Rattle.elements.proofs.Orbits.{entries, entries_all}
use Rattle.group.specs.declared.Group.{Group}
use Rattle.group.specs.Value.{generators_of, AcceptedGroup}
use Rattle.group.specs.Calls.{index_outcome, invert_outcome}
use Rattle.group.proofs.Promises.{no_group_lem}
use Rattle.group.proofs.MadeGroups.{held-valid}
use Rattle.row_lists.specs.Rows.{row_by, row_size}
use Rattle.orbit.specs.declared.Walk.{Walk}
use Rattle.orbit.specs.Calls.{word_call_checks, canonicalize_outcome, with_index_outcome, with_shift_outcome, word_at_outcome, orbit_list_outcome, is_walk, no_walk, begin_outcome, entry, finished, next_outcome, entry_word}
use Rattle.orbit.specs.Words.{words_outcome}
use Rattle.orbit.specs.Walked.{walked, words_given, Reached, CanonicalAnswer}
use Rattle.orbit.proofs.WordCalls.{word_call_passes}
use Rattle.orbit.proofs.Outcomes as Outcomes
use Rattle.orbit.proofs.Walked as Walked
use Rattle.orbit.proofs.Indexed as Indexed
use Rattle.orbit.proofs.RowCalls as Rows

-- ---- 1 What stands beside a refusal: no call takes it for a walk

pub no_walk_lem : is_walk no_walk ≡ false
unfolding is_walk no_walk
no_walk_lem = rw no_group_lem

-- ---- 2 Acceptance has no gap: an accepted group and an accepted word of its sites are refused by no check

pub word_accepted :
    (g : Group) → AcceptedGroup g → (bytes : List ℕ) → EitherWord g.sites bytes → verdict (word_call_checks g g.sites bytes) ≡ answer tt
word_accepted = word_call_passes

-- ---- 3 The least word and its index: a call with an accepted group and word answers by a word of the orbit than which none is less, and by the
-- inverse of the first index that reaches it, which leads back

pub canonical_answer :
    (g : Group) → AcceptedGroup g → (bytes : List ℕ) → EitherWord g.sites bytes
    → CanonicalAnswer (generators_of g) (word_in g.sites bytes) (with_index_outcome g g.sites bytes)
unfolding with_index_outcome
canonical_answer g ok bytes accepted =
    let gs : List Generator = generators_of g in
    let w : Word = word_in g.sites bytes in
    let valid : Valid g.sites gs = held-valid g ok in
    let e : length w ≡ g.sites = decode-length (either-accepted g.sites bytes accepted) in
    record {
      word = least gs w;
      index = index_back gs w;
      first = forward gs w;
      answered = call-answers (word_call_checks g g.sites bytes) (answer (least gs w, index_back gs w)) (word_call_passes g ok bytes accepted);
      in_orbit = Action.least-in-orbit valid w e;
      none_less = Action.least-least valid w e;
      inverted = Action.back-inverse valid w e;
      below = Action.forward-below valid w e;
      reaches = Action.forward-reaches valid w e;
      none_earlier = Action.forward_first valid w e;
      leads_back = Action.back-reaches valid w e;
    }

-- ---- 4 The walk: begun with an accepted group and word, it gives at step i, for each index i below the order, the bytes of the word that i reaches,
-- and is then finished and stays

module _ (g : Group) (ok : AcceptedGroup g) (bytes : List ℕ) (word : EitherWord g.sites bytes)
    (start : Walk) (begun : begin_outcome g g.sites bytes ≡ answer start) where
  pub walk-entries : (i : ℕ) → i < order_of (generators_of g)
      → (next_outcome (walked i start) ≡ answer (entry i))
      × (entry_word (walked i start) (entry i) ≡ bytes_of (reach (generators_of g) i (word_in g.sites bytes)))
  walk-entries i h =
      let e = Walked.steps-before g ok bytes word start begun i (omega arith) in
      (ap next_outcome e ∙ Walked.at_entry g ok (word_in g.sites bytes) (decode-length (either-accepted g.sites bytes word)) i h, ap (λ (v : Walk). v.word) e)

  pub walk-finished : (i : ℕ) → order_of (generators_of g) ≤ i
      → (next_outcome (walked i start) ≡ answer finished) × (walked (suc i) start ≡ walked i start)
  walk-finished i h =
      let past = Walked.steps-past g ok bytes word start begun in (
        ap next_outcome (past i h) ∙ Walked.at-end g ok (word_in g.sites bytes) (decode-length (either-accepted g.sites bytes word)),
        past (suc i) (omega arith) ∙ sym (past i h),
      )

  -- the words that it gives, in order, are those of the orbit list
  pub walk-words : (k : ℕ) → order_of (generators_of g) ≤ k
      → words_given k start ≡ map (bytes_of) (orbit_list (generators_of g) (word_in g.sites bytes))
  walk-words k h =
      let gs : List Generator = generators_of g in
      let w : Word = word_in g.sites bytes in
      let e : min k (order_of gs) ≡ order_of gs = omega arith in
      ap (words_given k) (Walked.starts g ok bytes word start begun)
      ∙ Walked.words-at g ok w (decode-length (either-accepted g.sites bytes word)) k
      ∙ ap (map (bytes_of)) (ap (entries gs w) e ∙ entries_all gs w)

  -- every walk on the way passes 14
  pub walk-passes : (i : ℕ) → is_walk (walked i start) ≡ true
  walk-passes i =
      ap is_walk (Walked.steps-at g ok bytes word start begun i)
      ∙ Walked.at-walk g ok (word_in g.sites bytes) (decode-length (either-accepted g.sites bytes word)) (min i (order_of (generators_of g))) (omega arith)

-- and every value that passes 1 and 14 is such a walk
pub walk_reached :
    (v : Walk) → is_walk v ≡ true → AcceptedGroup v.group → length v.word ≡ word_length → Bytes v.word → Reached v
walk_reached v one ok size small =
    record {
      bytes = bytes_of (Walked.beginning_of v);
      accepted = inl (Walked.beginning-accepted v one ok size small);
      start = Walked.begun_as v;
      begun = Walked.beginning-begun v one ok size small;
      steps = v.index;
      reached = Walked.beginning-reaches v one ok size small;
    }

-- ---- 5 Either form: a word of the old form is answered as the word in full with the same letters is, also where the call is refused, if it has no
-- more sites than that form has; else it is refused, 36

module _ (g : Group) (n : ℕ) (bytes : List ℕ) (fits : past_old n (length bytes) ≡ false) where
  pub canonicalize-either : canonicalize_outcome g n (in_full bytes) ≡ canonicalize_outcome g n bytes
  canonicalize-either = Outcomes.canonicalize-full g n bytes fits

  pub with-index-either : with_index_outcome g n (in_full bytes) ≡ with_index_outcome g n bytes
  with-index-either = Outcomes.with-index-full g n bytes fits

  pub with-shift-either : (k : ℕ) → with_shift_outcome g n (in_full bytes) k ≡ with_shift_outcome g n bytes k
  with-shift-either = Outcomes.with-shift-full g n bytes fits

  pub word-at-either : (i : ℕ) → word_at_outcome g n (in_full bytes) i ≡ word_at_outcome g n bytes i
  word-at-either = Outcomes.word-at-full g n bytes fits

  pub orbit-list-either : (k : ℕ) → orbit_list_outcome g n (in_full bytes) k ≡ orbit_list_outcome g n bytes k
  orbit-list-either = Outcomes.orbit-list-full g n bytes fits

  pub begin-either : begin_outcome g n (in_full bytes) ≡ begin_outcome g n bytes
  begin-either = Outcomes.begin-full g n bytes fits

-- ---- 6 Many words: where the call on k rows of words answers, it has an answer for each row, and that of row i is what canonicalize_with_index
-- answers of row i as it is handed, in either form

module _ (g : Group) (words : List ℕ) (k representatives : ℕ) (rows : List (Word × ℕ)) (answered : words_outcome g words k representatives ≡ answer rows) where
  pub words_all : length rows ≡ k
  words_all = Rows.rows_all g words k representatives rows answered

  pub words-alone : (i : ℕ) → i < k → with_index_outcome g g.sites (row_by (row_size (length words) k) words i) ≡ answer (get_or rows i ([], 0))
  words-alone = Rows.row-alone g words k representatives rows answered

-- ---- 7 There and back: word_at_index answers for every index below the order; what it makes of a representative by the index of
-- canonicalize_with_index is the word, and of the word by the inverse of that index the representative; two indices in turn are their sum

module _ (g : Group) (ok : AcceptedGroup g) (bytes : List ℕ) (accepted : EitherWord g.sites bytes) where
  pub at_word : (i : ℕ) → i < order_of (generators_of g) → word_at_outcome g g.sites bytes i ≡ answer (reach (generators_of g) i (word_in g.sites bytes))
  at_word = Indexed.at_word g ok bytes accepted

  pub word_back : (u : Word) (i : ℕ) → with_index_outcome g g.sites bytes ≡ answer (u, i)
      → word_at_outcome g g.sites (bytes_of u) i ≡ answer (word_in g.sites bytes)
  word_back = Indexed.word_back g ok bytes accepted

  -- where the digits of that index were stored, they have it as their index
  pub counter-back : (u : Word) (i : ℕ) → with_index_outcome g g.sites bytes ≡ answer (u, i) → index_outcome g (digits (generators_of g) i) ≡ answer i
  counter-back = Indexed.counter-back g ok bytes accepted

  pub word-forward : (u : Word) (i j : ℕ) → with_index_outcome g g.sites bytes ≡ answer (u, i) → invert_outcome g i ≡ answer j
      → word_at_outcome g g.sites bytes j ≡ answer u
  word-forward = Indexed.word-forward g ok bytes accepted

  pub word-in-turn : (i j : ℕ) (v : Word) → word_at_outcome g g.sites bytes i ≡ answer v → j < order_of (generators_of g)
      → word_at_outcome g g.sites (bytes_of v) j ≡ word_at_outcome g g.sites bytes (add (generators_of g) i j)
  word-in-turn = Indexed.word-in-turn g ok bytes accepted

  -- whatever an index makes of a word has the word's representative
  pub word-orbit : (i : ℕ) (v : Word) → word_at_outcome g g.sites bytes i ≡ answer v
      → canonicalize_outcome g g.sites (bytes_of v) ≡ canonicalize_outcome g g.sites bytes
  word-orbit = Indexed.word-orbit g ok bytes accepted

  -- a stored counter serves as well: that of canonicalize_with_shift has an index, which leads from the representative to the word
  pub word-of-shift : (k : ℕ) (u : Word) (cs : List ℕ) → with_shift_outcome g g.sites bytes k ≡ answer (u, cs)
      → (i : ℕ) × (index_outcome g cs ≡ answer i) × (word_at_outcome g g.sites (bytes_of u) i ≡ answer (word_in g.sites bytes))
  word-of-shift = Indexed.word-of-shift g ok bytes accepted

  -- entry i of the orbit list is the word that i makes
  pub word-of-list : (k : ℕ) (ws : List Word) → orbit_list_outcome g g.sites bytes k ≡ answer ws → (i : ℕ) → i < order_of (generators_of g)
      → word_at_outcome g g.sites bytes i ≡ answer (get_or ws i [])
  word-of-list = Indexed.word-of-list g ok bytes accepted
