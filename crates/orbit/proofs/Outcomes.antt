-- What the calls with a check of their own come to where their first checks pass, what a word of the old form is answered, and a step for a walk that passes
-- its checks.
-- What carries it: the checks before a call's own are passed, so that its own decide.
use Rattle.std.specs.Prelude.{Result, Err}
use Prim.Native.Nat.{ℕ, ◌*◌, ◌≤◌, ◌<◌}
use mathlib.Core.Path.{◌≡◌, ap, ap₂, ◌∙◌}
use mathlib.Core.Bool.{Bool, false, cond}
use mathlib.Core.List.{List, [], ◌∷◌, ◌++◌}
use lib.ListN.{length}
use borrow.Author.Tests.{lt-ltb, le-ltb, eq-eqb, ne_eqb}
use Rattle.pauli_word.specs.Limits.{word_length}
use Rattle.outcome.specs.declared.Refusal.{Refusal}
use Rattle.outcome.specs.declared.Refusal.TheVariants as Refusal
use Rattle.outcome.specs.Outcome.{answer, refusal_of, verdict, outcome_of, unless, Check}
use Rattle.outcome.proofs.Outcomes.{call-answers, verdict-append, told-refused-first}
use Rattle.pauli_word.specs.Word.{Word}
use Rattle.pauli_word.specs.Bytes.{letters_in, in_full, word_in}
use Rattle.pauli_word.specs.Calls.{past_old}
use Rattle.pauli_word.proofs.Forms.{full_full}
use Rattle.action.specs.Index.{order_of, digits}
use Rattle.action.specs.Orbit.{reach, orbit_list, least, index_back}
use Rattle.group.specs.declared.Group.{Group}
use Rattle.group.specs.Value.{generators_of}
use Rattle.group.specs.Calls.{index_range, list_length}
use Rattle.orbit.specs.declared.Walk.{Walk}
use Rattle.orbit.specs.Calls.{word_call_checks, canonicalize_outcome, with_index_outcome, with_shift_outcome, word_at_outcome, orbit_list_outcome, begin_outcome, walk_in, entry, finished, entry_of, next_outcome, walk_checks}
use Rattle.orbit.proofs.WordCalls.{checks_full}

module _ (g : Group) (n : ℕ) (bytes : List ℕ) (k : ℕ) {v : Result (Unit {0}) Refusal} {why : Refusal} (told : outcome_of v ≡ verdict (word_call_checks g n bytes))
    (e : v ≡ Err why) where
  pub shift-refused : with_shift_outcome g n bytes k ≡ refusal_of why
  unfolding with_shift_outcome
  shift-refused =
      told-refused-first (word_call_checks g n bytes) v told (list_length k g.generators ∷ [])
      (answer (least (generators_of g) (word_in n bytes), digits (generators_of g) (index_back (generators_of g) (word_in n bytes)))) e

  pub at-refused : word_at_outcome g n bytes k ≡ refusal_of why
  unfolding word_at_outcome
  at-refused =
      told-refused-first (word_call_checks g n bytes) v told (index_range g k ∷ []) (answer (reach (generators_of g) k (word_in n bytes))) e

  pub list-refused : orbit_list_outcome g n bytes k ≡ refusal_of why
  unfolding orbit_list_outcome
  list-refused =
      told-refused-first (word_call_checks g n bytes) v told (list_length k (word_length * order_of (generators_of g)) ∷ [])
      (answer (orbit_list (generators_of g) (word_in n bytes))) e

module _ (g : Group) (n : ℕ) (bytes : List ℕ) (passes : verdict (word_call_checks g n bytes) ≡ answer tt) (k : ℕ) where
  pub shift-length : (k ≡ g.generators → ⊥) → with_shift_outcome g n bytes k ≡ refusal_of Refusal.ListLength
  unfolding with_shift_outcome
  shift-length d = rw (verdict-append (word_call_checks g n bytes) (list_length k g.generators ∷ []), passes, ne_eqb k g.generators d)

  pub shift-answer :
      k ≡ g.generators
      → let w = word_in n bytes in
      (with_shift_outcome g n bytes k ≡ answer (least (generators_of g) w, digits (generators_of g) (index_back (generators_of g) w)))
  unfolding with_shift_outcome
  shift-answer e = rw (verdict-append (word_call_checks g n bytes) (list_length k g.generators ∷ []), passes, eq-eqb k g.generators e)

  pub at-range : order_of (generators_of g) ≤ k → word_at_outcome g n bytes k ≡ refusal_of Refusal.IndexRange
  unfolding word_at_outcome
  at-range h = rw (verdict-append (word_call_checks g n bytes) (index_range g k ∷ []), passes, le-ltb k (order_of (generators_of g)) h)

  pub at-answer : k < order_of (generators_of g) → word_at_outcome g n bytes k ≡ answer (reach (generators_of g) k (word_in n bytes))
  unfolding word_at_outcome
  at-answer h = rw (verdict-append (word_call_checks g n bytes) (index_range g k ∷ []), passes, lt-ltb k (order_of (generators_of g)) h)

  pub orbit-length : (k ≡ word_length * order_of (generators_of g) → ⊥) → orbit_list_outcome g n bytes k ≡ refusal_of Refusal.ListLength
  unfolding orbit_list_outcome
  orbit-length d =
      rw (
        verdict-append (word_call_checks g n bytes) (list_length k (word_length * order_of (generators_of g)) ∷ []),
        passes,
        ne_eqb k (word_length * order_of (generators_of g)) d,
      )

  pub orbit-answer :
      k ≡ word_length * order_of (generators_of g)
      → orbit_list_outcome g n bytes k ≡ answer (orbit_list (generators_of g) (word_in n bytes))
  unfolding orbit_list_outcome
  orbit-answer e =
      rw (
        verdict-append (word_call_checks g n bytes) (list_length k (word_length * order_of (generators_of g)) ∷ []),
        passes,
        eq-eqb k (word_length * order_of (generators_of g)) e,
      )

-- ---- a word of the old form, of no more sites than that form has, is answered as the word in full is: it has the same letters, and the checks of the
-- two come to the same

module _ (g : Group) (n : ℕ) (bytes : List ℕ) (fits : past_old n (length bytes) ≡ false) where
  letters-full : word_in n (in_full bytes) ≡ word_in n bytes
  letters-full = ap (letters_in n) (full_full bytes)

  pub canonicalize-full : canonicalize_outcome g n (in_full bytes) ≡ canonicalize_outcome g n bytes
  unfolding canonicalize_outcome
  canonicalize-full =
      ap₂ (λ (cs : List Check) (w : Word). unless cs (answer (least (generators_of g) w))) (checks_full g n bytes fits) letters-full

  pub with-index-full : with_index_outcome g n (in_full bytes) ≡ with_index_outcome g n bytes
  unfolding with_index_outcome
  with-index-full =
      ap₂ (λ (cs : List Check) (w : Word). unless cs (answer (least (generators_of g) w, index_back (generators_of g) w))) (checks_full g n bytes fits)
      letters-full

  pub with-shift-full : (k : ℕ) → with_shift_outcome g n (in_full bytes) k ≡ with_shift_outcome g n bytes k
  unfolding with_shift_outcome
  with-shift-full k =
      ap₂
      (λ (cs : List Check) (w : Word).
      unless (cs ++ (list_length k g.generators ∷ []))
      (answer (least (generators_of g) w, digits (generators_of g) (index_back (generators_of g) w))))
      (checks_full g n bytes fits) letters-full

  pub word-at-full : (i : ℕ) → word_at_outcome g n (in_full bytes) i ≡ word_at_outcome g n bytes i
  unfolding word_at_outcome
  word-at-full i =
      ap₂ (λ (cs : List Check) (w : Word). unless (cs ++ (index_range g i ∷ [])) (answer (reach (generators_of g) i w))) (checks_full g n bytes fits)
      letters-full

  pub orbit-list-full : (k : ℕ) → orbit_list_outcome g n (in_full bytes) k ≡ orbit_list_outcome g n bytes k
  unfolding orbit_list_outcome
  orbit-list-full k =
      ap₂
      (λ (cs : List Check) (w : Word).
      unless (cs ++ (list_length k (word_length * order_of (generators_of g)) ∷ [])) (answer (orbit_list (generators_of g) w)))
      (checks_full g n bytes fits) letters-full

  pub begin-full : begin_outcome g n (in_full bytes) ≡ begin_outcome g n bytes
  unfolding begin_outcome
  begin-full = ap₂ (λ (cs : List Check) (l : List ℕ). unless cs (answer (walk_in g l 0))) (checks_full g n bytes fits) (full_full bytes)

-- ---- a step of a walk

module _ (w : Walk) (ok : verdict (walk_checks w) ≡ answer tt) where
  next : next_outcome w ≡ answer (entry_of w)
  unfolding next_outcome
  next = call-answers (walk_checks w) (answer (entry_of w)) ok

  pub next-entry : w.index < order_of (generators_of w.group) → next_outcome w ≡ answer (entry w.index)
  next-entry h =
      next ∙ ap (λ (b : Bool). answer (cond b (entry w.index) finished)) (lt-ltb w.index (order_of (generators_of w.group)) h)

  pub next-finished : order_of (generators_of w.group) ≤ w.index → next_outcome w ≡ answer finished
  next-finished h =
      next ∙ ap (λ (b : Bool). answer (cond b (entry w.index) finished)) (le-ltb w.index (order_of (generators_of w.group)) h)
