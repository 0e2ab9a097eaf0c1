-- The walk over an orbit by its calls: after k steps it stands at the word that index k reaches, and after the last entry it stays.
-- What carries it: a step moves the word that index i reaches to the word that i + 1 reaches (`walk-next` of the orbit).
use Prim.Native.Nat.{ℕ, zero, suc, ◌+◌, ◌≤◌, ◌<◌, min}
use mathlib.Core.Path.{◌≡◌, refl, sym, ap, ap₂, ◌∙◌}
use mathlib.Core.Logic.{inl}
use mathlib.Core.Bool.{true}
use mathlib.Core.List.{List, [], ◌∷◌, ◌++◌, map, append-nil}
use native.Mathlib.Numerals.{add-one}
use native.Mathlib.Decide.{dec_lt}
use native.Mathlib.Omega.{arith}
use lib.ListN.{length}
use borrow.Author.Tests.{le-leb, le-ltb}
use Rattle.pauli_word.specs.Limits.{max_sites, plane_length, word_length}
use Rattle.outcome.specs.Outcome.{Outcome, answer, verdict, or_else}
use Rattle.pauli_word.specs.Word.{Word}
use Rattle.pauli_word.specs.Bytes.{Bytes, AcceptedWord, EitherWord, letters_in, bytes_of, in_full, word_in}
use Rattle.outcome.proofs.Outcomes.{call-answers, unless_answer}
use Rattle.pauli_word.proofs.Forms.{full_same, either-accepted}
use Rattle.pauli_word.proofs.Words.{map-append, decode-length, encode-decode, encoded-accepted, encoded-decode}
use Rattle.action.specs.Lists.{from, below}
use Rattle.action.specs.Index.{order_of, inverse}
use Rattle.action.specs.Orbit.{reach}
use Rattle.action.proofs.Reach.{reach-length, reach-of-inverse}
use Rattle.elements.specs.HeldGroup.{Tables}
use Rattle.elements.proofs.Orbits.{entries, entries_next, walk_start, walk-accepted, walk_next}
use Rattle.group.specs.declared.Group.{Group}
use Rattle.orbit.specs.declared.Walk.{Walk}
use Rattle.group.specs.Value.{generators_of, AcceptedGroup}
use Rattle.orbit.specs.Calls.{word_call_checks, is_walk, walk_in, begin_outcome, Entry, entry, finished, after_entry, next_outcome, walk_checks}
use Rattle.orbit.proofs.Walking.{walk-word, walk-index}
use Rattle.group.proofs.Accepted.{accepted_tables}
use Rattle.orbit.proofs.Outcomes.{next-entry, next-finished}
use Rattle.group.proofs.MadeGroups.{held-valid}
use Rattle.orbit.proofs.WordCalls.{word_call_passes}
use Rattle.orbit.specs.Walked.{walked, words_given, word_given, step_on}

-- a walk passes the checks of a step
checks_passed : (v : Walk) → v.group.sites ≤ max_sites → is_walk v ≡ true → verdict (walk_checks v) ≡ answer tt
checks_passed v few e = simp (le-ltb max_sites v.group.sites few, e)

-- ---- the walk at the word that index i reaches from w

abbrev pub walk_at : Group → Word → ℕ → Walk
walk_at g w i = record { group = g; word = bytes_of (reach (generators_of g) i w); index = i }

module _ (g : Group) (ok : AcceptedGroup g) (w : Word) (size : length w ≡ g.sites) where
  tables : Tables g.generators g.sites g.targets g.orders
  tables = accepted_tables g ok

  module _ (i : ℕ) where
    here : AcceptedWord g.sites (bytes_of (reach (generators_of g) i w))
    unfolding generators_of
    here = walk-accepted tables w size i refl

    pub at-walk : i ≤ order_of (generators_of g) → is_walk (walk_at g w i) ≡ true
    unfolding is_walk
    at-walk h = simp (ok.is_one, here.x_clear, here.z_clear, le-leb i (order_of (generators_of g)) h)

    passes : i ≤ order_of (generators_of g) → verdict (walk_checks (walk_at g w i)) ≡ answer tt
    passes h = checks_passed (walk_at g w i) ok.few (at-walk h)

    pub at_entry : i < order_of (generators_of g) → next_outcome (walk_at g w i) ≡ answer (entry i)
    at_entry h = next-entry (walk_at g w i) (passes (omega arith)) h

    after-entry : after_entry (walk_at g w i) (entry i) ≡ walk_at g w (suc i)
    unfolding generators_of
    after-entry =
        let e = walk_next tables w size i refl refl ∙ ap (λ (j : ℕ). bytes_of (reach (generators_of g) j w)) (add-one i) in
        λ j. record { group = g; word = e j; index = suc i }

    step-entry : i < order_of (generators_of g) → step_on (walk_at g w i) ≡ walk_at g w (suc i)
    step-entry h = ap (or_else (after_entry (walk_at g w i)) (walk_at g w i)) (at_entry h) ∙ after-entry

  pub at-end : next_outcome (walk_at g w (order_of (generators_of g))) ≡ answer finished
  at-end = next-finished (walk_at g w (order_of (generators_of g))) (passes (order_of (generators_of g)) (omega arith)) (omega arith)

  step_end : step_on (walk_at g w (order_of (generators_of g))) ≡ walk_at g w (order_of (generators_of g))
  step_end =
      let last : Walk = walk_at g w (order_of (generators_of g)) in
      ap (or_else (after_entry last) last) at-end

  -- k steps from the word on
  walked_at : (k : ℕ) → walked k (walk_at g w 0) ≡ walk_at g w (min k (order_of (generators_of g)))
  unfolding walked
  walked_at zero = ap (walk_at g w) (omega arith)
  walked_at (suc k) = ap step_on (walked_at k) ∙ go (dec_lt k (order_of (generators_of g)))
    where
      go : Dec (k < order_of (generators_of g)) → step_on (walk_at g w (min k (order_of (generators_of g)))) ≡ walk_at g w (min (suc k) (order_of (generators_of g)))
      go (yes h) =
          let a : min k (order_of (generators_of g)) ≡ k = omega arith in
          let b : suc k ≡ min (suc k) (order_of (generators_of g)) = omega arith in
          ap (λ (j : ℕ). step_on (walk_at g w j)) a ∙ step-entry k h ∙ ap (walk_at g w) b
      go (no h) =
          let a : min k (order_of (generators_of g)) ≡ order_of (generators_of g) = omega arith in
          let b : order_of (generators_of g) ≡ min (suc k) (order_of (generators_of g)) = omega arith in
          ap (λ (j : ℕ). step_on (walk_at g w j)) a ∙ step_end ∙ ap (walk_at g w) b

  -- the words of k steps: one for each index below k, up to the order
  pub words-at :
      (k : ℕ) → words_given k (walk_at g w 0) ≡ map bytes_of (entries (generators_of g) w (min k (order_of (generators_of g))))
  unfolding words_given below from
  words-at zero =
      let e : 0 ≡ min 0 (order_of (generators_of g)) = omega arith in
      ap (λ (j : ℕ). map bytes_of (entries (generators_of g) w j)) e
  words-at (suc k) =
      ap₂ ◌++◌ (words-at k) (ap (λ (v : Walk). or_else (word_given v) [] (next_outcome v)) (walked_at k)) ∙ go (dec_lt k (order_of (generators_of g)))
    where
      before : ℕ → List (List ℕ)
      before j = map bytes_of (entries (generators_of g) w j)

      with-next : ℕ → List (List ℕ)
      with-next j = before j ++ or_else (word_given (walk_at g w j)) [] (next_outcome (walk_at g w j))

      go : Dec (k < order_of (generators_of g)) → with-next (min k (order_of (generators_of g))) ≡ before (min (suc k) (order_of (generators_of g)))
      go (yes h) =
          let a : min k (order_of (generators_of g)) ≡ k = omega arith in
          let b : k + 1 ≡ min (suc k) (order_of (generators_of g)) = omega arith in
          ap with-next a
          ∙ ap (λ (o : Outcome Entry). before k ++ or_else (word_given (walk_at g w k)) [] o) (at_entry k h)
          ∙ sym (map-append bytes_of (entries (generators_of g) w k) (reach (generators_of g) k w ∷ []))
          ∙ ap (map bytes_of) (sym (entries_next (generators_of g) w k))
          ∙ ap before b
      go (no h) =
          let a : min k (order_of (generators_of g)) ≡ order_of (generators_of g) = omega arith in
          let b : order_of (generators_of g) ≡ min (suc k) (order_of (generators_of g)) = omega arith in
          let o : ℕ = order_of (generators_of g) in
          ap with-next a
          ∙ ap (λ (r : Outcome Entry). before o ++ or_else (word_given (walk_at g w o)) [] r) at-end
          ∙ append-nil (before o)
          ∙ ap before b

-- ---- a walk begun with an accepted group and word

module _ (g : Group) (ok : AcceptedGroup g) (bytes : List ℕ) (word : EitherWord g.sites bytes)
    (start : Walk) (begun : begin_outcome g g.sites bytes ≡ answer start) where
  full : AcceptedWord g.sites (in_full bytes)
  full = either-accepted g.sites bytes word

  pub starts : start ≡ walk_at g (word_in g.sites bytes) 0
  unfolding begin_outcome
  starts =
      let first = walk_start full (generators_of g) in
      sym (unless_answer (word_call_checks g g.sites bytes) (walk_in g (in_full bytes) 0) start begun).1
      ∙ (λ j. record { group = g; word = first j; index = 0 })

  pub steps-at : (i : ℕ) → walked i start ≡ walk_at g (word_in g.sites bytes) (min i (order_of (generators_of g)))
  steps-at i = ap (walked i) starts ∙ walked_at g ok (word_in g.sites bytes) (decode-length full) i

  pub steps-before : (i : ℕ) → i ≤ order_of (generators_of g) → walked i start ≡ walk_at g (word_in g.sites bytes) i
  steps-before i h = steps-at i ∙ ap (walk_at g (word_in g.sites bytes)) (omega arith)

  pub steps-past : (i : ℕ) → order_of (generators_of g) ≤ i → walked i start ≡ walk_at g (word_in g.sites bytes) (order_of (generators_of g))
  steps-past i h = steps-at i ∙ ap (walk_at g (word_in g.sites bytes)) (omega arith)

-- ---- where a walk has begun: at the word that the inverse of its index reaches

abbrev pub beginning_of : Walk → Word
beginning_of v =
    reach (generators_of v.group) (inverse (generators_of v.group) v.index) (letters_in v.group.sites v.word)

abbrev pub begun_as : Walk → Walk
begun_as v = record { group = v.group; word = bytes_of (beginning_of v); index = 0 }

module _ (v : Walk) (one : is_walk v ≡ true) (ok : AcceptedGroup v.group) (size : length v.word ≡ word_length)
    (small : Bytes v.word) where
  few : v.group.sites ≤ max_sites
  few = ok.few

  now : AcceptedWord v.group.sites v.word
  now = walk-word v (checks_passed v few one) size small

  beginning-long : length (beginning_of v) ≡ v.group.sites
  beginning-long =
      reach-length (generators_of v.group) (inverse (generators_of v.group) v.index) (letters_in v.group.sites v.word)
      ∙ decode-length now

  pub beginning-accepted : AcceptedWord v.group.sites (bytes_of (beginning_of v))
  beginning-accepted = encoded-accepted plane_length (beginning_of v) beginning-long few refl

  -- as bytes it is in full
  whole : in_full (bytes_of (beginning_of v)) ≡ bytes_of (beginning_of v)
  whole = full_same (bytes_of (beginning_of v)) beginning-accepted.long

  pub beginning-begun : begin_outcome v.group v.group.sites (bytes_of (beginning_of v)) ≡ answer (begun_as v)
  unfolding begin_outcome
  beginning-begun =
      call-answers (word_call_checks v.group v.group.sites (bytes_of (beginning_of v))) (answer (walk_in v.group (in_full (bytes_of (beginning_of v))) 0))
      (word_call_passes v.group ok (bytes_of (beginning_of v)) (inl beginning-accepted))
      ∙ ap (λ (l : List ℕ). answer (walk_in v.group l 0)) whole

  -- its own index leads from there to its word
  back : bytes_of (reach (generators_of v.group) v.index (word_in v.group.sites (bytes_of (beginning_of v)))) ≡ v.word
  back =
      ap bytes_of
      (ap (reach (generators_of v.group) v.index)
      (ap (letters_in v.group.sites) whole ∙ encoded-decode plane_length (beginning_of v) beginning-long few refl)
      ∙ reach-of-inverse (held-valid v.group ok) v.index (letters_in v.group.sites v.word) (decode-length now))
      ∙ encode-decode now

  pub beginning-reaches : walked v.index (begun_as v) ≡ v
  beginning-reaches =
      steps-before v.group ok (bytes_of (beginning_of v)) (inl beginning-accepted) (begun_as v) beginning-begun v.index
      (walk-index v (checks_passed v few one))
      ∙ (λ i. record { group = v.group; word = back i; index = v.index })
