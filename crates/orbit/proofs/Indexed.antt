-- The word that an index makes, of accepted groups and words: there and back between a word and its representative, two indices in turn, and the
-- entries of the orbit list.
-- What carries it: the calls pass their checks, so that what they answer is `reach`, and `reach` of a sum is `reach` of both in turn.
use Prim.Native.Nat.{ℕ, ◌*◌, ◌<◌}
use mathlib.Core.Path.{◌≡◌, refl, sym, ap, ap₂, subst, ◌∙◌}
use mathlib.Core.Logic.{inl}
use mathlib.Core.Bool.{true}
use mathlib.Core.List.{List, [], ◌∷◌, ◌++◌}
use lib.Dec.{ltb}
use lib.ListN.{length, get_or}
use borrow.Author.Tests.{ltb-true, not-false}
use Rattle.outcome.specs.Outcome.{answer, verdict, Check}
use Rattle.outcome.proofs.Outcomes.{verdict-fine, unless_answer, call-answers}
use Rattle.pauli_word.specs.Limits.{plane_length, word_length}
use Rattle.pauli_word.specs.Word.{Word}
use Rattle.pauli_word.specs.Bytes.{bytes_of, AcceptedWord, EitherWord, word_in}
use Rattle.pauli_word.proofs.Words.{decode-length, encoded-accepted, encoded-decode}
use Rattle.pauli_word.proofs.Forms.{either-accepted, full-letters}
use Rattle.action.specs.Permutation.{Valid}
use Rattle.action.specs.Index.{order_of, digits, add, inverse}
use Rattle.action.specs.Orbit.{reach, orbit_list, is_in, orbit, least, index_back}
use Rattle.action.proofs.Below.{map-below-at}
use Rattle.action.proofs.Reach.{reach-length}
use Rattle.action.proofs.Canonical.{least-length}
use Rattle.action.proofs.Theorems as Action
use Rattle.group.specs.declared.Group.{Group}
use Rattle.group.specs.Value.{generators_of, AcceptedGroup}
use Rattle.group.specs.Calls.{value_checks, index_range, list_length, index_outcome, invert_outcome}
use Rattle.group.proofs.MadeGroups.{held-valid}
use Rattle.group.proofs.Outcomes.{counter-answer}
use Rattle.group.proofs.Counters.{index_back_lem}
use Rattle.orbit.specs.Calls.{word_call_checks, canonicalize_outcome, with_index_outcome, with_shift_outcome, orbit_list_outcome, word_at_outcome}
use Rattle.orbit.proofs.WordCalls.{word_call_passes}
use Rattle.orbit.proofs.Outcomes.{at-answer}

-- what comes after checks that pass with them passes
append-fine : (cs ds : List Check) → verdict (cs ++ ds) ≡ answer tt → verdict ds ≡ answer tt
append-fine [] ds e = e
append-fine (c ∷ cs) ds e = append-fine cs ds (verdict-fine c (cs ++ ds) e).1

-- an answer is of an index below the order
at_told :
    (g : Group) (n : ℕ) (bytes : List ℕ) (i : ℕ) (v : Word) → word_at_outcome g n bytes i ≡ answer v
    → (i < order_of (generators_of g)) × (reach (generators_of g) i (word_in n bytes) ≡ v)
unfolding word_at_outcome
at_told g n bytes i v e =
    let u = unless_answer (word_call_checks g n bytes ++ (index_range g i ∷ [])) (reach (generators_of g) i (word_in n bytes)) v e in
    let o = order_of (generators_of g) in
    let checked = append-fine (word_call_checks g n bytes) (index_range g i ∷ []) u.0 in
    (ltb-true i o (not-false (ltb i o) (verdict-fine (index_range g i) [] checked).0), u.1)

module _ (g : Group) (ok : AcceptedGroup g) where
  valid : Valid g.sites (generators_of g)
  valid = held-valid g ok

  -- the bytes of a word of the group's sites stand for it
  bytes-accepted : (v : Word) → length v ≡ g.sites → AcceptedWord g.sites (bytes_of v)
  bytes-accepted v long = encoded-accepted plane_length v long ok.few refl

  bytes_word : (v : Word) → length v ≡ g.sites → word_in g.sites (bytes_of v) ≡ v
  bytes_word v long = full-letters g.sites (bytes_of v) (bytes-accepted v long) ∙ encoded-decode plane_length v long ok.few refl

  invert-told : (i j : ℕ) → invert_outcome g i ≡ answer j → inverse (generators_of g) i ≡ j
  unfolding invert_outcome
  invert-told i j e = (unless_answer (value_checks g ++ (index_range g i ∷ [])) (inverse (generators_of g) i) j e).1

  -- every index below the order makes a word
  pub at_word : (bytes : List ℕ) → EitherWord g.sites bytes → (i : ℕ) → i < order_of (generators_of g)
      → word_at_outcome g g.sites bytes i ≡ answer (reach (generators_of g) i (word_in g.sites bytes))
  at_word bytes accepted i h = at-answer g g.sites bytes (word_call_passes g ok bytes accepted) i h

  -- of the bytes of a word
  at-bytes : (v : Word) → length v ≡ g.sites → (i : ℕ) → i < order_of (generators_of g)
      → word_at_outcome g g.sites (bytes_of v) i ≡ answer (reach (generators_of g) i v)
  at-bytes v long i h =
      at_word (bytes_of v) (inl (bytes-accepted v long)) i h ∙ ap (λ (u : Word). answer (reach (generators_of g) i u)) (bytes_word v long)

  module _ (bytes : List ℕ) (accepted : EitherWord g.sites bytes) where
    long : length (word_in g.sites bytes) ≡ g.sites
    long = decode-length (either-accepted g.sites bytes accepted)

    index-told : (u : Word) (i : ℕ) → with_index_outcome g g.sites bytes ≡ answer (u, i)
        → (least (generators_of g) (word_in g.sites bytes) ≡ u) × (index_back (generators_of g) (word_in g.sites bytes) ≡ i)
    unfolding with_index_outcome
    index-told u i e =
        let w = word_in g.sites bytes in
        let told = (unless_answer (word_call_checks g g.sites bytes) (least (generators_of g) w, index_back (generators_of g) w) (u, i) e).1 in
        (ap (λ (p : Word × ℕ). p.0) told, ap (λ (p : Word × ℕ). p.1) told)

    -- from the representative to the word
    pub word_back : (u : Word) (i : ℕ) → with_index_outcome g g.sites bytes ≡ answer (u, i)
        → word_at_outcome g g.sites (bytes_of u) i ≡ answer (word_in g.sites bytes)
    word_back u i e =
        let w = word_in g.sites bytes in
        let (least-is, index_is) = index-told u i e in
        subst (λ (v : Word). word_at_outcome g g.sites (bytes_of v) i ≡ answer w) least-is
        (subst (λ (j : ℕ). word_at_outcome g g.sites (bytes_of (least (generators_of g) w)) j ≡ answer w) index_is
        (at-bytes (least (generators_of g) w) (least-length valid w ∙ long) (index_back (generators_of g) w) (Action.back_below valid w long)
        ∙ ap answer (Action.back-reaches valid w long)))

    -- the digits of that index have it as their index
    pub counter-back : (u : Word) (i : ℕ) → with_index_outcome g g.sites bytes ≡ answer (u, i) → index_outcome g (digits (generators_of g) i) ≡ answer i
    counter-back u i e =
        let inside = subst (λ (j : ℕ). j < order_of (generators_of g)) (index-told u i e).1 (Action.back_below valid (word_in g.sites bytes) long) in
        index_back_lem g ok i (digits (generators_of g) i) (counter-answer g ok i inside g.generators refl)

    -- from the word to the representative
    pub word-forward : (u : Word) (i j : ℕ) → with_index_outcome g g.sites bytes ≡ answer (u, i) → invert_outcome g i ≡ answer j
        → word_at_outcome g g.sites bytes j ≡ answer u
    word-forward u i j e inverted =
        let gs = generators_of g in
        let w = word_in g.sites bytes in
        let (least-is, index_is) = index-told u i e in
        let back : reach gs i u ≡ w = ap₂ (reach gs) (sym index_is) (sym least-is) ∙ Action.back-reaches valid w long in
        let there : reach gs (inverse gs i) w ≡ u =
        ap (reach gs (inverse gs i)) (sym back) ∙ Action.reach-inverse valid i u (ap length (sym least-is) ∙ least-length valid w ∙ long)
        in
        subst (λ (k : ℕ). word_at_outcome g g.sites bytes k ≡ answer u) (invert-told i j inverted)
        (at_word bytes accepted (inverse gs i) (Action.inverse-below valid i) ∙ ap answer there)

    -- two indices in turn are their sum
    pub word-in-turn : (i j : ℕ) (v : Word) → word_at_outcome g g.sites bytes i ≡ answer v → j < order_of (generators_of g)
        → word_at_outcome g g.sites (bytes_of v) j ≡ word_at_outcome g g.sites bytes (add (generators_of g) i j)
    word-in-turn i j v e h =
        let gs = generators_of g in
        let w = word_in g.sites bytes in
        let made = (at_told g g.sites bytes i v e).1 in
        at-bytes v (ap length (sym made) ∙ reach-length gs i w ∙ long) j h
        ∙ ap answer (ap (reach gs j) (sym made) ∙ sym (Action.reach-add valid i j w long))
        ∙ sym (at_word bytes accepted (add gs i j) (Action.add-below valid i j))

    -- the word that an index makes has the same representative
    pub word-orbit : (i : ℕ) (v : Word) → word_at_outcome g g.sites bytes i ≡ answer v
        → canonicalize_outcome g g.sites (bytes_of v) ≡ canonicalize_outcome g g.sites bytes
    unfolding canonicalize_outcome
    word-orbit i v e =
        let gs = generators_of g in
        let w = word_in g.sites bytes in
        let (inside, made) = at_told g g.sites bytes i v e in
        let size : length v ≡ g.sites = ap length (sym made) ∙ reach-length gs i w ∙ long in
        let found : is_in v (orbit gs w) ≡ true = subst (λ (u : Word). is_in u (orbit gs w) ≡ true) made (Action.orbit-reached valid w long i inside) in
        call-answers (word_call_checks g g.sites (bytes_of v)) (answer (least gs (word_in g.sites (bytes_of v))))
        (word_call_passes g ok (bytes_of v) (inl (bytes-accepted v size)))
        ∙ ap answer (ap (least gs) (bytes_word v size) ∙ Action.least-same valid w long v found)
        ∙ sym (call-answers (word_call_checks g g.sites bytes) (answer (least gs w)) (word_call_passes g ok bytes accepted))

    -- the counter of canonicalize_with_shift has an index, and that index makes the word of the representative
    pub word-of-shift : (k : ℕ) (u : Word) (cs : List ℕ) → with_shift_outcome g g.sites bytes k ≡ answer (u, cs)
        → (i : ℕ) × (index_outcome g cs ≡ answer i) × (word_at_outcome g g.sites (bytes_of u) i ≡ answer (word_in g.sites bytes))
    unfolding with_shift_outcome
    word-of-shift k u cs e =
        let gs = generators_of g in
        let w = word_in g.sites bytes in
        let i = index_back gs w in
        let told = (unless_answer (word_call_checks g g.sites bytes ++ (list_length k g.generators ∷ [])) (least gs w, digits gs i) (u, cs) e).1 in
        let inside = Action.back_below valid w long in (
          i,
          subst (λ (ds : List ℕ). index_outcome g ds ≡ answer i) (ap (λ (p : Word × List ℕ). p.1) told)
              (index_back_lem g ok i (digits gs i) (counter-answer g ok i inside g.generators refl)),
          subst (λ (v : Word). word_at_outcome g g.sites (bytes_of v) i ≡ answer w) (ap (λ (p : Word × List ℕ). p.0) told)
              (at-bytes (least gs w) (least-length valid w ∙ long) i inside ∙ ap answer (Action.back-reaches valid w long)),
        )

    -- the orbit list, entry by entry
    pub word-of-list : (k : ℕ) (ws : List Word) → orbit_list_outcome g g.sites bytes k ≡ answer ws → (i : ℕ) → i < order_of (generators_of g)
        → word_at_outcome g g.sites bytes i ≡ answer (get_or ws i [])
    unfolding orbit_list_outcome orbit_list
    word-of-list k ws e i h =
        let gs = generators_of g in
        let w = word_in g.sites bytes in
        let told = (unless_answer (word_call_checks g g.sites bytes ++ (list_length k (word_length * order_of gs) ∷ [])) (orbit_list gs w) ws e).1 in
        at_word bytes accepted i h
        ∙ ap answer (sym (map-below-at (λ j. reach gs j w) (order_of gs) i [] h) ∙ ap (λ (us : List Word). get_or us i []) told)
