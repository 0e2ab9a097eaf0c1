-- What is kept, for a given group: a word is kept where its modes keep it, and counts over the calls are counts over words.
-- What carries it: no call with an accepted word, a mode and a place of the counter for each generator is refused (`sector-answer`), so that a test
-- of outcomes is a test of words, and a sum over accepted words is one over words (`pairs-by-words`).
use Prim.Native.Nat.{ℕ, ◌*◌, ◌^◌, ◌<◌}
use native.Mathlib.Omega.{arith}
use mathlib.Core.Path.{◌≡◌, refl, sym, ◌∙◌, ap, ap₂}
use mathlib.Core.Logic.{◌↔◌, inl}
use mathlib.Core.Bool.{Bool, true, false, ◌&&◌, cond}
use mathlib.Core.List.{List, [], ◌∷◌, ◌++◌}
use lib.IntN.{ℤ}
use lib.ListN.{length}
use Rattle.pauli_word.specs.Limits.{plane_length}
use Rattle.outcome.specs.Outcome.{answer, verdict}
use Rattle.pauli_word.specs.Word.{Word}
use Rattle.pauli_word.specs.Bytes.{AcceptedWord, EitherWord, bytes_of, word_in}
use Rattle.outcome.proofs.Outcomes.{call-answers, unless_answer}
use Rattle.pauli_word.proofs.Forms.{either-accepted, full-letters}
use Rattle.pauli_word.proofs.Words.{decode-length, encoded-accepted, encoded-decode}
use Rattle.action.specs.Lists.{count}
use Rattle.action.specs.Permutation.{Generator, Valid}
use Rattle.action.specs.Index.{order_of, digits}
use Rattle.action.specs.Orbit.{reach, orbit, is_in, least, index_back, fixes, fixing, is_representative}
use Rattle.action.specs.Sector.{numerator, keeps, dropped_by, Drops}
use Rattle.action.specs.Count.{all_words, all_modes, representatives, kept_lists, kept_pairs}
use Rattle.action.proofs.Lists.{count-cong, total-cong, total-map}
use Rattle.action.proofs.Dropped.{keeps-unless, drops-exactly}
use Rattle.action.proofs.Pairs.{words_long}
use Rattle.action.proofs.Canonical.{orbit_intro, orbit_elim, least-length}
use Rattle.action.proofs.Theorems as Action
use Rattle.group.specs.declared.Group.{Group}
use Rattle.group.specs.Value.{GivenBy, generators_of}
use Rattle.orbit.specs.Calls.{word_call_checks, with_index_outcome}
use Rattle.group.specs.Calls.{list_length}
use Rattle.momentum.specs.Calls.{mode_count, sector_outcome}
use Rattle.decisions.specs.Decisions.{kept, dropped, Row, decision}
use Rattle.momentum.specs.Counts.{accepted_words, is_own, is_kept, pairs}
use Rattle.momentum.proofs.Decided.{kept_by, decides, decided-pairs, decided-lists}
use Rattle.momentum.proofs.CountPairs.{count-pairs, count-both, total-select}
use Rattle.momentum.proofs.Words.{same_numbers_encode}
use Rattle.momentum.proofs.Modes.{modes_length}
use Rattle.decisions.proofs.Placing.{decision-drops}
use Rattle.momentum.proofs.Outcomes.{sector-decision}
use Rattle.momentum.proofs.GivenGroups.{given-accepted, given-valid, given-length, given-sites}
use Rattle.orbit.proofs.WordCalls.{word_call_passes}

-- ---- the orbit

pub orbit_all : (gs : List Generator) (w u : Word) → (is_in u (orbit gs w) ≡ true) ↔ ((i : ℕ) × (i < order_of gs) × (u ≡ reach gs i w))
orbit_all gs w u = (
  orbit_elim gs w u,
  λ (h : (i : ℕ) × (i < order_of gs) × (u ≡ reach gs i w)). rw h.2 (orbit_intro gs w h.0 h.1),
)

-- ---- the decision

-- by whether the modes keep the word
row_by : (b : Bool) (r s : Row) (i : ℕ) → cond b (kept r) (dropped i) ≡ kept s → r ≡ s
row_by true r s i e = cc
row_by false r s i e = let z : ◌≡◌ {A = ℕ} 0 1 = cc in absurd (omega arith)

module _ (g : Group) where
  abbrev gs : List Generator
  gs = generators_of g

  abbrev n : ℕ
  n = g.sites

  module _ (given : GivenBy g) where
    valid : Valid n gs
    valid = given-valid g given

    -- ---- an accepted word

    module _ (bytes : List ℕ) (word : EitherWord n bytes) where
      abbrev w : Word
      w = word_in n bytes

      long : length w ≡ n
      long = decode-length (either-accepted n bytes word)

      pub passes : verdict (word_call_checks g n bytes) ≡ answer tt
      passes = word_call_passes g (given-accepted g given) bytes word

      pub index-answer : with_index_outcome g n bytes ≡ answer (least gs w, index_back gs w)
      unfolding with_index_outcome
      index-answer = call-answers (word_call_checks g n bytes) _ passes

      module _ (ks : List ℤ) (modes : length ks ≡ g.generators) (k : ℕ) (room : k ≡ g.generators) where
        pub sector-answer : sector_outcome g n bytes ks k ≡ answer (decision gs ks w)
        sector-answer = sector-decision g n bytes passes ks k modes room

        pub kept-keeps : is_kept (sector_outcome g n bytes ks k) ≡ keeps gs ks w
        unfolding decision
        kept-keeps = ap is_kept sector-answer ∙ kept_by (keeps gs ks w) _ _

        pub dropped-drops : (i : ℕ) → (sector_outcome g n bytes ks k ≡ answer (dropped i)) ↔ Drops gs ks w i
        dropped-drops i = (
          λ d.
              let told : answer (decision gs ks w) ≡ answer (dropped i) = sym sector-answer ∙ d in
              let same : decision gs ks w ≡ dropped i = cc in
              (decision-drops gs ks w i).0 same,
          λ h. sector-answer ∙ ap answer ((decision-drops gs ks w i).1 h),
        )

        -- some index drops it
        pub dropped-some :
            ((i : ℕ) × (sector_outcome g n bytes ks k ≡ answer (dropped i)))
            ↔ ((i : ℕ) × (i < order_of gs) × (fixes gs w i ≡ true) × (numerator gs ks (digits gs i) ≡ 0 → ⊥))
        dropped-some = (
          λ d. let h = (dropped-drops d.0).0 d.1 in (d.0, h.inside, h.fixed, h.phased),
          λ h.
              let e = (keeps-unless gs w ks).1 h in
              (dropped_by gs ks w, (dropped-drops (dropped_by gs ks w)).1 ((drops-exactly gs w ks (dropped_by gs ks w)).1 (e, refl))),
        )

      -- what goes with a kept word
      pub kept_row :
          (ks : List ℤ) (k : ℕ) (r : Row) → sector_outcome g n bytes ks k ≡ answer (kept r)
          → (with_index_outcome g n bytes ≡ answer (r.word, r.index))
          × (r.size ≡ length (orbit gs w))
          × (r.size * length (fixing gs w) ≡ order_of gs)
      unfolding sector_outcome decision
      kept_row ks k r e =
          let checks = word_call_checks g n bytes ++ (mode_count g ks ∷ list_length k g.generators ∷ []) in
          let row = row_by (keeps gs ks w) _ r _ (unless_answer checks (decision gs ks w) (kept r) e).1 in
          let size : r.size ≡ length (orbit gs w) = ap (λ (x : Row). x.size) (sym row) ∙ Action.orbit_size-orbit valid w long in (
            index-answer ∙ ap (λ (x : Row). answer (x.word, x.index)) row,
            size,
            ap (λ (x : ℕ). x * length (fixing gs w)) size ∙ sym (Action.orbit-stabilizer valid w long),
          )

    -- ---- counts, with a place of the counter for each generator

    module _ (k : ℕ) (room : k ≡ g.generators) where
      count-decides : (bytes : List ℕ) → EitherWord n bytes
          → count (λ ks. is_kept (sector_outcome g n bytes ks k)) (all_modes gs) ≡ kept_lists (decides gs) gs (word_in n bytes)
      unfolding kept_lists
      count-decides bytes word =
          count-cong _ _ (all_modes gs) (λ ks m. ap is_kept (sector-answer bytes word ks (modes_length gs ks m ∙ given-length g given) k room))

      pub kept-lists : (bytes : List ℕ) → EitherWord n bytes
          → count (λ ks. is_kept (sector_outcome g n bytes ks k)) (all_modes gs) ≡ length (orbit gs (word_in n bytes))
      kept-lists bytes word = count-decides bytes word ∙ decided-lists valid (word_in n bytes) (long bytes word)

      -- whether the calls answer that bytes are their own least word, and that the modes keep it
      abbrev kept_own : List ℤ → List ℕ → Bool
      kept_own ks bytes = is_own bytes (with_index_outcome g n bytes) && is_kept (sector_outcome g n bytes ks k)

      -- of the bytes of a word
      module _ (v : Word) (letters : length v ≡ n) where
        abbrev coded : List ℕ
        coded = bytes_of v

        full : AcceptedWord n coded
        full = encoded-accepted plane_length v letters (given-sites g given) refl

        word : EitherWord n coded
        word = inl full

        decoded : word_in n coded ≡ v
        decoded = full-letters n coded full ∙ encoded-decode plane_length v letters (given-sites g given) refl

        own : is_own coded (with_index_outcome g n coded) ≡ is_representative gs v
        unfolding is_representative
        own =
            ap (is_own coded) (index-answer coded word)
            ∙ rw decoded (same_numbers_encode plane_length n (given-sites g given) (least gs v) v (least-length valid v ∙ letters) letters)

        count-own : count (λ ks. kept_own ks coded) (all_modes gs) ≡ cond (is_representative gs v) (kept_lists (decides gs) gs v) 0
        count-own =
            count-both (is_own coded (with_index_outcome g n coded)) _ (all_modes gs)
            ∙ ap₂ (λ (b : Bool) (x : ℕ). cond b x 0) own (count-decides coded word ∙ ap (kept_lists (decides gs) gs) decoded)

      pairs-by-words : count (λ p. kept_own p.0 p.1) (pairs (all_modes gs) (accepted_words n)) ≡ kept_pairs (decides gs) gs n
      unfolding accepted_words kept_pairs representatives
      pairs-by-words =
          count-pairs (λ p. kept_own p.0 p.1) (all_modes gs) (accepted_words n)
          ∙ total-map (λ bytes. count (λ ks. kept_own ks bytes) (all_modes gs)) bytes_of (all_words n)
          ∙ total-cong _ _ (all_words n) (λ v m. count-own v (words_long n v m))
          ∙ sym (total-select (kept_lists (decides gs) gs) (is_representative gs) (all_words n))

      pub kept-pairs : count (λ p. kept_own p.0 p.1) (pairs (all_modes gs) (accepted_words n)) ≡ 4 ^ n
      kept-pairs = pairs-by-words ∙ decided-pairs valid
