-- Demand 3 at the calls: each statement is followed by the law that shows it.
--
-- The hypotheses, then the first, the second and the third sentence, then what supports them: 1 What is listed, 2 The decision, 3 Modes of either
-- sign, 4 Numerators, 5 Pairs, 6 Either form of a word. The statements are about the definitions of `specs/` of this crate, of group and of action: `withIndexOutcome` is what
-- canonicalize_with_index comes to, `sectorOutcome` what canonicalize_in_sector comes to, and the contract of each call says so of every input.
use Prim.Native.Nat.{ℕ, ◌*◌, ◌^◌, ◌<◌}
use mathlib.Core.Path.{◌≡◌}
use mathlib.Core.Logic.{◌↔◌}
use mathlib.Core.Bool.{true, false, ◌&&◌}
use mathlib.Core.List.{List}
use native.Mathlib.Omega.{arith}
use lib.IntN.{ℤ, pos}
use lib.ListN.{length, get_or}
use Rattle.outcome.specs.Outcome.{answer}
use Rattle.pauli_word.specs.Word.{Word}
use Rattle.pauli_word.specs.Bytes.{AcceptedWord, EitherWord, in_full, bytes_of, word_in}
use Rattle.pauli_word.specs.Calls.{past_old}
use Rattle.pauli_word.proofs.Forms.{either-accepted, written-full, written_same}
use Rattle.pauli_word.proofs.Words.{decode-length}
use Rattle.action.specs.Lists.{Member, NoRepeats, count}
use Rattle.action.specs.Permutation.{Generator}
use Rattle.action.specs.Index.{order_of, digits}
use Rattle.action.specs.Orbit.{reach, orbit, is_in, fixes, fixing, orbit_size}
use Rattle.action.specs.Sector.{numerator, reduced_modes, reduced_digits, Modes, keeps, Drops}
use Rattle.action.specs.Count.{all_modes}
use Rattle.action.proofs.Index.{valid_positive}
use Rattle.action.proofs.Theorems as Action
use Rattle.group.specs.declared.Group.{Group}
use Rattle.group.specs.Value.{GivenBy, generators_of}
use Rattle.group.specs.Calls.{index_outcome}
use Rattle.orbit.specs.Calls.{with_index_outcome, word_at_outcome}
use Rattle.orbit.specs.Walked.{CanonicalAnswer}
use Rattle.orbit.proofs.Promises.{canonical_answer, with-index-either, word_back, counter-back}
use Rattle.group.proofs.Promises.{given-group}
use Rattle.momentum.specs.Calls.{numerator_outcome, table_outcome, sector_outcome, row_counter}
use Rattle.decisions.specs.Decisions.{numerators, kept, dropped, Row, decision}
use Rattle.momentum.specs.Counts.{accepted_words, is_own, is_kept, pairs}
use Rattle.momentum.proofs.CountPairs as Pairs
use Rattle.momentum.proofs.Words as Words
use Rattle.momentum.proofs.Modes as Modes
use Rattle.momentum.proofs.GivenGroups as Given
use Rattle.momentum.proofs.KeptCalls as Kept
use Rattle.momentum.proofs.Numerators as Numerators
use Rattle.momentum.proofs.Outcomes as Sectors

-- ---- The hypotheses: g is a group value that generators give which break none of the rules 1 to 13 (`GivenBy`). Its generators are gs, its sites
-- are n. A word is handed over as `bytes` in either form, with no bit at or above site n (`EitherWord`): in full, or, for at most old_sites sites, of the
-- old form; w bytes are its letters (`word_in`). A mode list ks has a signed number for each generator. `counter` is a list that a call is lent, with a
-- place for each generator

module _ (g : Group) where
  abbrev gs : List Generator
  gs = generators_of g

  abbrev n : ℕ
  n = g.sites

  abbrev w : List ℕ → Word
  w bytes = word_in n bytes

  module _ (given : GivenBy g) where
    -- ---- The first sentence: canonicalize_with_index answers every accepted word, and its answer is the least word of the orbit with an index that
    -- leads back. That is, by the fields of `CanonicalAnswer`: the outcome is the answer of a word and an index (`answered`); the word is in the orbit
    -- (`inOrbit`), and no word of the orbit is less (`noneLess`); the index is the inverse (`inverted`) of an index below the group order (`below`)
    -- that reaches the word (`reaches`), which no earlier index does (`noneEarlier`); and the index leads from the word back to w bytes (`leadsBack`)

    pub least-word : (bytes : List ℕ) → EitherWord n bytes → CanonicalAnswer gs (w bytes) (with_index_outcome g n bytes)
    least-word = canonical_answer g (given-group g given)

    -- ---- The second sentence: of all reduced mode lists, exactly as many make canonicalize_in_sector keep a word as its orbit has different words

    pub kept-lists :
        (bytes : List ℕ) → EitherWord n bytes → (counter : List ℕ) → length counter ≡ g.generators
        → count (λ ks. is_kept (sector_outcome g n bytes ks (length counter))) (all_modes gs) ≡ length (orbit gs (w bytes))
    kept-lists bytes word counter room = Kept.kept-lists g given (length counter) room bytes word

    -- ---- The third sentence: nothing is lost. Take every pair of a reduced mode list and an accepted word, each word once, by its bytes in full. In
    -- 4 ^ n of them the word is its own least
    -- word, by canonicalize_with_index, and is kept under the modes, by canonicalize_in_sector

    pub kept-pairs :
        (counter : List ℕ) → length counter ≡ g.generators
        → count (λ p. is_own p.1 (with_index_outcome g n p.1) && is_kept (sector_outcome g n p.1 p.0 (length counter)))
        (pairs (all_modes gs) (accepted_words n))
        ≡ 4 ^ n
    kept-pairs counter room = Kept.kept-pairs g given (length counter) room

    -- ---- 1 What is listed: the lists that are counted over hold what they are to hold, once each

    -- the mode lists with a mode from 0 to its order less 1 for each generator
    pub modes-all : (ks : List ℤ) → Member ks (all_modes gs) ↔ Modes gs ks
    modes-all = Action.modes-all (Given.given-valid g given)

    pub modes-once : NoRepeats (all_modes gs)
    modes-once = Action.modes-once (Given.given-valid g given)

    -- which a caller can hand over: each mode is a signed number of 32 bits
    pub modes_fit_lem : (ks : List ℤ) → Member ks (all_modes gs) → (k : ℤ) → Member k ks → (j : ℕ) × (k ≡ pos j) × (j < 2 ^ 31)
    modes_fit_lem ks m k h =
        let (j, e, l) = Modes.listed_below gs (valid_positive (Given.given-valid g given)) ks m k h in
        (j, e, omega (arith, l, Given.given-small g given))

    -- the accepted words in full
    pub words_all : (bytes : List ℕ) → Member bytes (accepted_words n) ↔ AcceptedWord n bytes
    words_all = Words.accepted-all n (Given.given-sites g given)

    pub words-once : NoRepeats (accepted_words n)
    words-once = Words.accepted-once n (Given.given-sites g given)

    module _ (bytes : List ℕ) (word : EitherWord n bytes) where
      -- the words that the indices below the group order reach from a word
      pub orbit_all : (u : Word) → (is_in u (orbit gs (w bytes)) ≡ true) ↔ ((i : ℕ) × (i < order_of gs) × (u ≡ reach gs i (w bytes)))
      orbit_all = Kept.orbit_all gs (w bytes)

      pub orbit-once : NoRepeats (orbit gs (w bytes))
      orbit-once = Action.orbit-once (Given.given-valid g given) (w bytes) (decode-length (either-accepted n bytes word))

      -- their number is the orbit size, the group order divided by the number of indices that fix the word
      pub size-words : orbit_size gs (w bytes) ≡ length (orbit gs (w bytes))
      size-words = Action.orbit_size-orbit (Given.given-valid g given) (w bytes) (decode-length (either-accepted n bytes word))

      -- ---- 2 The decision: with a mode and a place of the counter for each generator no accepted word is refused

      pub never-refused :
          (ks : List ℤ) → length ks ≡ g.generators → (counter : List ℕ) → length counter ≡ g.generators
          → sector_outcome g n bytes ks (length counter) ≡ answer (decision gs ks (w bytes))
      never-refused ks modes counter room = Kept.sector-answer g given bytes word ks modes (length counter) room

      -- it is kept exactly if every index that fixes it has numerator 0 (`keeps`)
      pub kept-exactly :
          (ks : List ℤ) → length ks ≡ g.generators → (counter : List ℕ) → length counter ≡ g.generators
          → is_kept (sector_outcome g n bytes ks (length counter)) ≡ keeps gs ks (w bytes)
      kept-exactly ks modes counter room = Kept.kept-keeps g given bytes word ks modes (length counter) room

      -- and dropped exactly if some index fixes it and has another numerator
      pub dropped-some :
          (ks : List ℤ) → length ks ≡ g.generators → (counter : List ℕ) → length counter ≡ g.generators
          → ((i : ℕ) × (sector_outcome g n bytes ks (length counter) ≡ answer (dropped i)))
          ↔ ((i : ℕ) × (i < order_of gs) × (fixes gs (w bytes) i ≡ true) × (numerator gs ks (digits gs i) ≡ 0 → ⊥))
      dropped-some ks modes counter room = Kept.dropped-some g given bytes word ks modes (length counter) room

      -- by index i exactly if i is the smallest such index, by the fields of `Drops`: it is below the group order (`inside`) and fixes the word
      -- (`fixed`), its numerator is not 0 (`phased`), and no smaller index does both (`noneEarlier`)
      pub dropped-exactly :
          (ks : List ℤ) → length ks ≡ g.generators → (counter : List ℕ) → length counter ≡ g.generators
          → (i : ℕ) → (sector_outcome g n bytes ks (length counter) ≡ answer (dropped i)) ↔ Drops gs ks (w bytes) i
      dropped-exactly ks modes counter room = Kept.dropped-drops g given bytes word ks modes (length counter) room

      -- what goes with a kept word is the answer of canonicalize_with_index and the number of different words of the orbit, which times the number of
      -- fixing indices is the group order
      pub kept_row :
          (ks : List ℤ) (counter : List ℕ) (r : Row) → sector_outcome g n bytes ks (length counter) ≡ answer (kept r)
          → (with_index_outcome g n bytes ≡ answer (r.word, r.index))
          × (r.size ≡ length (orbit gs (w bytes)))
          × (r.size * length (fixing gs (w bytes)) ≡ order_of gs)
      kept_row ks counter = Kept.kept_row g given bytes word ks (length counter)

      -- and from what a buyer stores of it, the representative and the counter, the word comes back: index_from_counter gives the index, and
      -- word_at_index the word
      pub kept_back :
          (ks : List ℤ) (counter : List ℕ) (r : Row) → sector_outcome g n bytes ks (length counter) ≡ answer (kept r)
          → (index_outcome g (row_counter gs counter (kept r)) ≡ answer r.index) × (word_at_outcome g n (bytes_of r.word) r.index ≡ answer (w bytes))
      kept_back ks counter r e =
          let ok = given-group g given in
          let found = (kept_row ks counter r e).0 in
          (counter-back g ok bytes word r.word r.index found, word_back g ok bytes word r.word r.index found)

    module _ (ks : List ℤ) (modes : length ks ≡ g.generators) where
      -- ---- 3 Modes of either sign: a call comes to the same under the modes reduced to 0 .. order less 1, also where it is refused, and those are
      -- among the mode lists that are counted over

      pub signed-modes : (m : ℕ) (bytes : List ℕ) (k : ℕ) → sector_outcome g m bytes ks k ≡ sector_outcome g m bytes (reduced_modes gs ks) k
      signed-modes = Numerators.sector-reduced g given ks modes

      pub signed-listed : Member (reduced_modes gs ks) (all_modes gs)
      signed-listed = Numerators.reduced-member g given ks modes

      -- ---- 4 Numerators: character_numerator answers with the numerator of a counter, which may be reduced first, and so may the modes

      pub numerator-answered : (cs : List ℕ) → length cs ≡ g.generators → numerator_outcome g ks cs ≡ answer (numerator gs ks cs)
      numerator-answered = Numerators.numerator-answer g given ks modes

      pub numerator-reduced :
          (cs : List ℕ) → length cs ≡ g.generators → numerator_outcome g ks cs ≡ numerator_outcome g (reduced_modes gs ks) (reduced_digits gs cs)
      numerator-reduced = Numerators.numerator-reduced g given ks modes

      -- character_table answers where it is lent a place for each index
      pub table-answered : (list : List ℕ) → length list ≡ order_of gs → table_outcome g ks (length list) ≡ answer (numerators gs ks)
      table-answered list = Numerators.table-answer g given ks modes (length list)

  -- and the table has, for each index below the order, the numerator of its counter
  module _ (ks : List ℤ) (k : ℕ) (table : List ℕ) (answered : table_outcome g ks k ≡ answer table) where
    pub table-long : length table ≡ order_of gs
    table-long = Numerators.table-length g ks k table answered

    pub table-numerators : (i : ℕ) → i < order_of gs → get_or table i 0 ≡ numerator gs ks (digits gs i)
    table-numerators = Numerators.table_at g ks k table answered

-- ---- 5 Pairs: each member of a list with each member of another, once if these have no repeats, whatever the lists hold

module _ {A B : Type 0} (xs : List A) (ys : List B) where
  pub pairs-all : (p : A × B) → Member p (pairs xs ys) ↔ (Member p.0 xs × Member p.1 ys)
  pairs-all p = (Pairs.of-member-pairs xs ys p, λ h. Pairs.member-pairs xs ys p h.0 h.1)

  pub pairs-once : NoRepeats xs → NoRepeats ys → NoRepeats (pairs xs ys)
  pairs-once = Pairs.no_repeats_pairs xs ys

-- ---- 6 Either form of a word: a word that is read and written again is the same word and is then in full; and a call answers a word of the old form
-- as it does the word in full with the same letters, also where it is refused. Past the sites of the old form it is refused, 36 (`pastOld`)

module _ (n : ℕ) (bytes : List ℕ) (word : EitherWord n bytes) where
  pub word-written : bytes_of (word_in n bytes) ≡ in_full bytes
  word-written = written-full n bytes word

  pub word_same : word_in n (bytes_of (word_in n bytes)) ≡ word_in n bytes
  word_same = written_same n bytes word

module _ (g : Group) (m : ℕ) (bytes : List ℕ) (fits : past_old m (length bytes) ≡ false) where
  pub index-either : with_index_outcome g m (in_full bytes) ≡ with_index_outcome g m bytes
  index-either = with-index-either g m bytes fits

  pub sector-either : (ks : List ℤ) (k : ℕ) → sector_outcome g m (in_full bytes) ks k ≡ sector_outcome g m bytes ks k
  sector-either = Sectors.sector_full g m bytes fits
