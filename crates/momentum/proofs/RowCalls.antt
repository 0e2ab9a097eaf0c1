-- The call on rows of words under modes: its checks, what a pass has shown, and what it comes to where it is refused and where it answers; and that each
-- row is decided as the call on one word decides it.
-- What carries it: a row that passes is accepted by the call on one word (`row-passes` of orbit).
use Prim.Native.Nat.{ℕ, ◌<◌}
use mathlib.Core.Path.{◌≡◌, refl, sym, ap, ◌∙◌}
use mathlib.Core.Bool.{false}
use mathlib.Core.List.{List, ◌∷◌}
use lib.IntN.{ℤ}
use lib.ListN.{length, get_or}
use borrow.Author.Tests.{eq-eqb, ne_eqb, eqb-true, not-false}
use lib.Dec.{eqb}
use Rattle.outcome.specs.declared.Refusal.{Refusal}
use Rattle.outcome.specs.declared.Refusal.TheVariants as Refusal
use Rattle.outcome.specs.Outcome.{answer, refusal_of, verdict, Check}
use Rattle.outcome.proofs.Outcomes.{verdict-fine, call-refused, call-answers, unless_answer}
use Rattle.pauli_word.specs.Word.{Word}
use Rattle.pauli_word.specs.Bytes.{Bytes}
use Rattle.action.proofs.Below.{map-below-at, map-below-length}
use Rattle.group.specs.declared.Group.{Group}
use Rattle.group.specs.Value.{generators_of}
use Rattle.group.specs.Calls.{value_checks}
use Rattle.group.proofs.Accepted.{value_fine}
use Rattle.row_lists.specs.Rows.{row_by, row_size, rows_in_full}
use Rattle.row_lists.specs.Checks.{word_list_checks, AcceptedRows}
use Rattle.row_lists.proofs.ListChecks.{Agreeing}
use Rattle.row_lists.proofs.WordLists.{word-lists-agree, word-lists-accepted}
use Rattle.orbit.proofs.RowCalls.{value-past, value-parted, row-passes, row-letters}
use Rattle.momentum.specs.Calls.{mode_count, sector_outcome}
use Rattle.decisions.specs.Decisions.{Decision, dropped, Row, decision}
use Rattle.momentum.specs.Words.{sector_words_checks, sector_words_outcome}
use Rattle.sector_rows.specs.Rows.{decided_rows}
use Rattle.sector_rows.proofs.Written.{decided_row}
use Rattle.momentum.proofs.Outcomes.{sector-decision}

-- ---- the checks

module _ (g : Group) (ks : List ℤ) (words : List ℕ) (k a b : ℕ) where
  abbrev lists : List Check
  lists = word_list_checks g.sites words k a k b

  module _ (value : verdict (value_checks g) ≡ answer tt) where
    -- 18
    pub modes-refused : (length ks ≡ g.generators → ⊥) → verdict (sector_words_checks g ks words k a b) ≡ refusal_of Refusal.ModeCount
    modes-refused d = value-past g (mode_count g ks ∷ lists) value ∙ rw (ne_eqb (length ks) g.generators d)

    -- past it the lists decide
    pub modes-past : length ks ≡ g.generators → verdict (sector_words_checks g ks words k a b) ≡ verdict (word_list_checks g.sites words k a k b)
    modes-past e = value-past g (mode_count g ks ∷ lists) value ∙ rw (eq-eqb (length ks) g.generators e)

  -- ---- the call

  pub sector-words-refused : (why : Refusal) → verdict (sector_words_checks g ks words k a b) ≡ refusal_of why
      → sector_words_outcome g ks words k a b ≡ refusal_of why
  unfolding sector_words_outcome
  sector-words-refused = call-refused (sector_words_checks g ks words k a b) (answer (decided_rows (generators_of g) ks g.sites (rows_in_full k words) k))

  module _ (pass : verdict (sector_words_checks g ks words k a b) ≡ answer tt) where
    parted : (verdict (value_checks g) ≡ answer tt) × (verdict (mode_count g ks ∷ lists) ≡ answer tt)
    parted = value-parted g (mode_count g ks ∷ lists) pass

    modes-and-lists : ((mode_count g ks).broken ≡ false) × (verdict lists ≡ answer tt)
    modes-and-lists = verdict-fine (mode_count g ks) lists parted.1

    pub passed-value : verdict (value_checks g) ≡ answer tt
    passed-value = parted.0

    pub passed-modes : length ks ≡ g.generators
    passed-modes = eqb-true (length ks) g.generators (not-false (eqb (length ks) g.generators) modes-and-lists.0)

    pub passed-lists : verdict (word_list_checks g.sites words k a k b) ≡ answer tt
    passed-lists = modes-and-lists.1

    pub passed-lengths : Agreeing g.sites (length words) k a k b
    passed-lengths = word-lists-agree g.sites words k a k b passed-lists

    pub passed-rows : Bytes words → AcceptedRows g.sites (rows_in_full k words) k
    passed-rows = word-lists-accepted g.sites words k a k b passed-lists (value_fine g passed-value).0

    pub sector-words-answer : sector_words_outcome g ks words k a b ≡ answer (decided_rows (generators_of g) ks g.sites (rows_in_full k words) k)
    unfolding sector_words_outcome
    sector-words-answer = call-answers (sector_words_checks g ks words k a b) (answer (decided_rows (generators_of g) ks g.sites (rows_in_full k words) k)) pass

  -- ---- where it answers

  module _ (rows : List (Decision Row)) (e : sector_words_outcome g ks words k a b ≡ answer rows) where
    told : (verdict (sector_words_checks g ks words k a b) ≡ answer tt) × (decided_rows (generators_of g) ks g.sites (rows_in_full k words) k ≡ rows)
    unfolding sector_words_outcome
    told = unless_answer (sector_words_checks g ks words k a b) (decided_rows (generators_of g) ks g.sites (rows_in_full k words) k) rows e

    pub rows_all : length rows ≡ k
    unfolding decided_rows
    rows_all = ap length (sym told.1) ∙ map-below-length _ k

    pub row-alone : (i : ℕ) → i < k
        → sector_outcome g g.sites (row_by (row_size (length words) k) words i) ks g.generators ≡ answer (get_or rows i (dropped 0))
    unfolding decided_rows
    row-alone i h =
        let pass = told.0 in
        let row = row_by (row_size (length words) k) words i in
        sector-decision g g.sites row (row-passes g (passed-value pass) words k a k b (passed-lists pass) i h) ks g.generators (passed-modes pass) refl
        ∙ ap (λ (w : Word). answer (decision (generators_of g) ks w)) (sym (row-letters g (passed-value pass) words k a k b (passed-lists pass) i h))
        ∙ ap answer
        (sym (map-below-at (decided_row (generators_of g) ks g.sites (rows_in_full k words) k) k i (dropped 0) h)
        ∙ ap (λ (l : List (Decision Row)). get_or l i (dropped 0)) told.1)
