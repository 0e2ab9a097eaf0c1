-- What the calls come to where their first checks pass, and a sector call after a refusal and of a word of the old form.
-- What carries it: the checks before a call's own are passed, so that its own decide, then the numerators or the traversal.
use Prim.Native.Nat.{ℕ}
use mathlib.Core.Path.{◌≡◌, ap, ap₂, ◌∙◌}
use mathlib.Core.Bool.{true, false}
use mathlib.Core.List.{List, [], ◌∷◌, ◌++◌}
use lib.Dec.{ltb}
use lib.IntN.{ℤ}
use lib.ListN.{length}
use borrow.Author.Tests.{le-ltb, eq-eqb, ne_eqb}
use Rattle.pauli_word.specs.Limits.{max_sites}
use Rattle.outcome.specs.Outcome.{answer, verdict, refusal_of, unless, Check}
use Rattle.pauli_word.specs.Word.{Word}
use Rattle.pauli_word.specs.Bytes.{letters_in, in_full, word_in}
use Rattle.pauli_word.specs.Calls.{past_old}
use Rattle.pauli_word.proofs.Forms.{full_full}
use Rattle.action.specs.Permutation.{Generator}
use Rattle.action.specs.Index.{order_of}
use Rattle.action.specs.Sector.{numerator}
use Rattle.group.specs.declared.Group.{Group}
use Rattle.outcome.specs.declared.Refusal.{Refusal}
use Rattle.outcome.specs.declared.Refusal.TheVariants as Refusal
use Rattle.group.specs.Value.{generators_of, is_group}
use Rattle.orbit.specs.Calls.{word_call_checks}
use Rattle.group.specs.Calls.{value_checks, list_length}
use Rattle.group.proofs.Accepted.{value_fine}
use Rattle.outcome.proofs.Outcomes.{call-refused, front_refused, call-answers, verdict-append}
use Rattle.momentum.specs.Calls.{mode_count, numerator_outcome, table_outcome, sector_outcome}
use Rattle.decisions.specs.Decisions.{numerators, decision}
use Rattle.orbit.proofs.WordCalls.{checks_full}

module _ (g : Group) (pass : verdict (value_checks g) ≡ answer tt) where
  few : ltb max_sites g.sites ≡ false
  few = le-ltb max_sites g.sites (value_fine g pass).0

  one : is_group g ≡ true
  one = (value_fine g pass).1

  module _ (ks : List ℤ) where
    -- ---- 18

    pub numerator-modes : (cs : List ℕ) → (length ks ≡ g.generators → ⊥) → numerator_outcome g ks cs ≡ refusal_of Refusal.ModeCount
    unfolding numerator_outcome
    numerator-modes cs d = simp (few, one, ne_eqb (length ks) g.generators d)

    pub table-modes : (k : ℕ) → (length ks ≡ g.generators → ⊥) → table_outcome g ks k ≡ refusal_of Refusal.ModeCount
    unfolding table_outcome
    table-modes k d = simp (few, one, ne_eqb (length ks) g.generators d)

    module _ (modes : length ks ≡ g.generators) where
      -- ---- the numerator: 20, or its answer

      module _ (cs : List ℕ) where
        pub numerator-length : (length cs ≡ g.generators → ⊥) → numerator_outcome g ks cs ≡ refusal_of Refusal.CounterLength
        unfolding numerator_outcome
        numerator-length d = simp (few, one, eq-eqb (length ks) g.generators modes, ne_eqb (length cs) g.generators d)

        pub numerator-answer : length cs ≡ g.generators → numerator_outcome g ks cs ≡ answer (numerator (generators_of g) ks cs)
        unfolding numerator_outcome
        numerator-answer e = simp (few, one, eq-eqb (length ks) g.generators modes, eq-eqb (length cs) g.generators e)

      -- ---- the table: 21, or its answer

      module _ (k : ℕ) where
        pub table-length : (k ≡ order_of (generators_of g) → ⊥) → table_outcome g ks k ≡ refusal_of Refusal.ListLength
        unfolding table_outcome
        table-length d = simp (few, one, eq-eqb (length ks) g.generators modes, ne_eqb k (order_of (generators_of g)) d)

        pub table-answer : k ≡ order_of (generators_of g) → table_outcome g ks k ≡ answer (numerators (generators_of g) ks)
        unfolding table_outcome
        table-answer e = simp (few, one, eq-eqb (length ks) g.generators modes, eq-eqb k (order_of (generators_of g)) e)

-- ---- a sector call after a refusal

pub sector_refused :
    (g : Group) (n : ℕ) (bytes : List ℕ) (ks : List ℤ) (k : ℕ) (why : Refusal) → verdict (word_call_checks g n bytes) ≡ refusal_of why
    → sector_outcome g n bytes ks k ≡ refusal_of why
unfolding sector_outcome
sector_refused g n bytes ks k why e =
    let more = mode_count g ks ∷ list_length k g.generators ∷ [] in
    call-refused (word_call_checks g n bytes ++ more) (answer (decision (generators_of g) ks (word_in n bytes))) why
    (front_refused (word_call_checks g n bytes) more why e)

-- ---- a sector call whose first checks pass: 18, 21, or its decision

module _ (g : Group) (n : ℕ) (bytes : List ℕ) (passes : verdict (word_call_checks g n bytes) ≡ answer tt) (ks : List ℤ) (k : ℕ) where
  abbrev gs : List Generator
  gs = generators_of g

  abbrev w : Word
  w = word_in n bytes

  -- the checks before 18 are passed
  own : verdict (word_call_checks g n bytes ++ (mode_count g ks ∷ list_length k g.generators ∷ [])) ≡ verdict (mode_count g ks ∷ list_length k g.generators ∷ [])
  own =
      verdict-append (word_call_checks g n bytes) (mode_count g ks ∷ list_length k g.generators ∷ [])
      ∙ call-answers (word_call_checks g n bytes) (verdict (mode_count g ks ∷ list_length k g.generators ∷ [])) passes

  pub sector-modes : (length ks ≡ g.generators → ⊥) → sector_outcome g n bytes ks k ≡ refusal_of Refusal.ModeCount
  unfolding sector_outcome
  sector-modes d = rw (own, ne_eqb (length ks) g.generators d)

  module _ (modes : length ks ≡ g.generators) where
    pub sector-length : (k ≡ g.generators → ⊥) → sector_outcome g n bytes ks k ≡ refusal_of Refusal.ListLength
    unfolding sector_outcome
    sector-length d = rw (own, eq-eqb (length ks) g.generators modes, ne_eqb k g.generators d)

    pub sector-decision : k ≡ g.generators → sector_outcome g n bytes ks k ≡ answer (decision gs ks w)
    unfolding sector_outcome
    sector-decision room = rw (own, eq-eqb (length ks) g.generators modes, eq-eqb k g.generators room)

-- ---- a word of the old form, of no more sites than that form has, is answered as the word in full is

pub sector_full :
    (g : Group) (n : ℕ) (bytes : List ℕ) → past_old n (length bytes) ≡ false → (ks : List ℤ) (k : ℕ)
    → sector_outcome g n (in_full bytes) ks k ≡ sector_outcome g n bytes ks k
unfolding sector_outcome
sector_full g n bytes fits ks k =
    ap₂
    (λ (cs : List Check) (w : Word). unless (cs ++ (mode_count g ks ∷ list_length k g.generators ∷ [])) (answer (decision (generators_of g) ks w)))
    (checks_full g n bytes fits) (ap (letters_in n) (full_full bytes))
