-- Counters and indices: what an answer of `index_from_counter` or `counter_from_index` tells, and that the two undo each other.
-- What carries it: an answer has passed its checks, so that the counter holds digits and the index is below the order.
use Prim.Native.Nat.{ℕ, ◌<◌}
use mathlib.Core.Path.{◌≡◌, refl, sym, ap, subst, ◌∙◌}
use mathlib.Core.Bool.{Bool, true, false}
use mathlib.Core.List.{List, [], ◌∷◌}
use lib.Dec.{ltb, eqb}
use lib.ListN.{length}
use borrow.Author.Tests.{ltb-true, eqb-true, not-false}
use Rattle.outcome.specs.declared.Refusal.TheVariants as Refusal
use Rattle.outcome.specs.Outcome.{answer, refusal_of, verdict}
use Rattle.outcome.proofs.Outcomes.{verdict-fine, unless_answer}
use Rattle.pauli_word.specs.Calls.{site_count}
use Rattle.action.specs.Index.{order_of, digits, Digits, digits_below, index}
use Rattle.action.proofs.Index.{Positive, below-digits, digits-below, digits-index, index-digits, index_below, digits-length, digits_proper, valid_positive}
use Rattle.elements.proofs.TableRows.{generators-length}
use Rattle.group.specs.declared.Group.{Group}
use Rattle.group.specs.Value.{generators_of, notAGroup, AcceptedGroup}
use Rattle.group.specs.Calls.{value_checks, index_range, list_length, counter_length, digit_range, counter_outcome, index_outcome}
use Rattle.group.proofs.Accepted.{value_passes, accepted_tables}
use Rattle.group.proofs.Outcomes.{counter-answer, index-digit, index-answer}

module _ (g : Group) where
  -- an index that is answered is that of digits
  index-told : (cs : List ℕ) (i : ℕ) → index_outcome g cs ≡ answer i
      → (length cs ≡ g.generators) × (digits_below (generators_of g) cs ≡ true) × (index (generators_of g) cs ≡ i)
  unfolding index_outcome
  index-told cs i e =
      let u = unless_answer (site_count g.sites ∷ notAGroup g ∷ counter_length g cs ∷ digit_range g cs ∷ []) (index (generators_of g) cs) i e in
      let a = verdict-fine (site_count g.sites) (notAGroup g ∷ counter_length g cs ∷ digit_range g cs ∷ []) u.0 in
      let b = verdict-fine (notAGroup g) (counter_length g cs ∷ digit_range g cs ∷ []) a.1 in
      let c = verdict-fine (counter_length g cs) (digit_range g cs ∷ []) b.1 in
      let d = verdict-fine (digit_range g cs) [] c.1 in
      (eqb-true (length cs) g.generators (not-false (eqb (length cs) g.generators) c.0), not-false (digits_below (generators_of g) cs) d.0, u.1)

  -- digits that are answered are those of an index below the order
  counter-told : (i k : ℕ) (cs : List ℕ) → counter_outcome g i k ≡ answer cs → (i < order_of (generators_of g)) × (digits (generators_of g) i ≡ cs)
  unfolding counter_outcome
  counter-told i k cs e =
      let u = unless_answer (site_count g.sites ∷ notAGroup g ∷ index_range g i ∷ list_length k g.generators ∷ []) (digits (generators_of g) i) cs e in
      let a = verdict-fine (site_count g.sites) (notAGroup g ∷ index_range g i ∷ list_length k g.generators ∷ []) u.0 in
      let b = verdict-fine (notAGroup g) (index_range g i ∷ list_length k g.generators ∷ []) a.1 in
      let c = verdict-fine (index_range g i) (list_length k g.generators ∷ []) b.1 in
      (ltb-true i (order_of (generators_of g)) (not-false (ltb i (order_of (generators_of g))) c.0), u.1)

  module _ (ok : AcceptedGroup g) where
    passes : verdict (value_checks g) ≡ answer tt
    passes = value_passes g ok.few ok.is_one

    count : length (generators_of g) ≡ g.generators
    unfolding generators_of
    count = generators-length (accepted_tables g ok)

    positive : Positive (generators_of g)
    unfolding generators_of
    positive = valid_positive (accepted_tables g ok).valid

    pub index-of-digits : (cs : List ℕ) → Digits (generators_of g) cs → index_outcome g cs ≡ answer (index (generators_of g) cs)
    index-of-digits cs d =
        index-answer g passes cs (digits-length (generators_of g) cs d ∙ count) (digits-below (generators_of g) cs d)

    pub index-refused : (cs : List ℕ) → length cs ≡ g.generators → (Digits (generators_of g) cs → ⊥) → index_outcome g cs ≡ refusal_of Refusal.DigitRange
    index-refused cs long other = index-digit g passes cs long (go (digits_below (generators_of g) cs) (below-digits (generators_of g) cs (long ∙ sym count)))
      where
        go : (b : Bool) → (b ≡ true → Digits (generators_of g) cs) → b ≡ false
        go true h = absurd (other (h refl))
        go false h = refl

    pub digits-back : (cs : List ℕ) (i : ℕ) → index_outcome g cs ≡ answer i → counter_outcome g i g.generators ≡ answer cs
    digits-back cs i e =
        let gs = generators_of g in
        let (long, below, same) = index-told cs i e in
        let d = below-digits gs cs (long ∙ sym count) below in
        counter-answer g ok i (subst (λ (j : ℕ). j < order_of gs) same (index_below gs cs d)) g.generators refl
        ∙ ap answer (ap (digits gs) (sym same) ∙ digits-index gs positive cs d)

    pub index_back_lem : (i : ℕ) (cs : List ℕ) → counter_outcome g i g.generators ≡ answer cs → index_outcome g cs ≡ answer i
    index_back_lem i cs e =
        let gs = generators_of g in
        let (inside, same) = counter-told i g.generators cs e in
        index-of-digits cs (subst (Digits gs) same (digits_proper gs positive i)) ∙ ap answer (ap (index gs) (sym same) ∙ index-digits gs positive i inside)
