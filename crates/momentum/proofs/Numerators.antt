-- The numerators of a given group, by the calls: what they answer, that modes and digits may be reduced first, and the table by its places.
use Prim.Native.Nat.{ℕ, ◌<◌}
use mathlib.Core.Path.{◌≡◌, sym, ◌∙◌, ap}
use mathlib.Core.List.{List, [], ◌∷◌, ◌++◌}
use lib.IntN.{ℤ}
use lib.ListN.{length, get_or}
use Rattle.outcome.specs.Outcome.{answer}
use Rattle.action.specs.Lists.{Member}
use Rattle.action.specs.Permutation.{Generator}
use Rattle.action.specs.Index.{order_of, digits}
use Rattle.action.specs.Sector.{numerator, reduced_modes, reduced_digits}
use Rattle.action.specs.Count.{all_modes}
use Rattle.action.proofs.Below.{map-below-at, map-below-length}
use Rattle.action.proofs.Index.{valid_positive}
use Rattle.action.proofs.Theorems as Action
use Rattle.group.specs.declared.Group.{Group}
use Rattle.group.specs.Value.{GivenBy, generators_of}
use Rattle.group.specs.Calls.{value_checks, list_length}
use Rattle.outcome.proofs.Outcomes.{unless_answer}
use Rattle.momentum.specs.Calls.{mode_count, numerator_outcome, table_outcome, sector_outcome}
use Rattle.decisions.specs.Decisions.{numerators, decision}
use Rattle.momentum.proofs.Outcomes as Outcomes
use Rattle.momentum.proofs.GivenGroups.{given-passes, given-valid, given-length}
use Rattle.momentum.proofs.Modes.{reduced_modes-length, reduced_digits-length, reduced_listed, keeps-reduced, dropped_reduced}
use Rattle.pauli_word.specs.Bytes.{word_in}

module _ (g : Group) where
  abbrev gs : List Generator
  gs = generators_of g

  -- ---- a table that is answered

  module _ (ks : List ℤ) (k : ℕ) (table : List ℕ) (answered : table_outcome g ks k ≡ answer table) where
    table_is : numerators gs ks ≡ table
    unfolding table_outcome
    table_is = (unless_answer (value_checks g ++ (mode_count g ks ∷ list_length k (order_of gs) ∷ [])) (numerators gs ks) table answered).1

    pub table-length : length table ≡ order_of gs
    unfolding numerators
    table-length = ap length (sym table_is) ∙ map-below-length (λ j. numerator gs ks (digits gs j)) (order_of gs)

    pub table_at : (i : ℕ) → i < order_of gs → get_or table i 0 ≡ numerator gs ks (digits gs i)
    unfolding numerators
    table_at i h =
        ap (λ (x : List ℕ). get_or x i 0) (sym table_is) ∙ map-below-at (λ j. numerator gs ks (digits gs j)) (order_of gs) i 0 h

  -- ---- a given group, with a mode for each generator

  module _ (given : GivenBy g) (ks : List ℤ) (modes : length ks ≡ g.generators) where
    modes-known : length ks ≡ length gs
    modes-known = modes ∙ sym (given-length g given)

    same_count : length (reduced_modes gs ks) ≡ length ks
    same_count = reduced_modes-length gs ks modes-known ∙ sym modes-known

    pub reduced-member : Member (reduced_modes gs ks) (all_modes gs)
    reduced-member = reduced_listed gs ks (valid_positive (given-valid g given)) modes-known

    pub sector-reduced : (n : ℕ) (bytes : List ℕ) (k : ℕ) → sector_outcome g n bytes ks k ≡ sector_outcome g n bytes (reduced_modes gs ks) k
    unfolding sector_outcome decision
    sector-reduced n bytes k = rw (same_count, keeps-reduced gs ks (word_in n bytes), dropped_reduced gs ks (word_in n bytes))

    pub table-answer : (k : ℕ) → k ≡ order_of gs → table_outcome g ks k ≡ answer (numerators gs ks)
    table-answer = Outcomes.table-answer g (given-passes g given) ks modes

    module _ (cs : List ℕ) (counted : length cs ≡ g.generators) where
      pub numerator-answer : numerator_outcome g ks cs ≡ answer (numerator gs ks cs)
      numerator-answer = Outcomes.numerator-answer g (given-passes g given) ks modes cs counted

      same_digits : length (reduced_digits gs cs) ≡ length cs
      same_digits = reduced_digits-length gs cs (counted ∙ sym (given-length g given)) ∙ given-length g given ∙ sym counted

      pub numerator-reduced : numerator_outcome g ks cs ≡ numerator_outcome g (reduced_modes gs ks) (reduced_digits gs cs)
      unfolding numerator_outcome
      numerator-reduced = rw (same_count, same_digits, Action.numerator-reduced (given-valid g given) ks cs)
