-- What is promised of the calls by their outcomes: each statement is followed by the law that shows it.
--
-- 1 What stands beside a refusal, 2 Acceptance, 3 The lattices, 4 Digits and indices.
use Prim.Native.Nat.{ℕ, ◌*◌}
use mathlib.Core.Path.{◌≡◌, refl, sym, subst, ◌∙◌}
use mathlib.Core.Bool.{Bool, true, false, not, ◌&&◌, ◌||◌}
use mathlib.Core.List.{List, [], ◌∷◌}
use native.Mathlib.Omega.{arith}
use lib.Dec.{eqb}
use lib.ListN.{length}
use Rattle.outcome.specs.declared.Refusal.TheVariants as Refusal
use Rattle.outcome.specs.Outcome.{answer, refusal_of, verdict}
use Rattle.outcome.proofs.Outcomes.{call-answers}
use Rattle.pauli_word.specs.Calls.{site_count}
use Rattle.action.specs.Permutation.{Valid}
use Rattle.action.specs.Index.{Digits, index}
use Rattle.action.specs.Lattice.{shifts, chain, ladder, torus2, torus3}
use Rattle.permutation.specs.Generators.{perms_of, list_end, generator_checks, declared}
use Rattle.group.specs.declared.Group.{Group}
use Rattle.group.specs.Value.{group_of, no_group, try_from_outcome, GivenBy, GivenAs, generators_of, is_group, AcceptedGroup}
use Rattle.group.specs.Calls.{chain_outcome, ladder_outcome, torus2_outcome, torus3_outcome, counter_outcome, index_outcome}
use Rattle.group.proofs.LatticeCalls.{chain-axes, ladder-axes, torus2-axes, torus3-axes, any_zero_lem}
use Rattle.group.proofs.MadeGroups as Given
use Rattle.group.proofs.Counters as Counters
use Rattle.generators.specs.Parts.{any_zero}

-- ---- 1 What stands beside a refusal: no call takes it for a group

pub no_group_lem : is_group no_group ≡ false
unfolding is_group no_group
no_group_lem = refl

-- ---- 2 Acceptance has no gap: generators that break none of the rules 1 to 13 are made into a group

module _ (n : ℕ) (list orders : List ℕ) where
  pub made-generators :
      verdict (site_count n ∷ list_end list ∷ generator_checks n (perms_of list) orders) ≡ answer tt
      → try_from_outcome n list orders ≡ answer (group_of n (declared (perms_of list) orders))
  unfolding try_from_outcome
  made-generators =
      call-answers (site_count n ∷ list_end list ∷ generator_checks n (perms_of list) orders) (answer (group_of n (declared (perms_of list) orders)))

  -- what is made passes 1 and 14, and stands for the generators that it was made of
  module _ (g : Group) (made : try_from_outcome n list orders ≡ answer g) where
    pub made-accepted : AcceptedGroup g
    made-accepted = Given.made-accepted n list orders g made

    pub made-means : (g.sites ≡ n) × (generators_of g ≡ declared (perms_of list) orders)
    made-means = Given.made-means n list orders g made

-- what passes 1 and 14 can be made, and what can be made passes: 14 refuses just the values that no accepted generators give
module _ (g : Group) where
  pub given-group : GivenBy g → AcceptedGroup g
  given-group by = made-accepted g.sites by.list by.orders g by.given

  module _ (ok : AcceptedGroup g) where
    pub group-given : GivenBy g
    group-given = Given.held-given g ok

    pub group-valid : Valid g.sites (generators_of g)
    group-valid = Given.held-valid g ok

-- ---- 3 The lattices are the groups of their permutations: a buyer who writes the shifts as a list is given the same value. 26 is of a side 0

pub side_zero : (a b c : ℕ) → any_zero a b c ≡ (eqb a 0 || (eqb b 0 || eqb c 0))
side_zero a b c = any_zero_lem a b c ∙ go (eqb a 0) (eqb b 0) (eqb c 0)
  where
    go : (x y z : Bool) → not (not x && (not y && (not z && true))) ≡ (x || (y || z))
    go true y z = refl
    go false true z = refl
    go false false true = refl
    go false false false = refl

module _ (g : Group) where
  pub chain-generators : (n : ℕ) → chain_outcome n ≡ answer g → GivenAs n (chain n) g
  unfolding chain
  chain-generators n made =
      let e : n * 1 * 1 ≡ n = omega arith in
      subst (λ (m : ℕ). GivenAs m (shifts m 1 (n ∷ [])) g) e (Given.axes-generators n 1 1 1 g (omega arith) (sym (chain-axes n) ∙ made))

  pub ladder-generators : (l legs : ℕ) → ladder_outcome l legs ≡ answer g → GivenAs (l * legs) (ladder l legs) g
  unfolding ladder
  ladder-generators l legs made =
      let e : l * legs * 1 ≡ l * legs = omega arith in
      subst (λ (m : ℕ). GivenAs m (shifts m 1 (l ∷ [])) g) e (Given.axes-generators l legs 1 1 g (omega arith) (sym (ladder-axes l legs) ∙ made))

  pub torus2-generators : (lx ly : ℕ) → torus2_outcome lx ly ≡ answer g → GivenAs (lx * ly) (torus2 lx ly) g
  unfolding torus2
  torus2-generators lx ly made =
      let e : lx * ly * 1 ≡ lx * ly = omega arith in
      subst (λ (m : ℕ). GivenAs m (shifts m 1 (lx ∷ ly ∷ [])) g) e (Given.axes-generators lx ly 1 2 g (omega arith) (sym (torus2-axes lx ly) ∙ made))

  pub torus3-generators : (lx ly lz : ℕ) → torus3_outcome lx ly lz ≡ answer g → GivenAs (lx * ly * lz) (torus3 lx ly lz) g
  unfolding torus3
  torus3-generators lx ly lz made = Given.axes-generators lx ly lz 3 g (omega arith) (sym (torus3-axes lx ly lz) ∙ made)

-- ---- 4 Digits and indices: `index_from_counter` and `counter_from_index` undo each other

module _ (g : Group) (ok : AcceptedGroup g) where
  -- a counter has an index just if it holds a digit for each generator, each below its order; 20 and 37 are of the others
  pub index-of-digits : (cs : List ℕ) → Digits (generators_of g) cs → index_outcome g cs ≡ answer (index (generators_of g) cs)
  index-of-digits = Counters.index-of-digits g ok

  pub index-refused : (cs : List ℕ) → length cs ≡ g.generators → (Digits (generators_of g) cs → ⊥) → index_outcome g cs ≡ refusal_of Refusal.DigitRange
  index-refused = Counters.index-refused g ok

  -- digits to index and back
  pub digits-back : (cs : List ℕ) (i : ℕ) → index_outcome g cs ≡ answer i → counter_outcome g i g.generators ≡ answer cs
  digits-back = Counters.digits-back g ok

  -- index to digits and back
  pub index_back_lem : (i : ℕ) (cs : List ℕ) → counter_outcome g i g.generators ≡ answer cs → index_outcome g cs ≡ answer i
  index_back_lem = Counters.index_back_lem g ok
