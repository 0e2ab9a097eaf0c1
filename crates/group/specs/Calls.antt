-- What each call of this crate comes to: its checks in their order, then its answer.
use Rattle.std.specs.Prelude.{ℕ, ◌*◌, Bool, not, List, [], ◌∷◌, ◌++◌, ltb, eqb, length, take}
use Rattle.outcome.specs.declared.Refusal.TheVariants as Refusal
use Rattle.outcome.specs.Outcome.{Outcome, answer, Check, rule, unless}
use Rattle.pauli_word.specs.Calls.{site_count}
use Rattle.action.specs.Permutation.{Generator}
use Rattle.action.specs.Lattice.{shifts, chain, ladder, torus2, torus3}
use Rattle.action.specs.Index.{order_of, digits, digits_below, index, inverse}
use Rattle.action.specs.Sector.{modulus}
use Rattle.generators.specs.Parts.{zero_side, sides_limit, any_zero}
use Rattle.group.specs.declared.Group.{Group}
use Rattle.group.specs.Value.{group_of, generators_of, notAGroup}

-- ---- the lattices: 26, 27, then the group of their shifts

unfoldable pub lattice_outcome : Bool → ℕ → List Generator → Outcome Group
lattice_outcome zero n gs = unless (zero_side zero ∷ sides_limit n ∷ []) (answer (group_of n gs))

unfoldable pub chain_outcome : ℕ → Outcome Group
chain_outcome n = lattice_outcome (any_zero n 1 1) n (chain n)

unfoldable pub ladder_outcome : ℕ → ℕ → Outcome Group
ladder_outcome l legs = lattice_outcome (any_zero l legs 1) (l * legs) (ladder l legs)

unfoldable pub torus2_outcome : ℕ → ℕ → Outcome Group
torus2_outcome lx ly = lattice_outcome (any_zero lx ly 1) (lx * ly) (torus2 lx ly)

unfoldable pub torus3_outcome : ℕ → ℕ → ℕ → Outcome Group
torus3_outcome lx ly lz = lattice_outcome (any_zero lx ly lz) (lx * ly * lz) (torus3 lx ly lz)

-- a lattice with sides a, b and c, and a shift along each of the first k axes: what the four are made by
unfoldable pub axes_outcome : ℕ → ℕ → ℕ → ℕ → Outcome Group
axes_outcome a b c k = lattice_outcome (any_zero a b c) (a * b * c) (shifts (a * b * c) 1 (take k (a ∷ b ∷ c ∷ [])))

-- ---- calls that take a group: 1, 14, and then their own

abbrev pub value_checks : Group → List Check
value_checks g = site_count g.sites ∷ notAGroup g ∷ []

unfoldable pub order_outcome : Group → Outcome ℕ
order_outcome g = unless (value_checks g) (answer (order_of (generators_of g)))

unfoldable pub modulus_outcome : Group → Outcome ℕ
modulus_outcome g = unless (value_checks g) (answer (modulus (generators_of g)))

-- 19: an index not below the group order
abbrev pub index_range : Group → ℕ → Check
index_range g i = rule Refusal.IndexRange (not (ltb i (order_of (generators_of g))))

-- 21: a list of another length than needed
abbrev pub list_length : ℕ → ℕ → Check
list_length k needed = rule Refusal.ListLength (not (eqb k needed))

unfoldable pub counter_outcome : Group → ℕ → ℕ → Outcome (List ℕ)
counter_outcome g i k = unless (value_checks g ++ (index_range g i ∷ list_length k g.generators ∷ [])) (answer (digits (generators_of g) i))

-- 20: counter length is not the generator count
abbrev pub counter_length : Group → List ℕ → Check
counter_length g cs = rule Refusal.CounterLength (not (eqb (length cs) g.generators))

-- 37: a digit not below its generator's order
abbrev pub digit_range : Group → List ℕ → Check
digit_range g cs = rule Refusal.DigitRange (not (digits_below (generators_of g) cs))

unfoldable pub index_outcome : Group → List ℕ → Outcome ℕ
index_outcome g cs = unless (value_checks g ++ (counter_length g cs ∷ digit_range g cs ∷ [])) (answer (index (generators_of g) cs))

unfoldable pub invert_outcome : Group → ℕ → Outcome ℕ
invert_outcome g i = unless (value_checks g ++ (index_range g i ∷ [])) (answer (inverse (generators_of g) i))
