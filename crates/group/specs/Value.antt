-- Group values: what a value holds, which values are groups, and what generators they stand for.
use Rattle.std.specs.Prelude.{ℕ, suc, ◌≤◌, ◌≡◌, Bool, true, not, List, ◌∷◌, map, length, replicate}
use Rattle.pauli_word.specs.Limits.{max_sites}
use Rattle.outcome.specs.declared.Refusal.TheVariants as Refusal
use Rattle.outcome.specs.Outcome.{Outcome, answer, Check, rule, unless}
use Rattle.pauli_word.specs.Calls.{site_count}
use Rattle.action.specs.Lists.{Member}
use Rattle.action.specs.Permutation.{Generator}
use Rattle.permutation.specs.Limits.{max_generators, max_declared, target_places}
use Rattle.permutation.specs.declared.Lent.{Lent}
use Rattle.permutation.specs.Generators.{perms_of, list_end, generator_checks, declared, written}
use Rattle.generators.specs.Tables.{filled, placed_all, hold_group}
use Rattle.elements.specs.HeldGroup.{generators_in}
use Rattle.group.specs.declared.Group.{Group}

-- a group value by its parts
abbrev pub group_in : ℕ → ℕ → List ℕ → List ℕ → Group
group_in sites generators orders targets = record { sites = sites; generators = generators; orders = orders; targets = targets }

-- the value of a group whose tables are lent
abbrev pub group_lent : Lent → Group
group_lent g = group_in g.sites g.generators g.orders.now g.targets.now

-- ---- the value of generators: unused places are 0

unfoldable pub group_of : ℕ → List Generator → Group
unfolding placed_all
group_of n gs = record {
  sites = n;
  generators = length gs;
  orders = filled max_generators (map (λ g. g.order) gs);
  targets = placed_all (map (λ g. g.perm) gs);
}

-- what stands in the place of a refused group: a value that says one generator more than there may be, which no call takes for a group
unfoldable pub no_group : Group
no_group = record { sites = 0; generators = suc max_generators; orders = replicate max_generators 0; targets = replicate target_places 0 }

-- ---- try_from_generators: 1 to 13, then the group

unfoldable pub try_from_outcome : ℕ → List ℕ → List ℕ → Outcome Group
unfolding group_of declared
try_from_outcome n list orders =
    unless (site_count n ∷ list_end list ∷ generator_checks n (perms_of list) orders) (answer (group_of n (declared (perms_of list) orders)))

-- numbers that the code's lists hold, of 32 bits
abbrev pub Fit : List ℕ → Type 0
Fit list = (k : ℕ) → Member k list → k ≤ max_declared

-- a value that accepted generators give
pub record GivenBy (g : Group) : Type 0 where
  pub list : List ℕ
  pub orders : List ℕ
  pub list_fits : Fit list
  pub orders_fit : Fit orders
  pub given : try_from_outcome g.sites list orders ≡ answer g

-- a buyer who writes these generators is given this value
abbrev pub GivenAs : ℕ → List Generator → Group → Type 0
GivenAs n gs g = try_from_outcome n (written (map (λ x. x.perm) gs)) (map (λ x. x.order) gs) ≡ answer g

-- ---- what a value stands for

-- the generators of a value
unfoldable pub generators_of : Group → List Generator
unfolding generators_in
generators_of g = generators_in g.generators g.sites g.targets g.orders

-- whether a value is a group
unfoldable pub is_group : Group → Bool
unfolding hold_group
is_group g = hold_group g.generators g.sites g.targets g.orders

-- 14: a group value that no accepted generators give
abbrev pub notAGroup : Group → Check
notAGroup g = rule Refusal.InvalidValue (not (is_group g))

-- an accepted group: its sites are few, it is a group, and its lists fill their places
pub record AcceptedGroup (g : Group) : Type 0 where
  pub few : g.sites ≤ max_sites
  pub is_one : is_group g ≡ true
  pub targets : length g.targets ≡ target_places
  pub orders : length g.orders ≡ max_generators
