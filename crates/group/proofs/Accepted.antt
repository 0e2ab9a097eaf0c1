-- Accepted groups: a value that passes its checks is accepted, and the tables of an accepted group hold its generators.
-- What carries it: a value is a group where its tables hold one.
use Prim.Native.Nat.{◌≤◌, ◌<◌}
use mathlib.Core.Path.{◌≡◌}
use mathlib.Core.Bool.{true, false, not}
use mathlib.Core.List.{[], ◌∷◌}
use lib.Dec.{ltb}
use lib.ListN.{length}
use borrow.Author.Tests.{lt-ltb, le-ltb, ltb-false, not-false}
use Rattle.outcome.specs.declared.Refusal.TheVariants as Refusal
use Rattle.outcome.specs.Outcome.{answer, refusal_of, verdict}
use Rattle.outcome.proofs.Outcomes.{verdict-fine}
use Rattle.pauli_word.specs.Limits.{max_sites}
use Rattle.pauli_word.specs.Calls.{site_count}
use Rattle.permutation.specs.Limits.{max_generators, target_places}
use Rattle.generators.proofs.Groups.{hold-valid}
use Rattle.permutation.specs.declared.Lent.{Lent}
use Rattle.elements.specs.HeldGroup.{generators_in, Tables, HoldsGroup}
use Rattle.group.specs.declared.Group.{Group}
use Rattle.group.specs.Value.{group_lent, is_group, notAGroup, AcceptedGroup}
use Rattle.group.specs.Calls.{value_checks}

-- ---- what the checks of a value come to: 1, 14

module _ (g : Group) where
  pub value-many : max_sites < g.sites → verdict (value_checks g) ≡ refusal_of Refusal.TooManySites
  value-many h = simp (lt-ltb max_sites g.sites h)

  module _ (few : g.sites ≤ max_sites) where
    pub value_other : is_group g ≡ false → verdict (value_checks g) ≡ refusal_of Refusal.InvalidValue
    value_other e = simp (le-ltb max_sites g.sites few, e)

    pub value_passes : is_group g ≡ true → verdict (value_checks g) ≡ answer tt
    value_passes e = simp (le-ltb max_sites g.sites few, e)

-- ---- a value that passes

pub value_fine : (g : Group) → verdict (value_checks g) ≡ answer tt → (g.sites ≤ max_sites) × (is_group g ≡ true)
value_fine g pass =
    let one = verdict-fine (site_count g.sites) (notAGroup g ∷ []) pass in
    (ltb-false max_sites g.sites one.0, not-false (is_group g) (verdict-fine (notAGroup g) [] one.1).0)

module _ (g : Group) (targets : length g.targets ≡ target_places) (orders : length g.orders ≡ max_generators) where
  pub accepted-by : ltb max_sites g.sites ≡ false → not (is_group g) ≡ false → AcceptedGroup g
  accepted-by few one =
      record { few = ltb-false max_sites g.sites few; is_one = not-false (is_group g) one; targets = targets; orders = orders }

  pub value-accepted : verdict (value_checks g) ≡ answer tt → AcceptedGroup g
  value-accepted pass = let (few, one) = value_fine g pass in record { few = few; is_one = one; targets = targets; orders = orders }

pub accepted_tables : (g : Group) → AcceptedGroup g → Tables g.generators g.sites g.targets g.orders
unfolding is_group generators_in
accepted_tables g ok =
    let (valid, small, few) = hold-valid g.generators g.sites g.targets g.orders ok.is_one ok.orders in
    record { places = ok.targets; declared_orders = ok.orders; few = few; sites = ok.few; valid = valid; small = small }

-- ---- a group whose tables are lent, that passes: their lengths are those of its types

module _ (g : Lent) (pass : verdict (value_checks (group_lent g)) ≡ answer tt) where
  pub lent-accepted : AcceptedGroup (group_lent g)
  lent-accepted = value-accepted (group_lent g) g.places g.declared_orders pass

  pub lent-tables : HoldsGroup g
  lent-tables = accepted_tables (group_lent g) lent-accepted
