-- A group value that accepted generators give: it is accepted, and it holds as many valid generators as it says.
use Prim.Native.Nat.{◌≤◌}
use mathlib.Core.Path.{◌≡◌}
use lib.ListN.{length}
use Rattle.pauli_word.specs.Limits.{max_sites}
use Rattle.action.specs.Permutation.{Valid}
use Rattle.action.specs.Index.{order_of}
use Rattle.permutation.specs.Limits.{max_order}
use Rattle.elements.proofs.TableRows.{generators-length}
use Rattle.group.specs.declared.Group.{Group}
use Rattle.group.specs.Value.{GivenBy, generators_of, AcceptedGroup}
use Rattle.outcome.specs.Outcome.{answer, verdict}
use Rattle.group.specs.Calls.{value_checks}
use Rattle.group.proofs.Accepted.{accepted_tables, value_passes}
use Rattle.group.proofs.MadeGroups.{made-accepted, held-valid}

module _ (g : Group) (given : GivenBy g) where
  pub given-accepted : AcceptedGroup g
  given-accepted = made-accepted g.sites given.list given.orders g given.given

  -- it passes its checks
  pub given-passes : verdict (value_checks g) ≡ answer tt
  given-passes = value_passes g given-accepted.few given-accepted.is_one

  pub given-valid : Valid g.sites (generators_of g)
  given-valid = held-valid g given-accepted

  pub given-length : length (generators_of g) ≡ g.generators
  unfolding generators_of
  given-length = generators-length (accepted_tables g given-accepted)

  pub given-small : order_of (generators_of g) ≤ max_order
  unfolding generators_of
  given-small = (accepted_tables g given-accepted).small

  pub given-sites : g.sites ≤ max_sites
  given-sites = given-accepted.few
