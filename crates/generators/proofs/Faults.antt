-- The rules of a generator and of a group by what the functions that look for a fault find.
-- What carries it: a generator of the right length is checked by its targets alone, and an order or a product that is found is the one of the rule.
use Prim.Native.Nat.{ℕ, ◌≤◌, ◌<◌}
use mathlib.Core.Path.{◌≡◌}
use mathlib.Core.Bool.{false}
use mathlib.Core.List.{List, [], ◌∷◌}
use lib.ListN.{length}
use borrow.Author.Tests.{eq-eqb, ne_eqb, lt-ltb, le-ltb}
use Rattle.outcome.specs.declared.Refusal.{Refusal}
use Rattle.outcome.specs.Outcome.{answer, refusal_of, verdict, alone}
use Rattle.outcome.proofs.Outcomes.{one-refused, one-answered, refused-broken, first-refuses}
use Rattle.action.specs.Permutation.{exact_order}
use Rattle.permutation.specs.Limits.{max_order}
use Rattle.action.specs.Arithmetic.{product}
use Rattle.permutation.specs.Generators.{fine, broke, targets_check, perm_check, order_fits, order_check, orders_check, pairs_check, order_overflow, order_limit, group_checks}
use Rattle.permutation.specs.Parts.{exact_outcome, product_outcome}

-- ---- 5 to 7

module _ (n i : ℕ) (perm : List ℕ) where
  pub other_length : (length perm ≡ n → ⊥) → perm_check n i perm ≡ broke (Refusal.PermutationLength i (length perm))
  unfolding perm_check
  other_length d = rw (ne_eqb (length perm) n d)

  pub perm-targets : length perm ≡ n → perm_check n i perm ≡ targets_check n i [] perm
  unfolding perm_check
  perm-targets e = rw (eq-eqb (length perm) n e)

-- ---- 8 to 10

module _ (perm : List ℕ) (i declared : ℕ) where
  pub order-zero : declared ≡ 0 → order_check i perm declared ≡ broke (Refusal.ZeroOrder i)
  unfolding order_check
  order-zero e = rw (eq-eqb declared 0 e)

  module _ (some : declared ≡ 0 → ⊥) where
    pub order-overflow : (why : Refusal) → exact_outcome i perm ≡ refusal_of why → order_check i perm declared ≡ broke (Refusal.PermutationOrderOverflow i)
    unfolding order_check exact_outcome
    order-overflow why h = rw (ne_eqb declared 0 some, one-refused (order_fits i perm) (exact_order perm) why h)

    module _ (exact : ℕ) (h : exact_outcome i perm ≡ answer exact) where
      pub order_other : (declared ≡ exact → ⊥) → order_check i perm declared ≡ broke (Refusal.OrderMismatch i declared exact)
      unfolding order_check exact_outcome
      order_other d =
          let (fits, same) = one-answered (order_fits i perm) (exact_order perm) exact h in
          rw (ne_eqb declared 0 some, fits, same, ne_eqb declared exact d)

      pub order_same : declared ≡ exact → order_check i perm declared ≡ fine
      unfolding order_check exact_outcome
      order_same e =
          let (fits, same) = one-answered (order_fits i perm) (exact_order perm) exact h in
          rw (ne_eqb declared 0 some, fits, same, eq-eqb declared exact e)

-- ---- 11 to 13

module _ (orders : List ℕ) (n : ℕ) (perms : List (List ℕ)) (ordered : (orders_check 0 perms orders).broken ≡ false) where
  pub group-pair : (why : Refusal) → refusal_of why ≡ alone (pairs_check n 0 perms) → verdict (group_checks n perms orders) ≡ alone (pairs_check n 0 perms)
  group-pair why e = rw ordered (first-refuses (pairs_check n 0 perms) (order_overflow orders ∷ order_limit orders ∷ []) (refused-broken (pairs_check n 0 perms) why e))

  module _ (commuting : (pairs_check n 0 perms).broken ≡ false) where
    pub group-beyond : (why : Refusal) → product_outcome orders ≡ refusal_of why → verdict (group_checks n perms orders) ≡ refusal_of Refusal.GroupOrderOverflow
    unfolding product_outcome
    group-beyond why h = rw (ordered, commuting, one-refused (order_overflow orders) (product orders) why h)

    module _ (order : ℕ) (h : product_outcome orders ≡ answer order) where
      pub group-large : max_order < order → verdict (group_checks n perms orders) ≡ refusal_of Refusal.GroupOrderLimit
      unfolding product_outcome
      group-large l =
          let (fits, same) = one-answered (order_overflow orders) (product orders) order h in
          rw (ordered, commuting, fits, same, lt-ltb max_order order l)

      pub group-fine : order ≤ max_order → verdict (group_checks n perms orders) ≡ answer tt
      unfolding product_outcome
      group-fine l =
          let (fits, same) = one-answered (order_overflow orders) (product orders) order h in
          rw (ordered, commuting, fits, same, le-ltb max_order order l)
