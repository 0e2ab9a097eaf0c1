-- What the calls that take an index or a counter come to for an accepted group.
-- What carries it: the checks before a call's own are passed, so that its own decide.
use Prim.Native.Nat.{ℕ, ◌≤◌, ◌<◌}
use mathlib.Core.Path.{◌≡◌}
use mathlib.Core.Bool.{true, false}
use mathlib.Core.List.{List, ◌++◌, append-nil}
use native.Mathlib.Omega.{arith}
use lib.Dec.{ltb}
use lib.ListN.{length, drop, drop_of_length-le}
use borrow.Author.Tests.{lt-ltb, le-ltb, eq-eqb, ne_eqb}
use Rattle.pauli_word.specs.Limits.{max_sites}
use Rattle.outcome.specs.declared.Refusal.TheVariants as Refusal
use Rattle.outcome.specs.Outcome.{answer, refusal_of, verdict}
use Rattle.action.specs.Index.{order_of, digits, digits_below, index, inverse}
use Rattle.group.specs.declared.Group.{Group}
use Rattle.group.specs.Value.{generators_of, AcceptedGroup}
use Rattle.group.specs.Calls.{value_checks, counter_outcome, index_outcome, invert_outcome}
use Rattle.group.proofs.Accepted.{value_fine}

-- a list of k places, all of them overwritten
pub overwritten : (xs ys : List ℕ) (k : ℕ) → length ys ≡ k → xs ++ drop k ys ≡ xs
overwritten xs ys k e = rw (drop_of_length-le ys {i = k} (omega arith)) (append-nil xs)

module _ (g : Group) (ok : AcceptedGroup g) where
  few : ltb max_sites g.sites ≡ false
  few = le-ltb max_sites g.sites ok.few

  -- ---- an index, and the length of a counter

  module _ (i : ℕ) where
    pub counter-range : (k : ℕ) → order_of (generators_of g) ≤ i → counter_outcome g i k ≡ refusal_of Refusal.IndexRange
    unfolding counter_outcome
    counter-range k h = simp (few, ok.is_one, le-ltb i (order_of (generators_of g)) h)

    pub invert-range : order_of (generators_of g) ≤ i → invert_outcome g i ≡ refusal_of Refusal.IndexRange
    unfolding invert_outcome
    invert-range h = simp (few, ok.is_one, le-ltb i (order_of (generators_of g)) h)

    module _ (inside : i < order_of (generators_of g)) where
      pub counter-length : (k : ℕ) → (k ≡ g.generators → ⊥) → counter_outcome g i k ≡ refusal_of Refusal.ListLength
      unfolding counter_outcome
      counter-length k d = simp (few, ok.is_one, lt-ltb i (order_of (generators_of g)) inside, ne_eqb k g.generators d)

      pub counter-answer : (k : ℕ) → k ≡ g.generators → counter_outcome g i k ≡ answer (digits (generators_of g) i)
      unfolding counter_outcome
      counter-answer k e = simp (few, ok.is_one, lt-ltb i (order_of (generators_of g)) inside, eq-eqb k g.generators e)

      pub invert-answer : invert_outcome g i ≡ answer (inverse (generators_of g) i)
      unfolding invert_outcome
      invert-answer = simp (few, ok.is_one, lt-ltb i (order_of (generators_of g)) inside)

-- ---- a counter: its length, and its digits

module _ (g : Group) (pass : verdict (value_checks g) ≡ answer tt) (cs : List ℕ) where
  few-sites : ltb max_sites g.sites ≡ false
  few-sites = le-ltb max_sites g.sites (value_fine g pass).0

  pub index-length : (length cs ≡ g.generators → ⊥) → index_outcome g cs ≡ refusal_of Refusal.CounterLength
  unfolding index_outcome
  index-length d = simp (few-sites, (value_fine g pass).1, ne_eqb (length cs) g.generators d)

  module _ (long : length cs ≡ g.generators) where
    pub index-digit : digits_below (generators_of g) cs ≡ false → index_outcome g cs ≡ refusal_of Refusal.DigitRange
    unfolding index_outcome
    index-digit e = simp (few-sites, (value_fine g pass).1, eq-eqb (length cs) g.generators long, e)

    pub index-answer : digits_below (generators_of g) cs ≡ true → index_outcome g cs ≡ answer (index (generators_of g) cs)
    unfolding index_outcome
    index-answer e = simp (few-sites, (value_fine g pass).1, eq-eqb (length cs) g.generators long, e)
