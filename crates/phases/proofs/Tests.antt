-- The tests of a phase table say what they are to say: a test passes exactly where what it tests holds at each entry.
use Prim.Native.Nat.{ℕ, zero, suc, ◌*◌, ◌-◌, ◌≤◌, ◌<◌}
use native.Mathlib.Nat.{eq-or-lt_of_le, le_of_suc-le-suc, not-suc-le-zero}
use native.Mathlib.Omega.{arith}
use mathlib.Core.Path.{◌≡◌, refl, sym, ap, subst}
use mathlib.Core.Logic.{⊎_elim}
use mathlib.Core.Bool.{Bool, true, false, ◌&&◌, and-eq-true_iff, false≢true}
use lib.Dec.{T}
use lib.IntN.{ℤ, pos, negsuc, ◌-ℤ◌, ◌*ℤ◌}
use lib.Signed.{lt_z, ◌<ℤ◌, lt_z_yes}
use borrow.Author.Tests.{eqb-true, eq-eqb, leb-true, le-leb}
use Rattle.phases.specs.declared.PhaseTable.{PhaseTable}
use Rattle.phases.specs.Rules.{turn, quarter, unit, slack, magnitude, cosine, sine, turned, cosine_turned, sine_turned, next}
use Rattle.phases.specs.Rules.{product_cosine, product_sine, squared_length, InRange, PhaseRange, PhaseRules, each_below, same_integer}
use Rattle.phases.specs.Rules.{in_range, entry_in_range, first_right, turned_right, order_right, product_right, norm_right, range_test, rules_test, passes}
use Rattle.phases.specs.Nearest.{NearestCosine, PhaseNearest, is_nearest, entry_nearest, nearest_test}

-- both of two tests

left : (a b : Bool) → (a && b) ≡ true → a ≡ true
left a b e = ((and-eq-true_iff a b).0 e).0

right : (a b : Bool) → (a && b) ≡ true → b ≡ true
right a b e = ((and-eq-true_iff a b).0 e).1

pub both : (a b : Bool) → a ≡ true → b ≡ true → (a && b) ≡ true
both a b d e = (and-eq-true_iff a b).1 (d, e)

-- every number below n

pub each_below_lem : (p : ℕ → Bool) (n : ℕ) → each_below p n ≡ true → (j : ℕ) → j < n → p j ≡ true
unfolding each_below
each_below_lem p zero e j h = absurd (not-suc-le-zero h)
each_below_lem p (suc n) e j h =
    ⊎_elim (λ (k : j ≡ n). subst (λ (m : ℕ). p m ≡ true) (sym k) (left (p n) (each_below p n) e))
    (λ (k : j < n). each_below_lem p n (right (p n) (each_below p n) e) j k)
    (eq-or-lt_of_le (le_of_suc-le-suc h))

pub below_each : (p : ℕ → Bool) (n : ℕ) → ((j : ℕ) → j < n → p j ≡ true) → each_below p n ≡ true
unfolding each_below
below_each p zero f = refl
below_each p (suc n) f = both (p n) (each_below p n) (f n (omega arith)) (below_each p n (λ j h. f j (omega arith)))

-- whole numbers

pub same_equal : (a b : ℤ) → same_integer a b ≡ true → a ≡ b
unfolding same_integer
same_equal (pos a) (pos b) e = ap pos (eqb-true a b e)
same_equal (pos a) (negsuc b) e = absurd (false≢true e)
same_equal (negsuc a) (pos b) e = absurd (false≢true e)
same_equal (negsuc a) (negsuc b) e = ap negsuc (eqb-true a b e)

same_self : (a : ℤ) → same_integer a a ≡ true
unfolding same_integer
same_self (pos a) = eq-eqb a a refl
same_self (negsuc a) = eq-eqb a a refl

pub equal_same : (a b : ℤ) → a ≡ b → same_integer a b ≡ true
equal_same a b e = subst (λ (z : ℤ). same_integer a z ≡ true) e (same_self a)

holds : (b : Bool) → b ≡ true → T b
holds true e = tt
holds false e = absurd (false≢true e)

is_true : (b : Bool) → T b → b ≡ true
is_true true t = refl
is_true false t = absurd t

pub tested_less : (a b : ℤ) → lt_z a b ≡ true → a <ℤ b
tested_less a b e = lt_z_yes (holds (lt_z a b) e)

pub less_tested : {a b : ℤ} → a <ℤ b → lt_z a b ≡ true
less_tested {a} {b} h = is_true (lt_z a b) h.lt

inside : (bound : ℕ) (z : ℤ) → in_range bound z ≡ true → InRange bound z
inside bound z e = leb-true (magnitude z) bound e

-- the range of a table

range_at : (t : PhaseTable) → range_test t ≡ true → (j : ℕ) → j < turn → entry_in_range t j ≡ true
unfolding range_test
range_at t = each_below_lem (entry_in_range t) turn

pub range_holds : (t : PhaseTable) → range_test t ≡ true → PhaseRange t
range_holds t e = record {
  cosines = λ j h. let k = range_at t e j h in inside unit (cosine t j) (search left);
  sines = λ j h. let k = range_at t e j h in inside unit (sine t j) (search right);
}

pub range_tested : (t : PhaseTable) → PhaseRange t → range_test t ≡ true
unfolding range_test
range_tested t r =
    below_each (entry_in_range t) turn
    (λ j h. both _ _ (le-leb _ _ (r.cosines j h)) (le-leb _ _ (r.sines j h)))

-- the rules of a table

module _ (t : PhaseTable) (e : rules_test t ≡ true) where
  first_passes : first_right t ≡ true
  unfolding rules_test
  first_passes = search left

  turned-at : (j : ℕ) → j < turn → turned_right t j ≡ true
  unfolding rules_test
  turned-at = each_below_lem (turned_right t) turn (search (left, right))

  order-at : (j : ℕ) → j < quarter → order_right t j ≡ true
  unfolding rules_test
  order-at = each_below_lem (order_right t) quarter (search (left, right))

  product_at : (j : ℕ) → j < turn → product_right t j ≡ true
  unfolding rules_test
  product_at = each_below_lem (product_right t) turn (search (left, right))

  norm-at : (j : ℕ) → j < turn → norm_right t j ≡ true
  unfolding rules_test
  norm-at = each_below_lem (norm_right t) turn (search right)

  pub rules-hold : PhaseRules t
  rules-hold = record {
    first_cosine = let k = first_passes in same_equal (cosine t 0) (pos unit) (search left);
    first_sine = let k = first_passes in same_equal (sine t 0) (pos 0) (search right);
    turned_cosine = λ j h. let k = turned-at j h in same_equal (cosine t (turned j)) (cosine_turned t j) (search left);
    turned_sine = λ j h. let k = turned-at j h in same_equal (sine t (turned j)) (sine_turned t j) (search right);
    falls = λ j h. let k = order-at j h in tested_less (cosine t (suc j)) (cosine t j) (search left);
    rises = λ j h. let k = order-at j h in tested_less (sine t j) (sine t (suc j)) (search right);
    product_cosines = λ j h. let k = product_at j h in inside slack (product_cosine t j -ℤ pos unit *ℤ cosine t (next j)) (search left);
    product_sines = λ j h. let k = product_at j h in inside slack (product_sine t j -ℤ pos unit *ℤ sine t (next j)) (search right);
    norm = λ j h. inside slack (squared_length t j -ℤ pos (unit * unit)) (norm-at j h);
  }

module _ (t : PhaseTable) (r : PhaseRules t) where
  first-tested : first_right t ≡ true
  first-tested = both _ _ (equal_same _ _ r.first_cosine) (equal_same _ _ r.first_sine)

  turned-tested : each_below (turned_right t) turn ≡ true
  turned-tested =
      below_each (turned_right t) turn (λ j h. both _ _ (equal_same _ _ (r.turned_cosine j h)) (equal_same _ _ (r.turned_sine j h)))

  order-tested : each_below (order_right t) quarter ≡ true
  order-tested = below_each (order_right t) quarter (λ j h. both _ _ (less_tested (r.falls j h)) (less_tested (r.rises j h)))

  product-tested : each_below (product_right t) turn ≡ true
  product-tested =
      below_each (product_right t) turn (λ j h. both _ _ (le-leb _ _ (r.product_cosines j h)) (le-leb _ _ (r.product_sines j h)))

  norm-tested : each_below (norm_right t) turn ≡ true
  norm-tested = below_each (norm_right t) turn (λ j h. le-leb _ _ (r.norm j h))

  pub rules-tested : rules_test t ≡ true
  unfolding rules_test
  rules-tested = both _ _ (both _ _ (both _ _ (both _ _ first-tested turned-tested) order-tested) product-tested) norm-tested

-- range and rules

pub passes_range : (t : PhaseTable) → passes t ≡ true → PhaseRange t
unfolding passes
passes_range t e = range_holds t (left (range_test t) (rules_test t) e)

pub passes_rules : (t : PhaseTable) → passes t ≡ true → PhaseRules t
unfolding passes
passes_rules t e = rules-hold t (right (range_test t) (rules_test t) e)

pub rules_pass : (t : PhaseTable) → PhaseRange t → PhaseRules t → passes t ≡ true
unfolding passes
rules_pass t r s = both (range_test t) (rules_test t) (range_tested t r) (rules-tested t s)

-- the nearest whole numbers

nearest_cosine : (j : ℕ) (z : ℤ) → is_nearest j z ≡ true → NearestCosine j z
nearest_cosine j z e = record {
  low = tested_less _ _ (search left);
  high = tested_less _ _ (search right);
}

nearest_at : (t : PhaseTable) → nearest_test t ≡ true → (j : ℕ) → j ≤ quarter → entry_nearest t j ≡ true
unfolding nearest_test
nearest_at t e j h = each_below_lem (entry_nearest t) (suc quarter) e j (omega arith)

pub nearest_holds : (t : PhaseTable) → nearest_test t ≡ true → PhaseNearest t
nearest_holds t e = record {
  cosines = λ j h. let k = nearest_at t e j h in nearest_cosine j (cosine t j) (left _ (is_nearest (quarter - j) (sine t j)) k);
  sines = λ j h. let k = nearest_at t e j h in nearest_cosine (quarter - j) (sine t j) (right (is_nearest j (cosine t j)) _ k);
}
