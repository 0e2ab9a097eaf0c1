-- The exact order of a permutation is the order that a reader knows: that many applications bring every site back, and every number of
-- applications that does so is a multiple of it. What carries it: of the n + 1 sites that a site reaches in 0 to n applications two are equal,
-- so that a site comes back within n applications and the search of its cycle length is long enough.
use Prim.Native.Nat.{ℕ, zero, suc, ◌+◌, ◌-◌, ◌*◌, ◌/◌, ◌%◌, ◌≤◌, ◌<◌, ◌∣◌, suc-le-suc, zero-le}
use mathlib.Core.Path.{◌≡◌, refl}
use mathlib.Core.Logic.{◌≢◌, ◌⊎◌, inl, inr, ⊎_elim, ite}
use mathlib.Core.Bool.{Bool, true, false, cond}
use mathlib.Core.List.{List, map}
use native.Mathlib.Nat.{
  zero-add,
  suc-add,
  mul-zero,
  mul-suc,
  dvd_of_mod-eq-zero,
  div-add-mod,
  mod-lt,
  mul-div_cancel',
  le_of_dvd,
  le_refl,
  le_step,
  eq-zero-or-pos,
  le_of_suc-le-suc,
  eq-or-lt_of_le,
  zero-lt-suc,
}
use native.Mathlib.Decide.{ℕ_discrete}
use native.Mathlib.Omega.{arith}
use lib.Dec.{eqb}
use lib.ListN.{length}
use borrow.Author.Tests.{eqb-true, eq-eqb}
use Rattle.action.specs.Lists.{below, Member}
use Rattle.action.specs.Permutation.{target, after, steps_to, cycle_length, exact_order, Permutes}
use Rattle.action.proofs.Lists.{member_below, of_member_below, member-map, of-member-map}
use Rattle.action.proofs.Arithmetic.{lcm_all_member, lcm_all_divides, lcm_all-positive}

-- f takes the value v below n
abbrev Takes : ℕ → (ℕ → ℕ) → ℕ → Type 0
Takes n f v = (i : ℕ) × (i < n) × (f i ≡ v)

dec_takes : (n : ℕ) (f : ℕ → ℕ) (v : ℕ) → Dec (Takes n f v)
dec_takes zero f v = no (λ (i, h, e). omega arith)
dec_takes (suc n) f v = go (ℕ_discrete (f n) v) (dec_takes n f v)
  where
    go : Dec (f n ≡ v) → Dec (Takes n f v) → Dec (Takes (suc n) f v)
    go (yes e) r = yes (n, omega arith, e)
    go (no e) (yes (i, h, p)) = yes (i, omega arith, p)
    go (no e) (no r) = no (λ (i, h, p). ⊎_elim (λ z. e (rw z at p)) (λ l. r (i, l, p)) (eq-or-lt_of_le (le_of_suc-le-suc h)))

-- the numbers up to n other than u, with u in the place of n, are below n and as different as before
ite_below : (n u x : ℕ) (d : Dec (x ≡ n)) → u ≤ n → x ≤ n → x ≢ u → ite d u x < n
ite_below n u x (yes e) p q r = omega arith
ite_below n u x (no e) p q r = omega arith

ite_apart : (n u x y : ℕ) (d : Dec (x ≡ n)) (e : Dec (y ≡ n)) → x ≢ u → y ≢ u → ite d u x ≡ ite e u y → x ≡ y
ite_apart n u x y (yes p) (yes q) r s h = omega arith
ite_apart n u x y (yes p) (no q) r s h = omega arith
ite_apart n u x y (no p) (yes q) r s h = omega arith
ite_apart n u x y (no p) (no q) r s h = h

-- f has the same value at two numbers up to n
abbrev pub Repeats : ℕ → (ℕ → ℕ) → Type 0
Repeats n f = (i : ℕ) × (j : ℕ) × (i < j) × (j ≤ n) × (f i ≡ f j)

-- of n + 1 numbers below n, two are equal: the last equals an earlier one, or, put in the place of the value n - 1, it leaves n numbers below n - 1
pub pigeonhole : (n : ℕ) (f : ℕ → ℕ) → ((i : ℕ) → i ≤ n → f i < n) → Repeats n f
pigeonhole zero f h = absurd (omega (arith, h 0 zero-le))
pigeonhole (suc n) f h = go (dec_takes (suc n) f last) (pigeonhole n other)
  where
    last : ℕ
    last = f (suc n)

    other : ℕ → ℕ
    other i = ite (ℕ_discrete (f i) n) last (f i)

    small : (i : ℕ) → i ≤ suc n → f i ≤ n
    small i k = le_of_suc-le-suc (h i k)

    go : Dec (Takes (suc n) f last) → (((i : ℕ) → i ≤ n → other i < n) → Repeats n other) → Repeats (suc n) f
    go (yes (i, l, e)) r = (i, suc n, l, omega arith, e)
    go (no none) r =
        let unlike : (i : ℕ) → i ≤ n → f i ≢ last = λ i k e. none (i, suc-le-suc k, e) in
        let last-small : last ≤ n = small (suc n) (le_refl (suc n)) in
        let (i, j, l, k, e) = r (λ i k. ite_below n last (f i) (ℕ_discrete (f i) n) last-small (small i (le_step k)) (unlike i k)) in
        (i, j, l, omega arith, ite_apart n last (f i) (f j) (ℕ_discrete (f i) n) (ℕ_discrete (f j) n) (unlike i (omega arith)) (unlike j k) e)

pub after-add : (perm : List ℕ) (c d q : ℕ) → after perm (c + d) q ≡ after perm d (after perm c q)
unfolding after
after-add perm zero d q = rw zero-add
after-add perm (suc c) d q = rw (suc-add c d) (after-add perm c d (target perm q))

-- a number of applications that brings q back does so again and again
after-mul : (perm : List ℕ) (c k q : ℕ) → after perm c q ≡ q → after perm (c * k) q ≡ q
unfolding after
after-mul perm c zero q e = rw mul-zero
after-mul perm c (suc k) q e = rw (mul-suc, after-add, after-mul perm c k q e) e

-- where p comes to q within f applications, steps_to finds such a number
steps_to_reaches : (f : ℕ) (perm : List ℕ) (p q c : ℕ) → c ≤ f → after perm c p ≡ q → after perm (steps_to f perm p q) p ≡ q
unfolding after steps_to
steps_to_reaches zero perm p q zero h e = e
steps_to_reaches zero perm p q (suc c) h e = absurd (omega arith)
steps_to_reaches (suc f) perm p q zero h e = rw (eq-eqb p q e) e
steps_to_reaches (suc f) perm p q (suc c) h e = go (eqb p q) refl (steps_to_reaches f perm (target perm p) q c (le_of_suc-le-suc h) e)
  where
    rest : ℕ
    rest = steps_to f perm (target perm p) q

    go : (b : Bool) → eqb p q ≡ b → after perm rest (target perm p) ≡ q → after perm (cond b 0 (suc rest)) p ≡ q
    go true t r = eqb-true p q t
    go false t r = r

-- and no smaller number does
steps_to-least : (f : ℕ) (perm : List ℕ) (p q c : ℕ) → after perm c p ≡ q → steps_to f perm p q ≤ c
unfolding after steps_to
steps_to-least zero perm p q c e = zero-le
steps_to-least (suc f) perm p q zero e = rw (eq-eqb p q e) zero-le
steps_to-least (suc f) perm p q (suc c) e = go (eqb p q) (steps_to-least f perm (target perm p) q c e)
  where
    rest : ℕ
    rest = steps_to f perm (target perm p) q

    go : (b : Bool) → rest ≤ c → cond b 0 (suc rest) ≤ suc c
    go true r = zero-le
    go false r = suc-le-suc r

-- the cycle length is at most each positive number of applications that brings q back
pub cycle_least : (perm : List ℕ) (q c : ℕ) → 0 < c → after perm c q ≡ q → cycle_length perm q ≤ c
unfolding after cycle_length
cycle_least perm q zero h e = absurd (omega arith)
cycle_least perm q (suc c) h e = suc-le-suc (steps_to-least (length perm) perm (target perm q) q c e)

pub cycle_positive : (perm : List ℕ) (q : ℕ) → 0 < cycle_length perm q
unfolding cycle_length
cycle_positive perm q = zero-lt-suc (steps_to (length perm) perm (target perm q) q)

pub order_positive : (perm : List ℕ) → 0 < exact_order perm
unfolding exact_order
order_positive perm = lcm_all-positive (map (cycle_length perm) (below (length perm))) positive
  where
    positive : (a : ℕ) → Member a (map (cycle_length perm) (below (length perm))) → 0 < a
    positive a m =
        let (q, k, e) = of-member-map (cycle_length perm) (below (length perm)) a m in
        rw e (cycle_positive perm q)

module _ {n : ℕ} {perm : List ℕ} (permutes : Permutes n perm) where
  pub after-inside : (c q : ℕ) → q < n → after perm c q < n
  unfolding after
  after-inside zero q h = h
  after-inside (suc c) q h = after-inside c (target perm q) (permutes.inside q h)

  pub after-apart : (c p q : ℕ) → p < n → q < n → after perm c p ≡ after perm c q → p ≡ q
  unfolding after
  after-apart zero p q h k e = e
  after-apart (suc c) p q h k e =
      permutes.apart p q h k (after-apart c (target perm p) (target perm q) (permutes.inside p h) (permutes.inside q k) e)

  -- a site comes back within n applications
  pub comes_back : (q : ℕ) → q < n → (c : ℕ) × (c < n) × (after perm (suc c) q ≡ q)
  comes_back q h =
      let (i, j, l, k, e) = pigeonhole n (λ i. after perm i q) (λ i k. after-inside i q h) in
      let d : ℕ = j - suc i in
      let sum : suc d + i ≡ j = omega arith in
      (d, omega arith, after-apart i (after perm (suc d) q) q (after-inside (suc d) q h) h (cc (after-add perm (suc d) i q, sum, e)))

  pub cycle-returns : (q : ℕ) → q < n → after perm (cycle_length perm q) q ≡ q
  unfolding after cycle_length
  cycle-returns q h =
      let (c, l, e) = comes_back q h in
      steps_to_reaches (length perm) perm (target perm q) q c (omega (arith, permutes.long)) e

  -- the applications that are left after whole cycles bring q back too, and they are fewer than a cycle
  pub cycle-divides : (q : ℕ) → q < n → (c : ℕ) → after perm c q ≡ q → cycle_length perm q ∣ c
  cycle-divides q h c e = go (eq-zero-or-pos (c % size))
    where
      size : ℕ
      size = cycle_length perm q

      left : after perm (c % size) q ≡ q
      left = cc (div-add-mod c size, after-add perm (size * (c / size)) (c % size) q, after-mul perm size (c / size) q (cycle-returns q h))

      go : (c % size ≡ 0) ⊎ (0 < c % size) → size ∣ c
      go (inl z) = dvd_of_mod-eq-zero size z
      go (inr p) = absurd (omega (arith, cycle_least perm q (c % size) p left, mod-lt c (cycle_positive perm q)))

  pub cycle-order : (q : ℕ) → q < n → cycle_length perm q ∣ exact_order perm
  unfolding exact_order
  cycle-order q h =
      lcm_all_member (cycle_length perm q) (map (cycle_length perm) (below (length perm)))
      (member-map (cycle_length perm) (below (length perm)) q (member_below (length perm) q (omega (arith, permutes.long))))

  pub order-returns : (q : ℕ) → q < n → after perm (exact_order perm) q ≡ q
  order-returns q h =
      rw (← mul-div_cancel' (cycle_length perm q) (cycle-order q h)) (after-mul perm (cycle_length perm q) (exact_order perm / cycle_length perm q) q (cycle-returns q h))

  pub order_divides : (k : ℕ) → ((q : ℕ) → q < n → after perm k q ≡ q) → exact_order perm ∣ k
  unfolding exact_order
  order_divides k fixed = lcm_all_divides (map (cycle_length perm) (below (length perm))) k divides
    where
      divides : (a : ℕ) → Member a (map (cycle_length perm) (below (length perm))) → a ∣ k
      divides a m =
          let (q, l, e) = of-member-map (cycle_length perm) (below (length perm)) a m in
          let h : q < n = omega (arith, permutes.long, of_member_below (length perm) q l) in
          rw e (cycle-divides q h k (fixed q h))

  pub order_least : (k : ℕ) → 0 < k → ((q : ℕ) → q < n → after perm k q ≡ q) → exact_order perm ≤ k
  order_least k h fixed = le_of_dvd h (order_divides k fixed)
