-- gcd and lcm are what their names say: the gcd divides both numbers and every common divisor divides it; the lcm is a multiple of both and
-- divides every common multiple. What carries it: Euclid's step from (a, b) to (b, a mod b) keeps the common divisors.
use Prim.Native.Nat.{ℕ, zero, suc, ◌*◌, ◌/◌, ◌%◌, ◌≤◌, ◌<◌, ◌∣◌}
use mathlib.Core.Path.{◌≡◌, refl}
use mathlib.Core.Logic.{◌⊎◌, inl, inr}
use mathlib.Core.List.{List, [], ◌∷◌}
use native.Mathlib.Nat.{dvd_refl, dvd-zero, dvd_trans, dvd-mul_left, dvd-mul_right, dvd-mod_iff, dvd_antisymm, dvd_of_mul-dvd-mul_left, dvd_of_mul-dvd-mul_right, eq-zero_of_zero-dvd, eq-zero-or-pos, mod-lt, mul-dvd-mul_left, mul-dvd-mul_right, mul-div_cancel', div-mul_cancel, mul_assoc, mul_comm, mul_right_comm, mul-pos, one-dvd, pos_of_dvd_of_pos, zero-lt-suc, zero-mul}
use native.Mathlib.Omega.{arith}
use Rattle.action.specs.Arithmetic.{gcd_fuel, gcd, lcm, lcm_all}
use Rattle.action.specs.Lists.{Member}

-- enough fuel: what Euclid's algorithm ends with divides both numbers
gcd_fuel_divides : (f a b : ℕ) → b ≤ f → (gcd_fuel f a b ∣ a) × (gcd_fuel f a b ∣ b)
unfolding gcd_fuel
gcd_fuel_divides zero a b h =
    let none : b ≡ 0 = omega arith in
    (dvd_refl a, rw none (dvd-zero a))
gcd_fuel_divides (suc f) a zero h = (dvd_refl a, dvd-zero a)
gcd_fuel_divides (suc f) a (suc b) h =
    let rest = gcd_fuel_divides f (suc b) (a % suc b) (omega (arith, mod-lt a (zero-lt-suc b))) in
    ((dvd-mod_iff (gcd_fuel f (suc b) (a % suc b)) rest.0).0 rest.1, rest.0)

-- a common divisor stays one at each step
gcd_fuel_greatest : (f a b d : ℕ) → d ∣ a → d ∣ b → d ∣ gcd_fuel f a b
unfolding gcd_fuel
gcd_fuel_greatest zero a b d p q = p
gcd_fuel_greatest (suc f) a zero d p q = p
gcd_fuel_greatest (suc f) a (suc b) d p q = gcd_fuel_greatest f (suc b) (a % suc b) d q ((dvd-mod_iff d q).1 p)

pub gcd-left : (a b : ℕ) → gcd a b ∣ a
unfolding gcd
gcd-left a b = (gcd_fuel_divides b a b (omega arith)).0

pub gcd-right : (a b : ℕ) → gcd a b ∣ b
unfolding gcd
gcd-right a b = (gcd_fuel_divides b a b (omega arith)).1

pub gcd_greatest : (a b d : ℕ) → d ∣ a → d ∣ b → d ∣ gcd a b
unfolding gcd
gcd_greatest a b d = gcd_fuel_greatest b a b d

-- each side divides the other: gcd (k a) (k b) is k times a common divisor of a and b
pub gcd-scale : (k a b : ℕ) → gcd (k * a) (k * b) ≡ k * gcd a b
unfolding gcd
gcd-scale zero a b = simp zero-mul
gcd-scale (suc k) a b = dvd_antisymm there back
  where
    n : ℕ
    n = suc k

    part : ℕ
    part = gcd (n * a) (n * b) / n

    whole : n * part ≡ gcd (n * a) (n * b)
    whole = mul-div_cancel' n (gcd_greatest (n * a) (n * b) n (dvd-mul_right n a) (dvd-mul_right n b))

    under : (c : ℕ) → gcd (n * a) (n * b) ∣ n * c → part ∣ c
    under c h = dvd_of_mul-dvd-mul_left part (zero-lt-suc k) (rw whole h)

    there : gcd (n * a) (n * b) ∣ n * gcd a b
    there = rw (← whole) (mul-dvd-mul_left part n (gcd_greatest a b part (under a (gcd-left (n * a) (n * b))) (under b (gcd-right (n * a) (n * b)))))

    back : n * gcd a b ∣ gcd (n * a) (n * b)
    back =
        gcd_greatest (n * a) (n * b) (n * gcd a b) (mul-dvd-mul_left (gcd a b) n (gcd-left a b)) (mul-dvd-mul_left (gcd a b) n (gcd-right a b))

-- with g the gcd, (a / g) b = a (b / g)
lcm-swap : (a b : ℕ) → lcm a b ≡ a * (b / gcd a b)
unfolding lcm
lcm-swap a b =
    cc (mul_assoc (a / gcd a b) (gcd a b) (b / gcd a b), div-mul_cancel (gcd a b) (gcd-left a b), mul-div_cancel' (gcd a b) (gcd-right a b))

pub lcm-left : (a b : ℕ) → a ∣ lcm a b
lcm-left a b = rw lcm-swap (dvd-mul_right a (b / gcd a b))

pub lcm-right : (a b : ℕ) → b ∣ lcm a b
unfolding lcm
lcm-right a b = dvd-mul_left b (a / gcd a b)

lcm-gcd : (a b : ℕ) → lcm a b * gcd a b ≡ a * b
unfolding lcm
lcm-gcd a b = cc (mul_right_comm (a / gcd a b) b (gcd a b), div-mul_cancel (gcd a b) (gcd-left a b))

-- a b divides m a and m b, so it divides their gcd, m times that of a and b; lcm a b times that gcd is a b
pub lcm_divides : (a b m : ℕ) → a ∣ m → b ∣ m → lcm a b ∣ m
lcm_divides a b m p q = go (eq-zero-or-pos (gcd a b))
  where
    product : a * b ∣ m * gcd a b
    product = rw (← gcd-scale m a b) (gcd_greatest (m * a) (m * b) (a * b) (rw (mul_comm m a) (mul-dvd-mul_left b a q)) (mul-dvd-mul_right a p b))

    go : (gcd a b ≡ 0) ⊎ (0 < gcd a b) → lcm a b ∣ m
    go (inl e) =
        let a-zero : a ≡ 0 = eq-zero_of_zero-dvd (rw e at (gcd-left a b)) in
        let m-zero : m ≡ 0 = eq-zero_of_zero-dvd (rw a-zero at p) in
        rw m-zero (dvd-zero (lcm a b))
    go (inr h) = dvd_of_mul-dvd-mul_right (lcm a b) h (rw (lcm-gcd a b) product)

pub lcm-positive : {a b : ℕ} → 0 < a → 0 < b → 0 < lcm a b
lcm-positive {a} {b} p q = pos_of_dvd_of_pos (lcm_divides a b (a * b) (dvd-mul_right a b) (dvd-mul_left b a)) (mul-pos p q)

pub lcm_all_member : (a : ℕ) (xs : List ℕ) → Member a xs → a ∣ lcm_all xs
unfolding lcm_all
lcm_all_member a [] h = elim h [ ]
lcm_all_member a (b ∷ xs) (inl e) = rw e (lcm-left b (lcm_all xs))
lcm_all_member a (b ∷ xs) (inr h) = dvd_trans a (lcm_all_member a xs h) (lcm-right b (lcm_all xs))

pub lcm_all_divides : (xs : List ℕ) (m : ℕ) → ((a : ℕ) → Member a xs → a ∣ m) → lcm_all xs ∣ m
unfolding lcm_all
lcm_all_divides [] m h = one-dvd m
lcm_all_divides (a ∷ xs) m h = lcm_divides a (lcm_all xs) m (h a (inl refl)) (lcm_all_divides xs m (λ b k. h b (inr k)))

pub lcm_all-positive : (xs : List ℕ) → ((a : ℕ) → Member a xs → 0 < a) → 0 < lcm_all xs
unfolding lcm_all
lcm_all-positive [] h = zero-lt-suc 0
lcm_all-positive (a ∷ xs) h = lcm-positive (h a (inl refl)) (lcm_all-positive xs (λ b k. h b (inr k)))
