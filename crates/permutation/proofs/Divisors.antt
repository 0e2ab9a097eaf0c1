-- Euclid's step, and that the least common multiple of a 32-bit and a 16-bit number fits 48 bits.
-- What carries the step: the two pairs of numbers have the same common divisors.
use Prim.Native.Nat.{ℕ, ◌*◌, ◌/◌, ◌%◌, ◌<◌}
use mathlib.Core.Path.{◌≡◌, refl}
use native.Mathlib.Nat.{dvd_antisymm, dvd-mod_iff, pos_of_dvd_of_pos, div-le_self, mul-le-mul_left, mul-le-mul_right, le_of_lt}
use native.Mathlib.Omega.{arith}
use Rattle.action.specs.Arithmetic.{gcd_fuel, gcd}
use Rattle.action.proofs.Arithmetic.{gcd-left, gcd-right, gcd_greatest}

pub gcd_end : (a : ℕ) → gcd a 0 ≡ a
unfolding gcd gcd_fuel
gcd_end a = refl

pub gcd_step : (a b : ℕ) → gcd a b ≡ gcd b (a % b)
gcd_step a b =
    dvd_antisymm
    (gcd_greatest b (a % b) (gcd a b) (gcd-right a b) ((dvd-mod_iff (gcd a b) (gcd-right a b)).1 (gcd-left a b)))
    (gcd_greatest a b (gcd b (a % b)) ((dvd-mod_iff (gcd b (a % b)) (gcd-left b (a % b))).0 (gcd-right b (a % b))) (gcd-left b (a % b)))

pub gcd_comm : (a b : ℕ) → gcd a b ≡ gcd b a
gcd_comm a b = dvd_antisymm (gcd_greatest b a (gcd a b) (gcd-right a b) (gcd-left a b)) (gcd_greatest a b (gcd b a) (gcd-right b a) (gcd-left b a))

pub gcd-positive : (a b : ℕ) → 0 < a → 0 < gcd a b
gcd-positive a b h = pos_of_dvd_of_pos (gcd-left a b) h

-- a least common multiple is at most the product, which fits 48 bits
pub lcm_small : (a b : ℕ) → a < 4294967296 → b < 65536 → a / gcd a b * b < 281474976710656
lcm_small a b h k = omega (arith, mul-le-mul_right b (div-le_self a (gcd a b)), mul-le-mul_left a (le_of_lt k))
