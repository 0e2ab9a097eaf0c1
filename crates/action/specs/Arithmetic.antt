-- Products, the greatest common divisor and the least common multiple. proofs/Arithmetic.antt shows that the last two are what their names say.
use Rattle.std.specs.Prelude.{ℕ, zero, suc, ◌*◌, ◌/◌, ◌%◌, List, [], ◌∷◌}

-- the product of a list, 1 where it is empty
unfoldable pub product : List ℕ → ℕ
product [] = 1
product (k ∷ ks) = k * product ks

-- Euclid's algorithm; the first argument bounds its steps
unfoldable pub gcd_fuel : ℕ → ℕ → ℕ → ℕ
gcd_fuel zero a b = a
gcd_fuel (suc f) a zero = a
gcd_fuel (suc f) a (suc b) = gcd_fuel f (suc b) (a % suc b)

-- the greatest common divisor: b falls at each step, so b steps are enough
unfoldable pub gcd : ℕ → ℕ → ℕ
unfolding gcd_fuel
gcd a b = gcd_fuel b a b

-- the least common multiple
unfoldable pub lcm : ℕ → ℕ → ℕ
unfolding gcd
lcm a b = a / gcd a b * b

-- the least common multiple of a list, 1 where it is empty
unfoldable pub lcm_all : List ℕ → ℕ
unfolding lcm
lcm_all [] = 1
lcm_all (a ∷ xs) = lcm a (lcm_all xs)
