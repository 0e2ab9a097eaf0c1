-- The places of a list where an entry stands.
use Rattle.std.specs.Prelude.{ℕ, ◌≤◌, ◌<◌, ◌≡◌}

-- of n places, the m where the value stands: `table` lists them rising, and `number` has at each its number in the list
pub record Listed (n m : ℕ) (entry : ℕ → ℕ) (value : ℕ) (table number : ℕ → ℕ) : Type 0 where
  pub few : m ≤ n
  pub inside : (a : ℕ) → a < m → table a < n
  pub own : (a : ℕ) → a < m → entry (table a) ≡ value
  pub numbered : (a : ℕ) → a < m → number (table a) ≡ a
  pub small : (q : ℕ) → q < n → entry q ≡ value → number q < m
  pub listed : (q : ℕ) → q < n → entry q ≡ value → table (number q) ≡ q
  pub rising : (a b : ℕ) → a < b → b < m → table a < table b
