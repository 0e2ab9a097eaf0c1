-- What the functions that the calls are made of come to, by the definitions of the rules.
use Rattle.std.specs.Prelude.{ℕ, List, [], ◌∷◌}
use Rattle.outcome.specs.Outcome.{Outcome, answer, unless}
use Rattle.action.specs.Permutation.{exact_order}
use Rattle.action.specs.Arithmetic.{product}
use Rattle.permutation.specs.Generators.{order_fits, order_overflow}

-- the exact order of generator i's permutation, where it fits 32 bits
unfoldable pub exact_outcome : ℕ → List ℕ → Outcome ℕ
exact_outcome i perm = unless (order_fits i perm ∷ []) (answer (exact_order perm))

-- the product of orders, where it fits 64 bits
unfoldable pub product_outcome : List ℕ → Outcome ℕ
product_outcome orders = unless (order_overflow orders ∷ []) (answer (product orders))
