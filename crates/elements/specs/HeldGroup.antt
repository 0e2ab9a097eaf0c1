-- A group as it is stored: tables of targets, max_sites places a generator, and of orders; and words one after the other in a list.
use Rattle.std.specs.Prelude.{ℕ, ◌≤◌, ◌≡◌, List, [], ◌∷◌, ◌++◌, length, take}
use Rattle.pauli_word.specs.Limits.{max_sites}
use Rattle.pauli_word.specs.Word.{Word}
use Rattle.action.specs.Permutation.{Generator, Valid}
use Rattle.action.specs.Index.{order_of}
use Rattle.permutation.specs.Limits.{max_generators, max_order, target_places}
use Rattle.permutation.specs.declared.Lent.{Lent}
use Rattle.permutation.specs.Generators.{declared, rows_of}
use Rattle.pauli_word.specs.Bytes.{bytes_of}

-- the k generators of n sites that tables hold
unfoldable pub generators_in : ℕ → ℕ → List ℕ → List ℕ → List Generator
unfolding declared rows_of
generators_in k n targets orders = declared (rows_of k n targets) (take k orders)

-- tables that hold the k generators of an accepted group of n sites
pub record Tables (k n : ℕ) (targets orders : List ℕ) : Type 0 where
  pub places : length targets ≡ target_places
  pub declared_orders : length orders ≡ max_generators
  pub few : k ≤ max_generators
  pub sites : n ≤ max_sites
  pub valid : Valid n (generators_in k n targets orders)
  pub small : order_of (generators_in k n targets orders) ≤ max_order

-- the generators of a group whose tables are lent
abbrev pub generators_held : Lent → List Generator
generators_held g = generators_in g.generators g.sites g.targets.now g.orders.now

-- that these are the generators of an accepted group
abbrev pub HoldsGroup : Lent → Type 0
HoldsGroup g = Tables g.generators g.sites g.targets.now g.orders.now

-- the bytes of words, one after the other
unfoldable pub encode_all : List Word → List ℕ
encode_all [] = []
encode_all (w ∷ ws) = bytes_of w ++ encode_all ws
