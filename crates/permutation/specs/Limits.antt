-- The sizes of a group, each by one name.
use Rattle.std.specs.Prelude.{ℕ, ◌*◌}
use Rattle.pauli_word.specs.Limits.{max_sites}

-- the most generators
abbrev pub max_generators : ℕ
max_generators = 4

-- the largest group order
abbrev pub max_order : ℕ
max_order = 1048576

-- the largest order of one generator, as it is declared in 32 bits
abbrev pub max_declared : ℕ
max_declared = 4294967295

-- the largest 64-bit number
abbrev pub max_wide : ℕ
max_wide = 18446744073709551615

-- the most different cycle lengths: k of them take k (k + 1) / 2 sites
abbrev pub max_lengths : ℕ
max_lengths = 63

-- the places for targets in a group value
abbrev pub target_places : ℕ
target_places = max_generators * max_sites
