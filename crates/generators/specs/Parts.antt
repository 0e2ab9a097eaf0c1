-- What the functions that the calls are made of come to.
use Rattle.std.specs.Prelude.{ℕ, ◌*◌, Bool, not, List, [], ◌∷◌, ltb, length}
use Rattle.outcome.specs.declared.Refusal.TheVariants as Refusal
use Rattle.outcome.specs.Outcome.{Outcome, answer, Check, rule, unless}
use Rattle.pauli_word.specs.Limits.{max_sites}
use Rattle.permutation.specs.Generators.{perms_of, list_end}

-- how many generators a list writes, where it does not end inside one
unfoldable pub scan_outcome : List ℕ → Outcome ℕ
scan_outcome list = unless (list_end list ∷ []) (answer (length (perms_of list)))

-- 26: a lattice side 0
abbrev pub zero_side : Bool → Check
zero_side b = rule Refusal.ZeroSide b

-- 27: sides whose product exceeds max_sites
abbrev pub sides_limit : ℕ → Check
sides_limit n = rule Refusal.SidesTooLarge (ltb max_sites n)

-- whether one of three sides is 0
abbrev pub any_zero : ℕ → ℕ → ℕ → Bool
any_zero a b c = not (ltb 0 (a * b * c))

-- the sites of a lattice by its sides
unfoldable pub sides_outcome : ℕ → ℕ → ℕ → Outcome ℕ
sides_outcome a b c = unless (zero_side (any_zero a b c) ∷ sides_limit (a * b * c) ∷ []) (answer (a * b * c))
