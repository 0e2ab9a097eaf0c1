-- The cycle lengths of a permutation, those that are left when equal ones are struck out, and their common multiple.
use Rattle.std.specs.Prelude.{ℕ, suc, ◌-◌, ◌<◌, ◌≡◌, ◌⊎◌, cond, List, [], ◌∷◌, map, eqb, ltb, length, get_or}
use Rattle.outcome.specs.declared.Refusal.TheVariants as Refusal
use Rattle.outcome.specs.Outcome.{Outcome, answer, unless, rule}
use Rattle.action.specs.Arithmetic.{lcm_all}
use Rattle.action.specs.Lists.{from, below, select, Member}
use Rattle.action.specs.Permutation.{after, cycle_length}
use Rattle.permutation.specs.Limits.{max_declared}
use Rattle.permutation.specs.Generators.{among}

-- seen has the marks of before, and besides the first c sites of the walk from start are marked by 1
pub record Marked (perm : List ℕ) (start c : ℕ) (before seen : List ℕ) : Type 0 where
  pub kept : (p : ℕ) → get_or before p 0 ≡ 1 → get_or seen p 0 ≡ 1
  pub walked : (d : ℕ) → d < c → get_or seen (after perm d start) 0 ≡ 1
  pub only : (p : ℕ) → get_or seen p 0 ≡ 1 → (get_or before p 0 ≡ 1) ⊎ ((d : ℕ) × (d < c) × (p ≡ after perm d start))

-- all cycle lengths, that of its cycle for each site
unfoldable pub cycle_lengths : List ℕ → List ℕ
unfolding cycle_length below
cycle_lengths perm = map (cycle_length perm) (below (length perm))

-- equal ones struck out: each length that some cycle has, once, rising; no cycle is longer than the sites are many
unfoldable pub different_lengths : List ℕ → List ℕ
unfolding select among below cycle_lengths
different_lengths perm = select (λ l. among l (cycle_lengths perm)) (below (suc (length perm)))

-- marks of the lengths 1 to k, length l at place l - 1: 1 if some cycle has it, else 0
unfoldable pub length_marks : ℕ → List ℕ → List ℕ
unfolding among below cycle_lengths
length_marks k perm = map (λ i. cond (among (suc i) (cycle_lengths perm)) 1 0) (below k)

-- the lengths from a to b that are marked by 1, rising
unfoldable pub marked_within : ℕ → ℕ → List ℕ → List ℕ
unfolding select from
marked_within a b marks = select (λ l. eqb (get_or marks (l - 1) 0) 1) (from a (suc b - a))

-- the common multiple of lengths, where it fits 32 bits: else 9 (generator)
unfoldable pub multiple_outcome : ℕ → List ℕ → Outcome ℕ
multiple_outcome i lengths = unless (rule (Refusal.PermutationOrderOverflow i) (ltb max_declared (lcm_all lengths)) ∷ []) (answer (lcm_all lengths))

-- strictly rising: each member is less than all after it
abbrev pub Rising : List ℕ → Type 0
Rising [] = Unit {0}
Rising (a ∷ xs) = ((b : ℕ) → Member b xs → a < b) × Rising xs
