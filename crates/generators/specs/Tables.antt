-- Tables of targets, max_sites places a generator, and of orders: those of given generators, and which tables hold a group.
use Rattle.std.specs.Prelude.{ℕ, suc, ◌-◌, ◌*◌, Bool, ◌&&◌, cond, List, [], ◌∷◌, ◌++◌, eqb, length, take, drop, replicate}
use Rattle.pauli_word.specs.Limits.{max_sites}
use Rattle.outcome.specs.Outcome.{verdict, answers}
use Rattle.action.specs.Lists.{below, every}
use Rattle.permutation.specs.Limits.{target_places}
use Rattle.permutation.specs.Generators.{generator_count, perms_check, group_checks, row_at, rows_of, perm_check}

-- a list and zeros after it, k places in all
abbrev pub filled : ℕ → List ℕ → List ℕ
filled k xs = xs ++ replicate (k - length xs) 0

-- the targets of permutations one after the other, max_sites places each, and zeros up to the last place
unfoldable pub placed : List (List ℕ) → List ℕ
placed [] = []
placed (perm ∷ perms) = filled max_sites perm ++ placed perms

unfoldable pub placed_all : List (List ℕ) → List ℕ
unfolding placed
placed_all perms = filled target_places (placed perms)

-- the permutations from generator i on, up to the first that breaks a rule of 5 to 7
unfoldable pub passing : ℕ → ℕ → List (List ℕ) → List (List ℕ)
unfolding perm_check
passing n i [] = []
passing n i (perm ∷ perms) = let r = perm ∷ passing n (suc i) perms in cond (perm_check n i perm).broken [] r

-- whether all members are 0
abbrev pub zeros : List ℕ → Bool
zeros xs = every (λ x. eqb x 0) xs

-- whether the places of each generator above the sites are 0
unfoldable pub rests_clear : ℕ → ℕ → List ℕ → Bool
rests_clear k n targets = every (λ i. zeros (drop n (row_at max_sites targets i))) (below k)

-- whether the unused places are 0: above the sites of each generator, and of the generators that are not there
unfoldable pub unused_clear : ℕ → ℕ → List ℕ → List ℕ → Bool
unfolding rests_clear
unused_clear k n targets orders = rests_clear k n targets && zeros (drop (max_sites * k) targets) && zeros (drop k orders)

-- whether tables hold the k generators of a group of n sites: no more than 4, which break none of the rules 5 to 13, and unused places 0
unfoldable pub hold_group : ℕ → ℕ → List ℕ → List ℕ → Bool
unfolding unused_clear
hold_group k n targets orders =
    answers (verdict (generator_count k ∷ perms_check n 0 (rows_of k n targets) ∷ group_checks n (rows_of k n targets) (take k orders)))
    && unused_clear k n targets orders
