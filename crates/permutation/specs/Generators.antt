-- A buyer's generators: the list that writes them, and the rules 2 to 13 that they are checked by.
use Rattle.std.specs.Prelude.{ℕ, zero, suc, ◌*◌, Bool, true, false, ◌||◌, not, cond, List, [], ◌∷◌, ◌++◌, map, ltb, leb, eqb, length, take, drop}
use Rattle.pauli_word.specs.Limits.{max_sites}
use Rattle.outcome.specs.declared.Refusal.{Refusal}
use Rattle.outcome.specs.Outcome.{Check, rule}
use Rattle.action.specs.Lists.{below, every}
use Rattle.action.specs.Permutation.{Generator, target, exact_order}
use Rattle.permutation.specs.Limits.{max_generators, max_order, max_declared, max_wide}
use Rattle.action.specs.Arithmetic.{product}

-- ---- the list: each generator its length and then its targets

-- whether a list ends inside a generator, looking at no more than f generators
unfoldable pub ends_within : ℕ → List ℕ → Bool
ends_within zero l = false
ends_within (suc f) [] = false
ends_within (suc f) (n ∷ l) = let r = ends_within f (drop n l) in cond (ltb (length l) n) true r

-- a generator takes a place at least, so a list has no more generators than places
unfoldable pub ends_inside : List ℕ → Bool
unfolding ends_within
ends_inside list = ends_within (length list) list

-- the targets of the generators of a list, no more than f of them
unfoldable pub perms_within : ℕ → List ℕ → List (List ℕ)
perms_within zero l = []
perms_within (suc f) [] = []
perms_within (suc f) (n ∷ l) = take n l ∷ perms_within f (drop n l)

unfoldable pub perms_of : List ℕ → List (List ℕ)
unfolding perms_within
perms_of list = perms_within (length list) list

-- the list that writes permutations: each its length and then its targets
unfoldable pub written : List (List ℕ) → List ℕ
written [] = []
written (perm ∷ perms) = length perm ∷ (perm ++ written perms)

-- a rule that is not broken
abbrev pub fine : Check
fine = record { number = 0; values = []; broken = false }

-- the rule that a refusal is by, broken
abbrev pub broke : Refusal → Check
broke why = rule why true

-- 2: the generator list ends inside a generator
abbrev pub list_end : List ℕ → Check
list_end list = rule Refusal.ListEndsInside (ends_inside list)

-- 3: more than 4 generators
abbrev pub generator_count : ℕ → Check
generator_count k = rule Refusal.TooManyGenerators (ltb max_generators k)

-- 4: counts of permutations and orders differ (both counts)
abbrev pub counts : ℕ → ℕ → Check
counts k m = rule (Refusal.LengthMismatch k m) (not (eqb k m))

-- ---- 5 to 7, one generator after the other

-- whether a number is among those of a list
unfoldable pub among : ℕ → List ℕ → Bool
among t [] = false
among t (x ∷ xs) = eqb t x || among t xs

-- the first target at fault: 6, not below the site count, or 7, among those before it (generator, target)
unfoldable pub targets_check : ℕ → ℕ → List ℕ → List ℕ → Check
unfolding among
targets_check n i seen [] = fine
targets_check n i seen (t ∷ ts) =
    let r = targets_check n i (t ∷ seen) ts in
    cond (leb n t) (broke (Refusal.TargetOutOfRange i t)) (cond (among t seen) (broke (Refusal.DuplicateTarget i t)) r)

-- 5: the length is not the site count (generator, length); then its targets
unfoldable pub perm_check : ℕ → ℕ → List ℕ → Check
unfolding targets_check
perm_check n i perm = let r = targets_check n i [] perm in cond (eqb (length perm) n) r (broke (Refusal.PermutationLength i (length perm)))

-- the first of two rules that is broken
abbrev pub or_next : Check → Check → Check
or_next a b = cond a.broken a b

-- the permutations from generator i on
unfoldable pub perms_check : ℕ → ℕ → List (List ℕ) → Check
unfolding perm_check
perms_check n i [] = fine
perms_check n i (perm ∷ perms) = or_next (perm_check n i perm) (perms_check n (suc i) perms)

-- ---- 8 to 10, one generator after the other

-- 9: the exact order exceeds 4,294,967,295 (generator)
abbrev pub order_fits : ℕ → List ℕ → Check
order_fits i perm = rule (Refusal.PermutationOrderOverflow i) (ltb max_declared (exact_order perm))

-- 8: the order is 0 (generator); then 9; 10: declared and exact order differ (generator, both)
unfoldable pub order_check : ℕ → List ℕ → ℕ → Check
unfolding exact_order
order_check i perm declared =
    cond (eqb declared 0) (broke (Refusal.ZeroOrder i))
    (cond (ltb max_declared (exact_order perm)) (broke (Refusal.PermutationOrderOverflow i))
    (cond (eqb declared (exact_order perm)) fine (broke (Refusal.OrderMismatch i declared (exact_order perm)))))

unfoldable pub orders_check : ℕ → List (List ℕ) → List ℕ → Check
unfolding order_check
orders_check i [] orders = fine
orders_check i (perm ∷ perms) [] = fine
orders_check i (perm ∷ perms) (o ∷ orders) = or_next (order_check i perm o) (orders_check (suc i) perms orders)

-- ---- 11: two generators do not commute: the first pair, left then right, in which they differ at some site

-- whether two permutations of n sites commute at every site
unfoldable pub commute_at : ℕ → List ℕ → List ℕ → Bool
unfolding every below
commute_at n f g = every (λ q. eqb (target f (target g q)) (target g (target f q))) (below n)

-- generator l with those from r on
unfoldable pub with_right : ℕ → ℕ → ℕ → List ℕ → List (List ℕ) → Check
unfolding commute_at
with_right n l r perm [] = fine
with_right n l r perm (p ∷ perms) = or_next (cond (commute_at n perm p) fine (broke (Refusal.NonCommuting l r))) (with_right n l (suc r) perm perms)

-- the generators from l on, each with those after it
unfoldable pub pairs_check : ℕ → ℕ → List (List ℕ) → Check
unfolding with_right
pairs_check n l [] = fine
pairs_check n l (perm ∷ perms) = or_next (with_right n l (suc l) perm perms) (pairs_check n (suc l) perms)

-- ---- 12 and 13

-- 12: the group order exceeds 2^64 - 1
abbrev pub order_overflow : List ℕ → Check
order_overflow orders = rule Refusal.GroupOrderOverflow (ltb max_wide (product orders))

-- 13: the group order exceeds max_order
abbrev pub order_limit : List ℕ → Check
order_limit orders = rule Refusal.GroupOrderLimit (ltb max_order (product orders))

-- 8 to 13, of permutations of n sites
abbrev pub group_checks : ℕ → List (List ℕ) → List ℕ → List Check
group_checks n perms orders = orders_check 0 perms orders ∷ pairs_check n 0 perms ∷ order_overflow orders ∷ order_limit orders ∷ []

-- 3 to 13, of the permutations that a list writes
abbrev pub generator_checks : ℕ → List (List ℕ) → List ℕ → List Check
generator_checks n perms orders =
    generator_count (length perms) ∷ counts (length perms) (length orders) ∷ perms_check n 0 perms ∷ group_checks n perms orders

-- ---- permutations with their orders, and where they stand in a list of max_sites places each

-- permutations with their declared orders
unfoldable pub declared : List (List ℕ) → List ℕ → List Generator
declared [] orders = []
declared (perm ∷ perms) [] = []
declared (perm ∷ perms) (o ∷ orders) = record { perm = perm; order = o } ∷ declared perms orders

-- the first n of the places of generator i
abbrev pub row_at : ℕ → List ℕ → ℕ → List ℕ
row_at n targets i = take n (drop (max_sites * i) targets)

-- those of the first k generators
unfoldable pub rows_of : ℕ → ℕ → List ℕ → List (List ℕ)
rows_of k n targets = map (row_at n targets) (below k)
