-- Lists of numbers, and what can be said of and counted in a list.
use Rattle.std.specs.Prelude.{ℕ, zero, suc, ◌+◌, ◌≡◌, ◌⊎◌, Bool, true, false, ◌&&◌, cond, List, [], ◌∷◌, ◌++◌, map, eqb}

-- the n numbers from a on
unfoldable pub from : ℕ → ℕ → List ℕ
from a zero = []
from a (suc n) = a ∷ from (suc a) n

-- the numbers below n
unfoldable pub below : ℕ → List ℕ
unfolding from
below n = from 0 n

-- whether two lists of numbers are the same
unfoldable pub same_numbers : List ℕ → List ℕ → Bool
same_numbers [] [] = true
same_numbers [] (b ∷ bs) = false
same_numbers (a ∷ xs) [] = false
same_numbers (a ∷ xs) (b ∷ bs) = eqb a b && same_numbers xs bs

-- a is a member of a list
abbrev pub Member : {A : Type 0} → A → List A → Type 0
Member a [] = ⊥
Member a (b ∷ xs) = (a ≡ b) ⊎ Member a xs

-- no member stands twice
abbrev pub NoRepeats : {A : Type 0} → List A → Type 0
NoRepeats [] = Unit {0}
NoRepeats (a ∷ xs) = (Member a xs → ⊥) × NoRepeats xs

-- the members that pass a test
unfoldable pub select : {A : Type 0} → (A → Bool) → List A → List A
select p [] = []
select p (a ∷ xs) = let t = select p xs in cond (p a) (a ∷ t) t

-- how many members pass a test
unfoldable pub count : {A : Type 0} → (A → Bool) → List A → ℕ
count p [] = 0
count p (a ∷ xs) = cond (p a) 1 0 + count p xs

-- whether every member passes a test
unfoldable pub every : {A : Type 0} → (A → Bool) → List A → Bool
every p [] = true
every p (a ∷ xs) = p a && every p xs

-- the first member that passes a test; d if none does
unfoldable pub first_of : {A : Type 0} → A → (A → Bool) → List A → A
first_of d p [] = d
first_of d p (a ∷ xs) = let t = first_of d p xs in cond (p a) a t

-- the sum of a number for each member
unfoldable pub total : {A : Type 0} → (A → ℕ) → List A → ℕ
total f [] = 0
total f (a ∷ xs) = f a + total f xs

-- each list of ts with each member of c put in front
unfoldable pub prefixed : {A : Type 0} → List A → List (List A) → List (List A)
prefixed [] ts = []
prefixed (a ∷ c) ts = map (λ t. a ∷ t) ts ++ prefixed c ts

-- the lists whose first member is from the first choice, the second from the second, and so on
unfoldable pub choices : {A : Type 0} → List (List A) → List (List A)
unfolding prefixed
choices [] = [] ∷ []
choices (c ∷ cs) = prefixed c (choices cs)
