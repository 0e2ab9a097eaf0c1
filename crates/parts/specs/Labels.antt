-- Parts by labels: a number for each generator, its part, and a number for each site, the part that moves it.
use Rattle.std.specs.Prelude.{ℕ, zero, suc, ◌+◌, ◌*◌, ◌/◌, ◌%◌, ◌<◌, ◌≡◌, ◌⊎◌, Bool, true, false, cond, List, [], ◌∷◌, eqb, length, get_or}
use Rattle.action.specs.Permutation.{Generator, target}

-- the entries whose labels pass a test, of a list with a label for each
unfoldable pub chosen : {A : Type 0} → (ℕ → Bool) → List ℕ → List A → List A
chosen t [] xs = []
chosen t (l ∷ ls) [] = []
chosen t (l ∷ ls) (x ∷ xs) = let r = chosen t ls xs in cond (t l) (x ∷ r) r

-- the index of the whole that has the digits of an index of the chosen generators, and 0 at the others
unfoldable pub spread : (ℕ → Bool) → List ℕ → List Generator → ℕ → ℕ
spread t [] gs i = 0
spread t (l ∷ ls) [] i = 0
spread t (l ∷ ls) (g ∷ gs) i = cond (t l) (i % g.order + g.order * spread t ls gs (i / g.order)) (g.order * spread t ls gs i)

-- each generator leaves every site that is not of its own part, or moves nothing; owners count parts from 1, and 0 is a site that nothing moves
abbrev pub Divided : ℕ → List Generator → List ℕ → List ℕ → Type 0
Divided n [] labels owners = Unit {0}
Divided n (g ∷ gs) [] owners = ⊥
Divided n (g ∷ gs) (l ∷ ls) owners = ((q : ℕ) → q < n → (get_or owners q 0 ≡ suc l) ⊎ (target g.perm q ≡ q)) × Divided n gs ls owners
