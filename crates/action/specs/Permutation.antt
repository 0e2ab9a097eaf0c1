-- Permutations of sites, and the groups that they generate. A generator moves what stands at site q to site perm[q].
use Rattle.std.specs.Prelude.{ℕ, zero, suc, ◌<◌, ◌≡◌, cond, List, [], ◌∷◌, map, eqb, length, get_or}
use Rattle.action.specs.Arithmetic.{lcm_all}
use Rattle.action.specs.Lists.{below, Member}

-- a generator: where it sends each site, and its order
pub record Generator : Type 0 where
  pub perm : List ℕ
  pub order : ℕ

-- where a permutation sends site q
abbrev pub target : List ℕ → ℕ → ℕ
target perm q = get_or perm q 0

-- where generator g of a list sends site q; a site stays where the list has no such generator
unfoldable pub sends : List Generator → ℕ → ℕ → ℕ
sends [] g q = q
sends (x ∷ gs) zero q = target x.perm q
sends (x ∷ gs) (suc g) q = sends gs g q

-- where c applications send site q
unfoldable pub after : List ℕ → ℕ → ℕ → ℕ
after perm zero q = q
after perm (suc c) q = after perm c (target perm q)

-- how many more applications bring p to q, looking at most f ahead
unfoldable pub steps_to : ℕ → List ℕ → ℕ → ℕ → ℕ
steps_to zero perm p q = 0
steps_to (suc f) perm p q = let r = suc (steps_to f perm (target perm p) q) in cond (eqb p q) 0 r

-- the length of the cycle through site q
unfoldable pub cycle_length : List ℕ → ℕ → ℕ
unfolding steps_to
cycle_length perm q = suc (steps_to (length perm) perm (target perm q) q)

-- the exact order: the least common multiple of the cycle lengths
unfoldable pub exact_order : List ℕ → ℕ
unfolding lcm_all cycle_length below
exact_order perm = lcm_all (map (cycle_length perm) (below (length perm)))

-- a permutation of n sites: each target is a site, and no two sites have the same target
pub record Permutes (n : ℕ) (perm : List ℕ) : Type 0 where
  pub long : length perm ≡ n
  pub inside : (q : ℕ) → q < n → target perm q < n
  pub apart : (p q : ℕ) → p < n → q < n → target perm p ≡ target perm q → p ≡ q

-- two permutations of n sites that commute at every site
abbrev pub Commute : ℕ → List ℕ → List ℕ → Type 0
Commute n f g = (q : ℕ) → q < n → target f (target g q) ≡ target g (target f q)

-- valid generators of n sites: each permutes them and has its exact order, and every two commute
pub record Valid (n : ℕ) (gs : List Generator) : Type 0 where
  pub permutes : (g : Generator) → Member g gs → Permutes n g.perm
  pub exact : (g : Generator) → Member g gs → g.order ≡ exact_order g.perm
  pub commute : (g h : Generator) → Member g gs → Member h gs → Commute n g.perm h.perm
