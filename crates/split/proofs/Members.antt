-- The generators of a part: those whose labels are chosen are those whose numbers are listed, in the same order. What carries it: from generator a on, the
-- next number of the list is a, where a has the label.
use Prim.Native.Nat.{ℕ, zero, suc, ◌+◌, ◌≤◌, ◌<◌}
use mathlib.Core.Path.{◌≡◌, refl, sym, ap, ap₂, ◌∙◌}
use mathlib.Core.Bool.{Bool, true, false, cond}
use mathlib.Core.List.{List, [], ◌∷◌, map}
use native.Mathlib.Nat.{not-suc-le-zero}
use native.Mathlib.Decide.{dec_lt, ℕ_discrete}
use native.Mathlib.Omega.{arith}
use borrow.Author.Count.{below_more}
use borrow.Author.Tests.{eq-eqb, ne_eqb}
use lib.Dec.{eqb}
use lib.ListN.{length, get_or, take, drop, drop_of_length-le}
use lib.Seq.{drop-cons}
use Rattle.action.specs.Lists.{from, below}
use Rattle.action.specs.Permutation.{Generator}
use Rattle.permutation.specs.Generators.{declared, row_at, rows_of}
use Rattle.elements.specs.HeldGroup.{generators_in}
use Rattle.elements.proofs.TableRows.{generator_at}
use Rattle.parts.specs.Labels.{chosen}
use Rattle.split.specs.Places.{Listed}

-- ---- generators of tables, by their numbers

declared-from : (n : ℕ) (targets orders : List ℕ) (k a : ℕ) → a + k ≤ length orders
    → declared (map (row_at n targets) (from a k)) (take k (drop a orders)) ≡ map (generator_at n targets orders) (from a k)
unfolding declared from
declared-from n targets orders zero a h = refl
declared-from n targets orders (suc k) a h =
    rw (drop-cons orders a 0 (omega arith)) (ap (λ (gs : List Generator). generator_at n targets orders a ∷ gs) (declared-from n targets orders k (suc a) (omega arith)))

pub generators-below : (k n : ℕ) (targets orders : List ℕ) → k ≤ length orders → generators_in k n targets orders ≡ map (generator_at n targets orders) (below k)
unfolding generators_in rows_of below
generators-below k n targets orders h = declared-from n targets orders k 0 (omega arith)

-- ---- what is chosen

pub chosen-map : {A B : Type 0} (f : A → B) (t : ℕ → Bool) (ls : List ℕ) (xs : List A) → chosen t ls (map f xs) ≡ map f (chosen t ls xs)
unfolding chosen
chosen-map f t [] xs = refl
chosen-map f t (l ∷ ls) [] = refl
chosen-map f t (l ∷ ls) (x ∷ xs) = go (t l) (chosen-map f t ls xs)
  where
    go : (b : Bool) → chosen t ls (map f xs) ≡ map f (chosen t ls xs)
        → cond b (f x ∷ chosen t ls (map f xs)) (chosen t ls (map f xs)) ≡ map f (cond b (x ∷ chosen t ls xs) (chosen t ls xs))
    go true e = ap (λ (ys : List _). f x ∷ ys) e
    go false e = e

module _ {n k : ℕ} (labels : List ℕ) {part : ℕ} {member rank : ℕ → ℕ} (l : Listed n k (λ g. get_or labels g 0) part member rank) (long : length labels ≡ n) where
  -- number j of the list is the first from generator a on
  abbrev From : ℕ → ℕ → Type 0
  From j a = ((i : ℕ) → i < j → member i < a) × ((i : ℕ) → j ≤ i → i < k → a ≤ member i)

  -- where a has the label, it is a
  rank-next : (j a : ℕ) → a < n → From j a → get_or labels a 0 ≡ part → (j < k) × (member j ≡ a)
  rank-next j a h f own = go (dec_lt (rank a) j) (dec_lt j (rank a))
    where
      small : rank a < k
      small = l.small a h own

      at : member (rank a) ≡ a
      at = l.listed a h own

      go : Dec (rank a < j) → Dec (j < rank a) → (j < k) × (member j ≡ a)
      go (yes c) d = absurd (omega (arith, f.0 (rank a) c, at))
      go (no c) (yes d) = absurd (omega (arith, l.rising j (rank a) d small, f.1 j (omega arith) (omega (arith, small)), at))
      go (no c) (no d) = let e : rank a ≡ j = omega arith in (rw (← e) small, rw (← e) at)

  -- and the next one is the first from the next generator on
  from-own : (j a : ℕ) → From j a → j < k → member j ≡ a → From (suc j) (suc a)
  from-own j a f h e = (
    (λ i b. below_more (λ i. member i < suc a) j (λ i c. omega (arith, f.0 i c)) (omega (arith, e)) i (omega arith)),
    λ i b c. omega (arith, l.rising j i b c, e),
  )

  from-other : (j a : ℕ) → From j a → (get_or labels a 0 ≡ part → ⊥) → From j (suc a)
  from-other j a f other = ((λ i b. omega (arith, f.0 i b)), later)
    where
      later : (i : ℕ) → j ≤ i → i < k → suc a ≤ member i
      later i b c = go (dec_lt a (member i))
        where
          go : Dec (a < member i) → suc a ≤ member i
          go (yes d) = d
          go (no d) = let e : member i ≡ a = omega (arith, f.1 i b c) in absurd (other (ap (λ (g : ℕ). get_or labels g 0) (sym e) ∙ l.own i c))

  chosen-from : (r a j s : ℕ) → a + r ≡ n → j + s ≡ k → From j a → chosen (λ x. eqb x part) (drop a labels) (from a r) ≡ map member (from j s)
  unfolding chosen from
  chosen-from zero a j zero e b f = rw (drop_of_length-le labels {i = a} (omega arith))
  chosen-from zero a j (suc s) e b f = absurd (omega (arith, f.1 j (omega arith) (omega arith), l.inside j (omega arith)))
  chosen-from (suc r) a j s e b f =
      rw (drop-cons labels a 0 (omega arith)) (go s b (ℕ_discrete (get_or labels a 0) part) (λ i z c g. chosen-from r (suc a) i z (omega arith) c g))
    where
      rest : List ℕ
      rest = chosen (λ x. eqb x part) (drop (suc a) labels) (from (suc a) r)

      go : (s : ℕ) → j + s ≡ k → Dec (get_or labels a 0 ≡ part) → ((i z : ℕ) → i + z ≡ k → From i (suc a) → rest ≡ map member (from i z))
          → cond (eqb (get_or labels a 0) part) (a ∷ rest) rest ≡ map member (from j s)
      go zero b (yes c) tail = absurd (omega (arith, (rank-next j a (omega arith) f c).0))
      go (suc s) b (yes c) tail =
          let (h, m) = rank-next j a (omega arith) f c in
          rw (eq-eqb (get_or labels a 0) part c) (ap₂ ◌∷◌ (sym m) (tail (suc j) s (omega arith) (from-own j a f h m)))
      go s b (no c) tail = rw (ne_eqb (get_or labels a 0) part c) (tail j s b (from-other j a f c))

  -- the numbers that are chosen are those that are listed
  pub chosen-below : chosen (λ x. eqb x part) labels (below n) ≡ map member (below k)
  unfolding below
  chosen-below = chosen-from n 0 0 k (omega arith) (omega arith) ((λ i h. absurd (not-suc-le-zero h)), λ i h c. omega arith)
