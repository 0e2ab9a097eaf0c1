-- Tables and the generators that they hold: generator g is row g of the targets with order g, so that what is left of the generators from g on
-- is that generator and what is left from g + 1 on (`rest_at`). Every loop over the generators goes by this law.
use Prim.Native.Nat.{ℕ, zero, suc, ◌+◌, ◌≤◌, ◌<◌}
use mathlib.Core.Path.{◌≡◌, refl, sym, ap, ap₂, ◌∙◌}
use mathlib.Core.Logic.{inl, inr}
use mathlib.Core.List.{List, [], ◌∷◌}
use native.Mathlib.Nat.{add-zero, zero-add, le_of_suc-le-suc, not-suc-le-zero, suc_inj, suc-ne-zero}
use native.Mathlib.Numerals.{add-one}
use native.Mathlib.Omega.{arith}
use lib.ListN.{length, get_or, take, drop, length-map, drop_of_length-le, get_or-map}
use lib.Seq.{length-take-le, get_or-take, drop-cons}
use Rattle.action.specs.Lists.{from, below, Member}
use Rattle.action.specs.Permutation.{Generator, Permutes}
use Rattle.action.proofs.Lists.{length-below}
use Rattle.action.proofs.Index.{Positive, valid_positive}
use Rattle.permutation.specs.Generators.{declared, row_at, rows_of}
use Rattle.elements.specs.HeldGroup.{generators_in, Tables}

-- generator g of tables
abbrev pub generator_at : ℕ → List ℕ → List ℕ → ℕ → Generator
generator_at n targets orders g = record { perm = row_at n targets g; order = get_or orders g 0 }

from_at : (n a i : ℕ) → i < n → get_or (from a n) i 0 ≡ a + i
unfolding from
from_at zero a i h = absurd (not-suc-le-zero h)
from_at (suc n) a zero h = sym (add-zero a)
from_at (suc n) a (suc i) h = from_at n (suc a) i (le_of_suc-le-suc h) ∙ omega arith

below_at : (n i : ℕ) → i < n → get_or (below n) i 0 ≡ i
unfolding below
below_at n i h = from_at n 0 i h ∙ zero-add i

declared-length : (perms : List (List ℕ)) (orders : List ℕ) → length perms ≡ length orders → length (declared perms orders) ≡ length perms
unfolding declared
declared-length [] orders e = refl
declared-length (p ∷ perms) [] e = absurd (suc-ne-zero (length perms) e)
declared-length (p ∷ perms) (o ∷ orders) e = ap suc (declared-length perms orders (suc_inj e))

declared-at :
    (perms : List (List ℕ)) (orders : List ℕ) (g : ℕ) (d : Generator) (p : List ℕ) → g < length perms → g < length orders
    → get_or (declared perms orders) g d ≡ record { perm = get_or perms g p; order = get_or orders g 0 }
unfolding declared
declared-at [] orders g d p h k = absurd (not-suc-le-zero h)
declared-at (r ∷ perms) [] g d p h k = absurd (not-suc-le-zero k)
declared-at (r ∷ perms) (o ∷ orders) zero d p h k = refl
declared-at (r ∷ perms) (o ∷ orders) (suc g) d p h k = declared-at perms orders g d p (le_of_suc-le-suc h) (le_of_suc-le-suc k)

-- tables with these rows and these first orders
pub generators_of_lem :
    (k n : ℕ) (targets orders : List ℕ) {perms : List (List ℕ)} {os : List ℕ} → rows_of k n targets ≡ perms → take k orders ≡ os
    → generators_in k n targets orders ≡ declared perms os
unfolding generators_in
generators_of_lem k n targets orders r o = ap₂ declared r o

pub member_drop : {A : Type 0} (g : ℕ) (xs : List A) (a : A) → Member a (drop g xs) → Member a xs
member_drop zero xs a m = m
member_drop (suc g) [] a m = m
member_drop (suc g) (x ∷ xs) a m = inr (member_drop g xs a m)

positive-drop : (g : ℕ) (gs : List Generator) → Positive gs → Positive (drop g gs)
positive-drop zero gs p = p
positive-drop (suc g) [] p = p
positive-drop (suc g) (x ∷ gs) p = positive-drop g gs p.1

module _ {k n : ℕ} {targets orders : List ℕ} (t : Tables k n targets orders) where
  orders-long : length (take k orders) ≡ k
  orders-long = length-take-le k orders (omega (arith, t.few, t.declared_orders))

  rows_long : length (rows_of k n targets) ≡ k
  unfolding rows_of
  rows_long = length-map (below k) (row_at n targets) ∙ length-below k

  pub generators-length : length (generators_in k n targets orders) ≡ k
  unfolding generators_in
  generators-length = declared-length (rows_of k n targets) (take k orders) (rows_long ∙ sym orders-long) ∙ rows_long

  pub generators-at : (g : ℕ) (d : Generator) → g < k → get_or (generators_in k n targets orders) g d ≡ generator_at n targets orders g
  unfolding generators_in rows_of
  generators-at g d h =
      declared-at (rows_of k n targets) (take k orders) g d (row_at n targets 0) (rw rows_long h) (rw orders-long h)
      ∙ rw (get_or-map (row_at n targets) (below k) g 0, below_at k g h, get_or-take k orders g 0 h)

  -- what is left of the generators from g on
  pub rest_at : (g : ℕ) → g < k
      → drop g (generators_in k n targets orders) ≡ generator_at n targets orders g ∷ drop (g + 1) (generators_in k n targets orders)
  rest_at g h =
      let d : Generator = generator_at n targets orders g in
      drop-cons (generators_in k n targets orders) g d (rw generators-length h)
      ∙ rw (generators-at g d h, add-one g)

  pub rest_end : (g : ℕ) → k ≤ g → drop g (generators_in k n targets orders) ≡ []
  rest_end g h = drop_of_length-le (generators_in k n targets orders) {i = g} (rw generators-length h)

  pub rest-positive : (g : ℕ) → Positive (drop g (generators_in k n targets orders))
  rest-positive g = positive-drop g (generators_in k n targets orders) (valid_positive t.valid)

  pub order-positive-at : (g : ℕ) → g < k → 0 < get_or orders g 0
  order-positive-at g h = (rw (rest_at g h) at (rest-positive g)).0

  pub permutes-at : (g : ℕ) → g < k → Permutes n (row_at n targets g)
  permutes-at g h =
      t.valid.permutes (generator_at n targets orders g)
      (member_drop g (generators_in k n targets orders) (generator_at n targets orders g) (rw (rest_at g h) (inl refl)))
