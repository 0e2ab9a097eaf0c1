-- Whole numbers added at their places, one after the other: what a place comes to stays in its range.
-- The fact that carries it: a place comes to a sum of no more numbers than there are, each in its range (`fold-bound`).
use Prim.Native.Nat.{ℕ, zero, suc, ◌+◌, ◌*◌, ◌≤◌, ◌<◌}
use mathlib.Core.Path.{◌≡◌, sym, ap, ◌∙◌}
use mathlib.Core.Logic.{◌⊎◌, inl, inr}
use mathlib.Core.List.{List, [], ◌∷◌}
use native.Mathlib.Nat.{mul-le-mul_right}
use native.Mathlib.Numerals.{add-one}
use native.Mathlib.Omega.{arith}
use lib.IntN.{ℤ, pos, ◌+ℤ◌}
use lib.ListN.{length, get_or, set, replicate, length-replicate}
use Rattle.action.specs.Lists.{Member, select}
use Rattle.action.proofs.Lists.{of-member-map, of-member-select, of-member-append}
use Rattle.keyed.specs.Keyed.{contents_of, fold_key, placed, place_values}
use Rattle.keyed.proofs.Folds.{contents-few}
use Rattle.keyed.proofs.Places.{place_equality, placed-length, values-next}
use Rattle.phases.specs.Rules.{InRange}
use Rattle.projection.proofs.Bounds.{fold_bound}
use Rattle.project.specs.Rows.{whole_sums}

-- what holds of the first k contents holds of the contents of the rows that they make
placed_each : {C : Type 0} (Q : C → Type 0) (d : C) (places : List ℕ) (cs : List C) (k : ℕ) → ((i : ℕ) → i < k → Q (get_or cs i d))
    → (row : ℕ × C) → Member row (placed d places cs k) → Q row.1
unfolding placed
placed_each Q d places cs zero all row m = absurd m
placed_each {C} Q d places cs (suc k) all row m =
    go (placed_each Q d places cs k (λ i h. all i (omega arith)) row) (of-member-append (placed d places cs k) ((get_or places k 0, get_or cs k d) ∷ []) row m)
  where
    go : (Member row (placed d places cs k) → Q row.1) → Member row (placed d places cs k) ⊎ Member row ((get_or places k 0, get_or cs k d) ∷ []) → Q row.1
    go before (inl n) = before n
    go before (inr (inl e)) = rw e (all k (omega arith))
    go before (inr (inr n)) = absurd n

-- a list of zeros has its own length
pub zeros-own : {list : List ℤ} (n : ℕ) → list ≡ replicate n (pos 0) → list ≡ replicate (length list) (pos 0)
zeros-own {list} n e = e ∙ ap (λ (m : ℕ). replicate m (pos 0)) (sym (ap length e ∙ length-replicate n (pos 0)))

module _ (places : List ℕ) (parts : List ℤ) (i m : ℕ) (all : (j : ℕ) → j < i → InRange m (get_or parts j (pos 0))) where
  abbrev rows : List (ℕ × ℤ)
  rows = placed (pos 0) places parts i

  contents-range : (k : ℕ) (c : ℤ) → Member c (contents_of whole_sums k rows) → InRange m c
  unfolding contents_of
  contents-range k c n =
      let (row, own, e) = of-member-map (λ row. row.1) (select (λ row. whole_sums.same row.0 k) rows) c n in
      let inside = (of-member-select (λ row. whole_sums.same row.0 k) rows row own).0 in
      rw e (placed_each (InRange m) (pos 0) places parts i all row inside)

  pub place-range : (k : ℕ) → InRange (i * m) (fold_key whole_sums k rows)
  unfolding fold_key
  place-range k =
      let some = fold_bound m (contents_of whole_sums k rows) (contents-range k) in
      let few : length (contents_of whole_sums k rows) * m ≤ i * m =
      mul-le-mul_right m (omega (arith, contents-few whole_sums k rows, placed-length (pos 0) places parts i)) in
      omega (arith)

-- one number more
pub parts_next : (n : ℕ) (places : List ℕ) (parts : List ℤ) (i : ℕ) → get_or places i 0 < n
    → set (place_values whole_sums n (placed (pos 0) places parts i)) (get_or places i 0)
    (get_or (place_values whole_sums n (placed (pos 0) places parts i)) (get_or places i 0) (pos 0) +ℤ get_or parts i (pos 0))
    ≡ place_values whole_sums n (placed (pos 0) places parts (i + 1))
unfolding placed
parts_next n places parts i h =
    values-next whole_sums n place_equality (placed (pos 0) places parts i) (get_or places i 0) (get_or parts i (pos 0)) (pos 0) h
    ∙ ap (λ (k : ℕ). place_values whole_sums n (placed (pos 0) places parts k)) (sym (add-one i))
