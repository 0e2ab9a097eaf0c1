-- How large sums of lists become. The fact that carries it: a sum of k numbers, each of magnitude at most m, has magnitude at most k m
-- (`fold-bound`).
use Prim.Native.Nat.{ℕ, ◌+◌, ◌*◌, ◌≤◌}
use native.Mathlib.Nat.{mul-le-mul, suc-mul}
use native.Mathlib.Omega.{arith}
use mathlib.Core.Path.{refl}
use mathlib.Core.Logic.{inl, inr}
use mathlib.Core.List.{List, [], ◌∷◌, map}
use lib.IntN.{ℤ, pos, ◌+ℤ◌, ◌*ℤ◌}
use lib.ListN.{length, get_or, length-map}
use Rattle.pauli_word.specs.Word.{Word}
use Rattle.action.specs.Lists.{Member}
use Rattle.action.specs.Permutation.{Generator}
use Rattle.action.proofs.Lists.{of-member-map}
use Rattle.keyed.specs.Keyed.{left_fold}
use Rattle.phases.specs.Rules.{magnitude}
use Rattle.phases.proofs.Ranges.{magnitude-sum, magnitude-product}
use Rattle.projection.specs.Projection.{entry_of, sum_along}

fold_bound-from :
    (m : ℕ) (z : ℤ) (xs : List ℤ) → ((x : ℤ) → Member x xs → magnitude x ≤ m)
    → magnitude (left_fold ◌+ℤ◌ z xs) ≤ magnitude z + length xs * m
unfolding left_fold
fold_bound-from m z [] h = omega arith
fold_bound-from m z (x ∷ xs) h =
    omega (arith, fold_bound-from m (z +ℤ x) xs (λ y k. h y (inr k)), magnitude-sum z x, h x (inl refl), suc-mul (length xs) m)

-- numbers of magnitude at most m
pub fold_bound : (m : ℕ) (xs : List ℤ) → ((x : ℤ) → Member x xs → magnitude x ≤ m) → magnitude (left_fold ◌+ℤ◌ (pos 0) xs) ≤ length xs * m
fold_bound m xs h = omega (arith, fold_bound-from m (pos 0) xs h)

module _ (gs : List Generator) (ks : List ℤ) (c u : ℕ) where
  abbrev Small : List (Word × ℤ) → Type 0
  Small rows = (row : Word × ℤ) → Member row rows → magnitude row.1 ≤ c

  abbrev Bounded : List ℤ → Type 0
  Bounded numbers = (e : ℕ) → magnitude (get_or numbers e (pos 0)) ≤ u

  -- coefficients of magnitude at most c along a list of numbers of magnitude at most u
  pub sum_bound :
      (numbers : List ℤ) → Bounded numbers → (rows : List (Word × ℤ)) → Small rows
      → magnitude (sum_along numbers gs ks rows) ≤ length rows * (c * u)
  unfolding sum_along
  sum_bound numbers b rows small =
      rw (← length-map rows adds)
      (fold_bound (c * u) (map adds rows)
      (λ x m.
      let (row, n, e) = of-member-map adds rows x m in
      rw (e, magnitude-product row.1 (get_or numbers (entry_of gs ks row.0) (pos 0)))
      (mul-le-mul (small row n) (b (entry_of gs ks row.0)))))
    where
      adds : Word × ℤ → ℤ
      adds row = row.1 *ℤ get_or numbers (entry_of gs ks row.0) (pos 0)
