-- What rows added one after the other come to, part by part: the left fold of the coefficients, and how many they are.
use Prim.Native.Nat.{◌+◌}
use mathlib.Core.Path.{◌≡◌, refl, ◌∙◌}
use mathlib.Core.List.{List, [], ◌∷◌}
use native.Mathlib.Omega.{arith}
use lib.ListN.{length}
use lib.Ieee.{Float, binary64, add}
use Rattle.keyed.specs.Keyed.{left_fold}
use Rattle.sum_rows.specs.declared.row_sum.RowSum.{RowSum}
use Rattle.sum_rows.specs.Sums.{add_row}

pub fold_coefficient : (s : RowSum) (cs : List Float) → (left_fold add_row s cs).coefficient ≡ left_fold (add binary64) s.coefficient cs
unfolding left_fold add_row
fold_coefficient s [] = refl
fold_coefficient s (c ∷ cs) = fold_coefficient (add_row s c) cs

pub fold-rows : (s : RowSum) (cs : List Float) → (left_fold add_row s cs).rows ≡ s.rows + length cs
unfolding left_fold add_row
fold-rows s [] = omega arith
fold-rows s (c ∷ cs) = fold-rows (add_row s c) cs ∙ omega arith
