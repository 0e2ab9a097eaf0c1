-- A list filled with z from its start.
use Prim.Native.Nat.{ℕ, ◌-◌}
use mathlib.Core.Path.{◌≡◌, ap}
use mathlib.Core.List.{List, ◌++◌}
use native.Mathlib.Omega.{arith}
use lib.ListN.{length, take, replicate}

-- a list filled from its start is z alone
pub filled_all : {A : Type 0} (z : A) (list : List A) {n : ℕ} → length list ≡ n → take 0 list ++ replicate (length list - 0) z ≡ replicate n z
filled_all z list {n} e = let long : length list - 0 ≡ n = omega arith in ap (λ (k : ℕ). replicate k z) long
