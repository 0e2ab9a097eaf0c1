-- What is promised of the front of a list beyond its definition: it has as many members as were asked for; and what the definition says of examples.
use Prim.Native.Nat.{ℕ, ◌-◌}
use mathlib.Core.Path.{◌≡◌, refl}
use mathlib.Core.List.{List, [], ◌∷◌}
use native.Mathlib.Omega.{arith}
use lib.ListN.{length, take, replicate, length-append, length-take, length-replicate}
use Rattle.case_text.specs.Rows.{front}

pub front-length : {T : Type 0} (none : T) (n : ℕ) (list : List T) → length (front none n list) ≡ n
front-length none n list =
    omega (arith, length-append (take n list) (replicate (n - length list) none), length-take n list, length-replicate (n - length list) none)

-- of three members the first two; all three, and zeros after them
pub first-two : front {T = ℕ} 0 2 (7 ∷ 8 ∷ 9 ∷ []) ≡ 7 ∷ 8 ∷ []
first-two = refl

pub zeros-after : front {T = ℕ} 0 5 (7 ∷ 8 ∷ 9 ∷ []) ≡ 7 ∷ 8 ∷ 9 ∷ 0 ∷ 0 ∷ []
zeros-after = refl
