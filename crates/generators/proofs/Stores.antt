-- A list whose places are stored one after the other: what stands at the places before.
-- What carries it: a store changes its own place alone.
use Prim.Native.Nat.{ℕ, ◌+◌, ◌<◌}
use mathlib.Core.Path.{◌≡◌, ◌∙◌}
use mathlib.Core.List.{List}
use native.Mathlib.Omega.{arith}
use lib.ListN.{length, get_or, set}
use lib.Seq.{get_or-set_same, get_or-set_other}
use borrow.Author.Count.{below_more}

-- below i, the places hold the values of f
abbrev pub Holds : (ℕ → ℕ) → List ℕ → ℕ → Type 0
Holds f l i = (k : ℕ) → k < i → get_or l k 0 ≡ f k

pub holds-next : (f : ℕ → ℕ) (l : List ℕ) (i v : ℕ) → i < length l → v ≡ f i → Holds f l i → Holds f (set l i v) (i + 1)
holds-next f l i v h e before =
    below_more (λ k. get_or (set l i v) k 0 ≡ f k) i
    (λ k m. get_or-set_other l i k v 0 (omega arith) ∙ before k m)
    (get_or-set_same l i v 0 h ∙ e)
