-- The X plane and then the Z plane: what refining by both says of the words that candidates give.
use Prim.Native.Nat.{ℕ, ◌+◌, ◌-◌, ◌≤◌, ◌<◌}
use mathlib.Core.Path.{◌≡◌, sym, ap, ◌∙◌}
use mathlib.Core.Bool.{Bool, true, false, cond}
use mathlib.Core.List.{List}
use native.Mathlib.Nat.{zero-add, add-sub_cancel_left}
use native.Mathlib.Omega.{arith}
use lib.Dec.{ltb, eqb}
use borrow.Author.Tests.{lt-ltb, le-ltb}
use Rattle.action.specs.Permutation.{Generator, Valid}
use Rattle.action.specs.Index.{order_of}
use Rattle.packed.specs.Packed.{bit_of, letters_at}
use Rattle.grid.specs.Grid.{Grid, further}
use Rattle.grid.specs.Candidates.{candidate_bit, Left}
use Rattle.grid.specs.Stages.{Refined, Staged}
use Rattle.grid.specs.declared.refine.Stage.{Stage}
use Rattle.grid.specs.declared.refine.Stage.TheVariants.{Alone, Through, Tired}
use Rattle.grid.proofs.Leads.{left-among, left-leading, among-alone}
use Rattle.grid.proofs.Rounds.{Reads}

-- the bits of the words that candidates give, of a word in two planes
abbrev pub bits_of : List Generator → ℕ → List ℕ → List ℕ → ℕ → ℕ → Bool
bits_of gs n xs zs = candidate_bit gs n (bit_of xs) (bit_of zs)

-- the first n bits are those of the X plane
pub reads_x : (gs : List Generator) (n order : ℕ) (xs zs : List ℕ) → Reads gs n order (bit_of xs) (bits_of gs n xs zs) 0
reads_x gs n order xs zs q k h m =
    ap (bits_of gs n xs zs k) (zero-add q)
    ∙ ap (λ (t : Bool). cond t (bit_of xs (further gs k q)) (bit_of zs (further gs k (q - n)))) (lt-ltb q n h)

-- the next n are those of the Z plane
pub reads_z : (gs : List Generator) (n order : ℕ) (xs zs : List ℕ) → Reads gs n order (bit_of zs) (bits_of gs n xs zs) (0 + n)
reads_z gs n order xs zs q k h m =
    let e : 0 + n + q ≡ n + q = omega arith in
    ap (bits_of gs n xs zs k) e
    ∙ ap (λ (t : Bool). cond t (bit_of xs (further gs k (n + q))) (bit_of zs (further gs k (n + q - n)))) (le-ltb (n + q) n (omega arith))
    ∙ ap (λ (p : ℕ). bit_of zs (further gs k p)) (add-sub_cancel_left n q)

module _ {n : ℕ} {gs : List Generator} (v : Valid n gs) (grid : Grid n gs) {order : ℕ} (whole : order ≡ order_of gs) (xs zs : List ℕ) (S : ℕ → Bool) where
  -- one that is left gives the least word
  pub staged-alone : (k t : ℕ) → t ≤ n + n → Refined (Alone k) order (bits_of gs n xs zs) t S → Staged (Alone k) gs (letters_at n xs zs) S
  staged-alone k t h (l, one) = (among-alone k (left-among v grid (bit_of xs) (bit_of zs) t h (rw whole at l)) one, one)

  -- those that are left where refining stops are not greater than others
  pub staged-tired : (t : ℕ) → t ≤ n + n → Refined Tired order (bits_of gs n xs zs) t S → Staged Tired gs (letters_at n xs zs) S
  staged-tired t h (u, low, l) = left-among v grid (bit_of xs) (bit_of zs) u (omega arith) (rw whole at l)

  -- those that are left when all bits are read give the least word, and no others do
  pub staged-end : (r : Stage) → Refined r order (bits_of gs n xs zs) (0 + n + n) S → Staged r gs (letters_at n xs zs) S
  staged-end (Alone k) l = staged-alone k (0 + n + n) (omega arith) l
  staged-end Through l = let e : 0 + n + n ≡ n + n = omega arith in left-leading v grid (bit_of xs) (bit_of zs) (rw e at (rw whole at l))
  staged-end Tired l = staged-tired (0 + n + n) (omega arith) l
