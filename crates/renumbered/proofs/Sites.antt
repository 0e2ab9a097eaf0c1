-- Refinement site after site: what is known of the candidates left after some sites of a plane are read.
use Prim.Native.Nat.{ℕ, suc, ◌+◌, ◌≤◌, ◌<◌}
use mathlib.Core.Path.{◌≡◌, sym, ◌∙◌}
use mathlib.Core.Bool.{Bool}
use mathlib.Core.List.{List}
use native.Mathlib.Nat.{add-zero}
use native.Mathlib.Omega.{arith}
use lib.Dec.{eqb}
use Rattle.action.specs.Permutation.{Generator}
use Rattle.grid.specs.Grid.{further}
use Rattle.grid.specs.Candidates.{Left}
use Rattle.grid.specs.Stages.{Refined}
use Rattle.grid.specs.declared.refine.Stage.TheVariants.{Alone, Through}
use Rattle.grid.proofs.Refining.{left_alone}
use Rattle.grid.proofs.Rounds.{Rounds}
use Rattle.renumbered.specs.Renumbered.{at}

-- from bit t on, candidate k has at site q the bit that the plane has k further on than the number of q
abbrev pub Shows : List Generator → ℕ → ℕ → (ℕ → Bool) → List ℕ → (ℕ → ℕ → Bool) → ℕ → Type 0
Shows gs n order b place F t = (q k : ℕ) → q < n → k < order → F k (t + q) ≡ b (further gs k (at place q))

-- the first q sites are read
pub record Read (gs : List Generator) (n order : ℕ) (b : ℕ → Bool) (place : List ℕ) (left₀ left : ℕ → Bool) (q : ℕ) : Type 0 where
  pub inside : q ≤ n
  pub left' : (F : ℕ → ℕ → Bool) (t : ℕ) → Left order F t left₀ → Shows gs n order b place F t → Left order F (t + q) left

-- none at first
pub read_start : (gs : List Generator) (n order : ℕ) (b : ℕ → Bool) (place : List ℕ) (left₀ : ℕ → Bool) → Read gs n order b place left₀ left₀ 0
read_start gs n order b place left₀ = record { inside = omega arith; left' = λ F t l s. rw add-zero l }

module _ {gs : List Generator} {n order : ℕ} {b : ℕ → Bool} {place : List ℕ} {left₀ left : ℕ → Bool} {q : ℕ}
    (r : Read gs n order b place left₀ left q) (more : q < n) (bits : ℕ → Bool) (has : (k : ℕ) → k < order → bits k ≡ b (further gs k (at place q)))
    (left'' : ℕ → Bool) (round : Rounds bits left left'') where
  -- a round reads the next site
  read-round : (F : ℕ → ℕ → Bool) (t : ℕ) → Left order F t left₀ → Shows gs n order b place F t → Left order F (suc (t + q)) left''
  read-round F t l s = round order (t + q) F (r.left' F t l s) (λ k m. has k m ∙ sym (s q k more m))

  -- where one is left it is left by the whole plane
  pub read-alone : (k : ℕ) → ((j : ℕ) → left'' j ≡ eqb j k) → (F : ℕ → ℕ → Bool) (t : ℕ) → Left order F t left₀ → Shows gs n order b place F t
      → Refined (Alone k) order F (t + n) left''
  read-alone k one F t l s = (left_alone (read-round F t l s) (omega arith) k one, one)

  -- or refining goes on to the next site
  pub read_next : Read gs n order b place left₀ left'' (q + 1)
  read_next = record {
    inside = omega arith;
    left' = λ F t l s. let e : suc (t + q) ≡ t + (q + 1) = omega arith in rw e at (read-round F t l s);
  }

-- after the last site the plane is read
pub read_end : {gs : List Generator} {n order : ℕ} {b : ℕ → Bool} {place : List ℕ} {left₀ left : ℕ → Bool} {q : ℕ}
    → Read gs n order b place left₀ left q → n ≤ q
    → (F : ℕ → ℕ → Bool) (t : ℕ) → Left order F t left₀ → Shows gs n order b place F t → Refined Through order F (t + n) left
read_end {n = n} {q = q} r over F t l s = let e : q ≡ n = omega (arith, r.inside) in rw e at (r.left' F t l s)
