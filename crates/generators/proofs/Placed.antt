-- Permutations placed one after the other, max_sites places each, over zeros.
-- What carries it: a list of zeros cut anywhere is zeros, so one more permutation stored over zeros is placed after those before it.
use Prim.Native.Nat.{ℕ, ◌+◌, ◌-◌, ◌*◌, ◌≤◌, ◌<◌}
use mathlib.Core.Path.{◌≡◌, refl, sym, ap, ap₂, ◌∙◌}
use mathlib.Core.List.{List, [], ◌∷◌, ◌++◌, append_assoc, append-nil}
use native.Mathlib.Omega.{arith}
use lib.ListN.{length, take, drop, length-append, length-replicate, replicate-append-replicate}
use lib.Seq.{take_at, drop_at}
use Rattle.pauli_word.specs.Limits.{max_sites}
use Rattle.permutation.specs.Limits.{max_generators, target_places}
use Rattle.generators.specs.Tables.{filled, placed, placed_all}
use Rattle.generators.proofs.Zeros.{blank, drop-blank}

pub filled-length : (k : ℕ) (xs : List ℕ) → length xs ≤ k → length (filled k xs) ≡ k
filled-length k xs h = omega (arith, length-append xs (blank (k - length xs)), length-replicate {A = ℕ} (k - length xs) 0)

pub placed-append : (ps qs : List (List ℕ)) → placed (ps ++ qs) ≡ placed ps ++ placed qs
unfolding placed
placed-append [] qs = refl
placed-append (p ∷ ps) qs = ap (λ (l : List ℕ). filled max_sites p ++ l) (placed-append ps qs) ∙ sym (append_assoc (filled max_sites p) (placed ps) (placed qs))

-- one permutation more, stored over zeros
module _ (ps : List (List ℕ)) (p : List ℕ) (g : ℕ) (many : length (placed ps) ≡ max_sites * g) (room : g < max_generators) (small : length p ≤ max_sites) where
  one : placed (p ∷ []) ≡ filled max_sites p
  unfolding placed
  one = append-nil (filled max_sites p)

  pub placed-next-length : length (placed (ps ++ (p ∷ []))) ≡ max_sites * (g + 1)
  placed-next-length =
      ap length (placed-append ps (p ∷ []))
      ∙ length-append (placed ps) (placed (p ∷ []))
      ∙ ap₂ ◌+◌ many (ap length one ∙ filled-length max_sites p small)
      ∙ omega arith

  -- the zeros after it, up to its max_sites places and then up to the last place
  rest : blank (max_sites - length p) ++ blank (target_places - max_sites * (g + 1)) ≡ blank (target_places - max_sites * g - length p)
  rest =
      let e : max_sites - length p + (target_places - max_sites * (g + 1)) ≡ target_places - max_sites * g - length p = omega arith in
      rw (← e) (replicate-append-replicate (max_sites - length p) (target_places - max_sites * (g + 1)) 0)

  pub placed-next :
      take (max_sites * g) (placed_all ps) ++ (p ++ drop (length p) (drop (max_sites * g) (placed_all ps))) ≡ placed_all (ps ++ (p ∷ []))
  unfolding placed_all
  placed-next =
      ap₂ (λ (l r : List ℕ). l ++ (p ++ drop (length p) r))
      (take_at (placed ps) (blank (target_places - length (placed ps))) (max_sites * g) many)
      (drop_at (placed ps) (blank (target_places - length (placed ps))) (max_sites * g) many ∙ ap (λ (k : ℕ). blank (target_places - k)) many)
      ∙ ap (λ (l : List ℕ). placed ps ++ (p ++ l)) (drop-blank (length p) (target_places - max_sites * g) ∙ sym rest)
      ∙ sym
      (ap₂ (λ (l : List ℕ) (k : ℕ). l ++ blank (target_places - k)) (placed-append ps (p ∷ []) ∙ ap (λ (l : List ℕ). placed ps ++ l) one) placed-next-length
      ∙ append_assoc (placed ps) (filled max_sites p) (blank (target_places - max_sites * (g + 1)))
      ∙ ap (λ (l : List ℕ). placed ps ++ l) (append_assoc p (blank (max_sites - length p)) (blank (target_places - max_sites * (g + 1)))))
