-- Coefficients added at their places: no rows, one row more, and the first row whose running sum is not finite, which refuses.
-- The fact that carries it: one row more changes the value of its own place alone (`parts_next`).
use Prim.Native.Nat.{ℕ, ◌+◌, ◌≤◌, ◌<◌}
use native.Mathlib.Numerals.{add-one}
use native.Mathlib.Omega.{arith}
use mathlib.Core.Path.{◌≡◌, sym, ◌∙◌, ap, ap₂}
use mathlib.Core.Bool.{true, false}
use mathlib.Core.List.{List, [], ◌∷◌, ◌++◌, map}
use lib.ListN.{length, get_or, set, replicate}
use lib.Ieee.{Float, nan}
use Rattle.outcome.specs.declared.Refusal.TheVariants as Refusal
use Rattle.outcome.specs.Outcome.{refusal_of, answer, verdict}
use Rattle.action.specs.Lists.{every}
use Rattle.action.proofs.Lists.{every_append}
use Rattle.keyed.specs.Keyed.{contents_of, fold_key, running_from, running, placed, place_values}
use Rattle.keyed.proofs.Folds.{contents-few, every-failing, first_failing-at, fold-own, running-length, running-split, running-next}
use Rattle.keyed.proofs.Places.{place_equality, parts-length, part_at, parts-start, parts_next, placed_row, placed-length, placed-split}
use Rattle.row_lists.specs.Rows.{max_rows}
use Rattle.sum_rows.specs.declared.row_sum.RowSum.{RowSum}
use Rattle.sum_rows.specs.Sums.{zero, no_rows, add_row, finite_sum, overflow, place_sums}
use Rattle.sum_rows.specs.Added.{held_at, Added}
use Rattle.sum_rows.proofs.RowSums.{fold-rows}

-- a place has at most as many rows as there are
few_rows_lem : (p : ℕ) (rows : List (ℕ × Float)) → (fold_key place_sums p rows).rows ≤ length rows
unfolding fold_key
few_rows_lem p rows = omega (arith, fold-rows no_rows (contents_of place_sums p rows), contents-few place_sums p rows)

module _ (places : List ℕ) (cs : List Float) where
  -- the first i rows, and where row i is added
  abbrev pub rows_to : ℕ → List (ℕ × Float)
  rows_to i = placed nan places cs i

  abbrev at : ℕ → ℕ
  at i = get_or places i 0

  pub added-start : Added places cs 0 (replicate (length cs) zero) (replicate (length cs) 0)
  unfolding placed
  added-start = record {
    coefficients = sym (parts-start place_sums (length cs) (λ s. s.coefficient));
    rows = sym (parts-start place_sums (length cs) (λ s. s.rows));
  }

  -- ---- row i, the rows before it added

  module _ {i : ℕ} {sums : List Float} {counts : List ℕ} (h : Added places cs i sums counts) where
    pub sums-length : length sums ≡ length cs
    sums-length = ap length h.coefficients ∙ parts-length place_sums (length cs) (λ s. s.coefficient) (rows_to i)

    pub counts-length : length counts ≡ length cs
    counts-length = ap length h.rows ∙ parts-length place_sums (length cs) (λ s. s.rows) (rows_to i)

    module _ (inside : get_or places i 0 < length cs) where
      held-fold : held_at sums counts (at i) ≡ fold_key place_sums (at i) (rows_to i)
      held-fold =
          ap₂ (λ (xs : List Float) (ns : List ℕ). held_at xs ns (at i)) h.coefficients h.rows
          ∙ ap₂ (λ (c : Float) (n : ℕ). record { coefficient = c; rows = n })
          (part_at place_sums (length cs) (λ s. s.coefficient) (rows_to i) nan (at i) inside)
          (part_at place_sums (length cs) (λ s. s.rows) (rows_to i) 0 (at i) inside)

      pub few-counted : i < length cs → length cs ≤ max_rows → get_or counts (get_or places i 0) 0 < max_rows
      few-counted l few =
          omega (arith, ap (λ (s : RowSum). s.rows) held-fold, few_rows_lem (at i) (rows_to i), placed-length nan places cs i)

      abbrev new : RowSum
      new = add_row (held_at sums counts (at i)) (get_or cs i nan)

      pub added_next : {sums' : List Float} {counts' : List ℕ} → sums' ≡ set sums (get_or places i 0) new.coefficient
          → counts' ≡ set counts (get_or places i 0) new.rows → Added places cs (i + 1) sums' counts'
      unfolding placed
      added_next d e =
          rw add-one
          record { coefficients = d ∙ next (λ s. s.coefficient) sums h.coefficients; rows = e ∙ next (λ s. s.rows) counts h.rows }
        where
          next : {A : Type 0} (part : RowSum → A) (xs : List A) → xs ≡ map part (place_values place_sums (length cs) (rows_to i))
              → set xs (at i) (part new) ≡ map part (place_values place_sums (length cs) (rows_to i ++ (placed_row nan places cs i ∷ [])))
          next part xs e =
              ap₂ (λ (ys : List _) (s : RowSum). set ys (at i) (part (add_row s (get_or cs i nan)))) e held-fold
              ∙ parts_next place_sums (length cs) part place_equality (rows_to i) (at i) (get_or cs i nan) inside

      -- the running sum at row i
      new-running : new ≡ fold_key place_sums (at i) (rows_to i ++ (placed_row nan places cs i ∷ []))
      new-running = ap (λ (s : RowSum). add_row s (get_or cs i nan)) held-fold ∙ sym (fold-own place_sums place_equality (rows_to i) (placed_row nan places cs i))

      pub finite-next : every finite_sum (running place_sums (rows_to i)) ≡ true → finite_sum new ≡ true
          → every finite_sum (running place_sums (rows_to (i + 1))) ≡ true
      unfolding placed every
      finite-next before e =
          rw (add-one, running-next place_sums (rows_to i) (placed_row nan places cs i), every_append finite_sum, before, ← new-running, e)

      pub add-refused : every finite_sum (running place_sums (rows_to i)) ≡ true → finite_sum new ≡ false → i < length cs
          → verdict (overflow place_sums (rows_to (length cs)) ∷ []) ≡ refusal_of (Refusal.SumNotFinite i)
      add-refused before e l =
          let row : ℕ × Float = placed_row nan places cs i in
          let seen : List RowSum = running place_sums (rows_to i) in
          let (rest, split) = placed-split nan places cs (length cs) i l in
          let after : List RowSum = running_from place_sums (rows_to i ++ (row ∷ [])) rest in
          let sums : running place_sums (rows_to (length cs)) ≡ seen ++ (new ∷ after) =
          ap (running place_sums) split
          ∙ running-split place_sums (rows_to i) row rest
          ∙ ap (λ (s : RowSum). seen ++ (s ∷ after)) (sym new-running) in
          rw (
            sums,
            every-failing finite_sum seen new after e,
            first_failing-at finite_sum seen new after before e,
            running-length place_sums (rows_to i),
            placed-length nan places cs i,
          )

  pub add-passes : every finite_sum (running place_sums (rows_to (length cs))) ≡ true → answer tt ≡ verdict (overflow place_sums (rows_to (length cs)) ∷ [])
  add-passes h = rw h
