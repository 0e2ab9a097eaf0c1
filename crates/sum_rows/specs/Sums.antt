-- Sums of coefficients by word: what a word's rows come to, by the logic's account of IEEE 754, and what folding rows comes to.
use Rattle.std.specs.Prelude.{ℕ, suc, Bool, true, false, not, List, [], ◌∷◌, ltb, eqb, pos, Float}
use Rattle.std.specs.Float.{nan, inf, fin, binary64}
use Rattle.std.specs.Float.Ieee.{add}
use Rattle.outcome.specs.declared.Refusal.TheVariants as Refusal
use Rattle.outcome.specs.Outcome.{Outcome, answer, Check, rule, unless, itself, or_else}
use Rattle.action.specs.Lists.{every}
use Rattle.keyed.specs.Keyed.{Fold, table_of, running_from, running, first_failing}
use Rattle.row_words.specs.Words.{filled}
use Rattle.sum_rows.specs.declared.row_sum.RowSum.{RowSum}

-- 0.0
abbrev pub zero : Float
zero = fin false 0 (pos 0)

-- whether a float is a number, and not an infinity or a NaN
abbrev pub finite : Float → Bool
finite nan = false
finite (inf s) = false
finite (fin s m e) = true

-- no rows: the sum starts at 0.0
abbrev pub no_rows : RowSum
no_rows = record { coefficient = zero; rows = 0 }

-- one row more: its coefficient is added, rounded once
unfoldable pub add_row : RowSum → Float → RowSum
unfolding add
add_row s c = record { coefficient = add binary64 s.coefficient c; rows = suc s.rows }

-- sums by keys of any kind: the running sum and the number of rows
abbrev pub sums_by : {K : Type 0} → (K → K → Bool) → (K → K → Bool) → Fold K Float RowSum
sums_by less same = record { less = less; same = same; start = no_rows; step = add_row }

-- sums by place
abbrev pub place_sums : Fold ℕ Float RowSum
place_sums = sums_by ltb eqb

abbrev pub finite_sum : RowSum → Bool
finite_sum s = finite s.coefficient

-- 25: a running sum not finite, with the first row that makes one so
abbrev pub overflow : {K : Type 0} → Fold K Float RowSum → List (K × Float) → Check
overflow f rows = rule (Refusal.SumNotFinite (first_failing finite_sum (running f rows))) (not (every finite_sum (running f rows)))

-- rows folded by their keys: 25, or each key once, in rising order, with what its rows come to
unfoldable pub fold_outcome : {K : Type 0} → Fold K Float RowSum → List (K × Float) → Outcome (List (K × RowSum))
unfolding table_of running_from first_failing every
fold_outcome f rows = unless (overflow f rows ∷ []) (answer (table_of f rows))

-- ---- the lists of a sum of k rows that is folded: the rows of the table, and zeros after them

abbrev pub sums_filled : {K : Type 0} → ℕ → List (K × RowSum) → List Float
sums_filled k table = filled zero (λ row. row.1.coefficient) k table

abbrev pub counts_filled : {K : Type 0} → ℕ → List (K × RowSum) → List ℕ
counts_filled k table = filled 0 (λ row. row.1.rows) k table

-- the rows that are handed back: none beside a refusal
abbrev pub handed_back : {A : Type 0} → Outcome (List A) → List A
handed_back o = or_else itself [] o
