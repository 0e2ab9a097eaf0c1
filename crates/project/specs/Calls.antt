-- What projecting a sum comes to: its checks in their order, then each representative of a kept row with the sum of what its rows add; and what
-- the output lists hold afterwards.
use Rattle.std.specs.Prelude.{ℕ, ◌^◌, ◌%◌, not, List, ◌∷◌, ◌++◌, map, eqb, ℤ, pos, length}
use Rattle.outcome.specs.declared.Refusal.TheVariants as Refusal
use Rattle.outcome.specs.Outcome.{Outcome, answer, refusal_of, Check, rule, unless, or_else}
use Rattle.pauli_word.specs.Word.{Word}
use Rattle.pauli_word.specs.Bytes.{letters_in, bytes_of}
use Rattle.action.specs.Sector.{modulus}
use Rattle.group.specs.declared.Group.{Group}
use Rattle.group.specs.Value.{generators_of}
use Rattle.group.specs.Calls.{value_checks}
use Rattle.momentum.specs.Calls.{mode_count}
use Rattle.keyed.specs.Keyed.{renamed}
use Rattle.row_lists.specs.Rows.{rows_in, rows_in_full}
use Rattle.row_lists.specs.Checks.{list_checks}
use Rattle.row_words.specs.Words.{words_filled, filled}
use Rattle.phases.specs.declared.PhaseTable.{PhaseTable}
use Rattle.phases.specs.Rules.{turn, in_range}
use Rattle.phases.specs.Checks.{broken_table}
use Rattle.projection.specs.Projection.{Parts, kept_rows, dropped_rows, projected}
use Rattle.project.specs.declared.Projection.{Projection}

-- coefficients lie in -maxCoefficient .. max_coefficient
abbrev pub max_coefficient : ℕ
max_coefficient = 2 ^ 20

-- ---- the checks: 1, 14, 18, 32, 35, 22, 23, 36, and then the rows in order, each for 17 and 33

-- 32: the phase modulus does not divide the entries of a phase table
abbrev pub other_modulus : Group → Check
other_modulus g = rule Refusal.PhaseModulus (not (eqb (turn % modulus (generators_of g)) 0))

-- 33 of row i: a coefficient out of its range
abbrev pub out_of_range : ℕ → ℤ → Check
out_of_range i c = rule (Refusal.CoefficientRange i) (not (in_range max_coefficient c))

-- the last three are the lengths of the output lists
abbrev pub project_checks : PhaseTable → Group → List ℤ → List ℕ → List ℤ → ℕ → ℕ → ℕ → List Check
project_checks t g ks words cs leasts cosines sines =
    value_checks g ++ (mode_count g ks ∷ other_modulus g ∷ broken_table t ∷ list_checks out_of_range g.sites words cs leasts cosines sines)

-- ---- the sum

-- the rows of a sum of n sites whose words are in full, each word by its letters
unfoldable pub input_rows : ℕ → List ℕ → List ℤ → List (Word × ℤ)
input_rows n words cs = map (renamed (letters_in n)) (rows_in words cs)

-- what comes out: how many rows have a kept orbit, how many a dropped one, and each representative of a kept row with its sum
pub record ProjectedSum : Type 0 where
  pub kept : ℕ
  pub dropped : ℕ
  pub table : List (Word × Parts)

unfoldable pub projected_sum : PhaseTable → Group → List ℤ → List (Word × ℤ) → ProjectedSum
projected_sum t g ks rows =
    record {
      kept = length (kept_rows (generators_of g) ks rows);
      dropped = length (dropped_rows (generators_of g) ks rows);
      table = projected t.cosines t.sines (generators_of g) ks rows;
    }

unfoldable pub project_outcome : PhaseTable → Group → List ℤ → List ℕ → List ℤ → ℕ → ℕ → ℕ → Outcome ProjectedSum
project_outcome t g ks words cs leasts cosines sines =
    unless (project_checks t g ks words cs leasts cosines sines) (answer (projected_sum t g ks (input_rows g.sites (rows_in_full (length cs) words) cs)))

-- ---- the answer, and the output lists afterwards: as they were on a refusal; else the rows of the table, and zeros after them, k in all

-- the counts as the call hands them back
abbrev pub projection_of : ProjectedSum → Projection
projection_of s = record { kept = s.kept; dropped = s.dropped }

abbrev pub counts_of : ProjectedSum → ℕ × ℕ
counts_of s = (s.kept, s.dropped)

abbrev pub words_after : List ℕ → ℕ → Outcome ProjectedSum → List ℕ
words_after was k o = or_else (λ s. words_filled k (map (renamed bytes_of) s.table)) was o

abbrev pub cosines_after : List ℤ → ℕ → Outcome ProjectedSum → List ℤ
cosines_after was k o = or_else (λ s. filled (pos 0) (λ row. row.1.0) k s.table) was o

abbrev pub sines_after : List ℤ → ℕ → Outcome ProjectedSum → List ℤ
sines_after was k o = or_else (λ s. filled (pos 0) (λ row. row.1.1) k s.table) was o
