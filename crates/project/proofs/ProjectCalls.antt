-- The call as its parts give it: refused by its checks, with the lists as they were; or, past them, the projected sum of the rows.
use Prim.Native.Nat.{ℕ, ◌-◌, ◌<◌}
use mathlib.Core.Path.{◌≡◌, sym, ap, ◌∙◌}
use mathlib.Core.Bool.{true}
use mathlib.Core.List.{List, map}
use native.Mathlib.Decide.{dec_lt}
use native.Mathlib.Omega.{arith}
use lib.IntN.{ℤ, pos}
use lib.ListN.{length, get_or, get_or-eq_default}
use Rattle.outcome.specs.declared.Refusal.{Refusal}
use Rattle.outcome.specs.Outcome.{answer, refusal_of, verdict, on_answer}
use Rattle.outcome.proofs.Outcomes.{call-refused, call-answers}
use Rattle.pauli_word.specs.Word.{Word}
use Rattle.pauli_word.specs.Bytes.{bytes_of}
use Rattle.group.specs.declared.Group.{Group}
use Rattle.group.specs.Value.{generators_of}
use Rattle.keyed.specs.Keyed.{renamed}
use Rattle.row_lists.specs.Rows.{row_size, in_full_by, rows_in_full}
use Rattle.row_words.specs.Words.{words_filled, filled}
use Rattle.phases.specs.declared.PhaseTable.{PhaseTable}
use Rattle.phases.specs.Rules.{turn, unit, InRange, cosine, sine, passes}
use Rattle.phases.proofs.Tests.{passes_range}
use Rattle.projection.specs.Projection.{kept_rows, dropped_rows, projected}
use Rattle.projection.proofs.Projected.{counts-add}
use Rattle.project.specs.declared.Projection.{Projection}
use Rattle.project.specs.Calls.{project_checks, input_rows, projected_sum, project_outcome, projection_of, words_after, cosines_after, sines_after}
use Rattle.project.specs.Rows.{PhaseLists}
use Rattle.project.proofs.TurnedRows.{input-length}

-- ---- the lists of a table that passes

-- a list that is in range at its places is in range everywhere
everywhere : (xs : List ℤ) → length xs ≡ turn → ((e : ℕ) → e < turn → InRange unit (get_or xs e (pos 0))) → (e : ℕ) → InRange unit (get_or xs e (pos 0))
everywhere xs long inside e = go (dec_lt e turn)
  where
    go : Dec (e < turn) → InRange unit (get_or xs e (pos 0))
    go (yes h) = inside e h
    go (no n) = rw (get_or-eq_default xs (pos 0) {n = e} (omega (arith, n))) (omega arith)

pub passing_lists : (t : PhaseTable) → length t.cosines ≡ turn → length t.sines ≡ turn → passes t ≡ true → PhaseLists t.cosines t.sines
unfolding cosine sine
passing_lists t long also fine =
    let range = passes_range t fine in
    record {
      cosines_long = long;
      sines_long = also;
      cosines_in = everywhere t.cosines long range.cosines;
      sines_in = everywhere t.sines also range.sines;
    }

-- ---- the outcome

module _ (t : PhaseTable) (g : Group) (ks : List ℤ) (words : List ℕ) (cs : List ℤ) (a b c : ℕ) where
  pub project-refused : (why : Refusal) → verdict (project_checks t g ks words cs a b c) ≡ refusal_of why → project_outcome t g ks words cs a b c ≡ refusal_of why
  unfolding project_outcome
  project-refused =
      call-refused (project_checks t g ks words cs a b c) (answer (projected_sum t g ks (input_rows g.sites (rows_in_full (length cs) words) cs)))

  -- by the rows in full of the size that the code has found
  module _ (pass : verdict (project_checks t g ks words cs a b c) ≡ answer tt) {size : ℕ} (sized : size ≡ row_size (length words) (length cs)) where
    abbrev rows : List (Word × ℤ)
    rows = input_rows g.sites (in_full_by size (length cs) words) cs

    project-answers : project_outcome t g ks words cs a b c ≡ answer (projected_sum t g ks rows)
    unfolding project_outcome
    project-answers =
        rw sized
        (call-answers (project_checks t g ks words cs a b c) (answer (projected_sum t g ks (input_rows g.sites (rows_in_full (length cs) words) cs))) pass)

    -- the answer, by the rows that are kept
    abbrev pub by_counts : ℕ → ℕ → Projection
    by_counts kept dropped = record { kept = kept; dropped = dropped }

    pub answered-counts : {kept : ℕ} → kept ≡ length (kept_rows (generators_of g) ks rows)
        → answer (by_counts kept (length cs - kept)) ≡ on_answer projection_of (project_outcome t g ks words cs a b c)
    unfolding projected_sum
    answered-counts {kept} e =
        let left : length cs - kept ≡ length (dropped_rows (generators_of g) ks rows) =
        omega (arith, counts-add (generators_of g) ks rows, input-length g.sites (in_full_by size (length cs) words) cs) in
        rw (e, rw e at left) (sym (ap (on_answer projection_of) project-answers))

    -- the lists
    pub answered-words : {out : List ℕ} (was : List ℕ) → out ≡ words_filled (length cs) (map (renamed bytes_of) (projected t.cosines t.sines (generators_of g) ks rows))
        → out ≡ words_after was (length cs) (project_outcome t g ks words cs a b c)
    unfolding projected_sum
    answered-words was e = e ∙ sym (ap (words_after was (length cs)) project-answers)

    pub answered-cosines : {out : List ℤ} (was : List ℤ) → out ≡ filled (pos 0) (λ row. row.1.0) (length cs) (projected t.cosines t.sines (generators_of g) ks rows)
        → out ≡ cosines_after was (length cs) (project_outcome t g ks words cs a b c)
    unfolding projected_sum
    answered-cosines was e = e ∙ sym (ap (cosines_after was (length cs)) project-answers)

    pub answered-sines : {out : List ℤ} (was : List ℤ) → out ≡ filled (pos 0) (λ row. row.1.1) (length cs) (projected t.cosines t.sines (generators_of g) ks rows)
        → out ≡ sines_after was (length cs) (project_outcome t g ks words cs a b c)
    unfolding projected_sum
    answered-sines was e = e ∙ sym (ap (sines_after was (length cs)) project-answers)
